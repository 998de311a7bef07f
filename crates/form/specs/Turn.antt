-- Turning a list into its other form (02, g): "Turn any old list into a new one and back".
use Rattle.std.specs.Prelude.{Result, Ok, Err, ℕ, ◌-◌, List, [], ◌∷◌, ◌++◌, map, Bool, false, not, ◌&&◌, ◌||◌, cond, length, take, drop, replicate, ltb, eqb}
use Rattle.record.specs.Bytes.{byte_at, all_zero, over}
use Rattle.record.specs.Lists.{parts_of}
use Rattle.record.specs.Checks.{Row, row, first_of}
use Rattle.command.specs.Task.{short_form, is_list}
use Rattle.refusal.specs.Number as refusals
use Rattle.refusal.specs.declared.Refusal.{Refusal}
use Rattle.form.specs.declared.Turned.{Turned}

-- a record in a form: its first 32 bytes and, in the long form, 16 zeros behind them
abbrev pub record_in : ℕ → List ℕ → List ℕ
record_in form b = take short_form b ++ replicate (form - short_form) 0

-- records one behind another
unfoldable pub list_of : List (List ℕ) → List ℕ
list_of [] = []
list_of (b ∷ bs) = b ++ list_of bs

-- a list in form `from`, turned into form `to`
unfoldable pub turned_list : ℕ → ℕ → List ℕ → List ℕ
turned_list from to list = list_of (map (record_in to) (parts_of from list))

-- "a command has an operation above 2 or any non-zero byte past 31"
abbrev pub stays_long : List ℕ → Bool
stays_long b = ltb 2 (byte_at b 0) || not (all_zero (drop 32 b))

unfoldable pub any_stays_long : List (List ℕ) → Bool
any_stays_long [] = false
any_stays_long (b ∷ bs) = stays_long b || any_stays_long bs

-- "a length that isn't whole records or over 64 is 10, then a short target 17, last 28", which is asked where the form gets shorter
unfoldable pub turn_rows : ℕ → ℕ → List ℕ → ℕ → List Row
turn_rows from to list room =
    row 10 (not (is_list from list))
    ∷ row 17 (ltb room (length (turned_list from to list)))
    ∷ row 28 (ltb to from && any_stays_long (parts_of from list))
    ∷ []

-- the answer, with a target of `room` bytes: the number, and the turned list's length in bytes, 0 if refused
unfoldable pub turning : ℕ → ℕ → List ℕ → ℕ → Turned
turning from to list room =
    let n = first_of (turn_rows from to list room) in
    record { number = n; length = cond (eqb n 0) (length (turned_list from to list)) 0 }

-- the target afterwards: the turned list, and past it its old bytes; on refusal what it held
unfoldable pub turned_into : ℕ → ℕ → List ℕ → List ℕ → List ℕ
turned_into from to list old =
    cond (eqb (turning from to list (length old)).number 0) (over (turned_list from to list) old) old

-- the numbers of an answer, which is the turned list's length or a refusal
unfoldable pub turned_of : Result ℕ Refusal → Turned
turned_of (Ok n) = record { number = 0; length = n }
turned_of (Err r) = record { number = refusals.number r; length = 0 }
