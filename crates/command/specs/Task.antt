-- What compiling is given, and its refusals 1 to 16, 26 and 29 (01, "Refusal numbers": "Compiling checks 1 to 11, then 12 to 15 command by
-- command, then 16, 17"). The last, 17, is asked where there is a stream buffer.
use Rattle.std.specs.Prelude.{ℕ, suc, ◌+◌, ◌-◌, ◌*◌, ◌%◌, List, [], ◌∷◌, ◌++◌, Bool, not, ◌&&◌, ◌||◌, cond, length, leb, ltb, eqb}
use Rattle.record.specs.Lists.{parts_of}
use Rattle.record.specs.Checks.{Row, row, first_of, Refusal}
use Rattle.screen.specs.Screen.{fields_of, screen_rows}
use Rattle.screen.specs.declared.Screen.{Screen}
use Rattle.command.specs.Command.{command_of, words_taken, refusal}

-- the forms of a list, by the bytes of their records (02, g): "both forms kept"
abbrev pub short_form : ℕ
short_form = 32

abbrev pub long_form : ℕ
long_form = 48

abbrev pub is_form : ℕ → Bool
is_form n = eqb n short_form || eqb n long_form

-- the list's form, which the caller names, a screen record, a command list and host words
pub record Task : Type 0 where
  pub form : ℕ
  pub screen : List ℕ
  pub list : List ℕ
  pub words : List ℕ

abbrev pub task : ℕ → List ℕ → List ℕ → List ℕ → Task
task form screen list words = record { form = form; screen = screen; list = list; words = words }

-- the screen of its record
abbrev pub screen_in : Task → Screen
screen_in t = fields_of t.screen

-- the commands of its list
abbrev pub commands_in : Task → List (List ℕ)
commands_in t = parts_of t.form t.list

-- a list of whole records, at most 64, in a form that there is: "number 10 uses 32 or 48 accordingly"
abbrev pub is_list : ℕ → List ℕ → Bool
is_list form list = is_form form && (eqb (length list % form) 0 && leb (length list) (64 * form))

-- rows 10 and 11
unfoldable pub list_rows : ℕ → Screen → List ℕ → List Row
list_rows form s list =
    row 10 (not (is_list form list))
    ∷ row 11 (ltb 0 (length list) && ltb s.depth 8)
    ∷ []

-- the first refusal of commands, of which the first has index i, with so many host words left, the memory being m bytes; number 0 for none
unfoldable pub first_refusal : ℕ → Screen → ℕ → ℕ → List (List ℕ) → Refusal
first_refusal m s i left [] = record { number = 0; place = 0 }
first_refusal m s i left (b ∷ bs) =
    cond (eqb (refusal m s left b) 0)
    (first_refusal m s (suc i) (left - words_taken s (command_of b)) bs)
    (record { number = refusal m s left b; place = i })

-- host words that commands take
unfoldable pub all_words : Screen → List (List ℕ) → ℕ
all_words s [] = 0
all_words s (b ∷ bs) = words_taken s (command_of b) + all_words s bs

-- row 16: words left over
unfoldable pub word_rows : Task → List Row
word_rows t = row 16 (ltb (all_words (screen_in t) (commands_in t)) (length t.words)) ∷ []

-- the first refusal of 1 to 16, 26 and 29, the memory being m bytes
unfoldable pub task_refusal : ℕ → Task → Refusal
task_refusal m t =
    let first = first_of (screen_rows m t.screen ++ list_rows t.form (screen_in t) t.list) in
    let in_list = first_refusal m (screen_in t) 0 (length t.words) (commands_in t) in
    cond (not (eqb first 0)) (record { number = first; place = 0 })
    (cond (not (eqb in_list.number 0)) in_list
    (record { number = first_of (word_rows t); place = 0 }))

-- none of 1 to 16, 26 and 29 is given
abbrev pub is_accepted : ℕ → Task → Bool
is_accepted m t = eqb (task_refusal m t).number 0
