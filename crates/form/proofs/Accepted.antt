-- What is said by a turn that is accepted, when a turn is, and what the target then begins with.
use Prim.Native.Nat.{ℕ, ◌≤◌}
use mathlib.Core.Path.{◌≡◌, sym, ap, ◌∙◌}
use mathlib.Core.List.{List}
use mathlib.Core.Bool.{true, false, not, ◌&&◌}
use lib.ListN.{length, take, drop}
use lib.Seq.{take-append_seam}
use lib.Dec.{ltb, lit<}
use borrow.Author.Tests.{ltb-false, le-ltb, not-false}
use Rattle.record.specs.Bytes.{over}
use Rattle.record.specs.Lists.{parts_of}
use Rattle.record.specs.Checks.{row, first_of}
use Rattle.record.proofs.Checks.{passed, row_passes, rows_end}
use Rattle.command.specs.Task.{is_list}
use Rattle.form.specs.Turn.{turned_list, any_stays_long, turn_rows, turning, turned_into}
use Rattle.form.specs.Claims.{turned_given}

module _ (from to : ℕ) (list : List ℕ) where
  -- no row of the table fails
  pub record Accepted (room : ℕ) : Type 0 where
    pub listed : is_list from list ≡ true
    pub fits : length (turned_list from to list) ≤ room
    pub short : (ltb to from && any_stays_long (parts_of from list)) ≡ false

  pub accepted_says : (room : ℕ) → (turning from to list room).number ≡ 0 → Accepted room
  unfolding turning turn_rows
  accepted_says room e =
      let p = passed (row 10 _) _ (lit< tt) e in
      let q = passed (row 17 _) _ (lit< tt) p.1 in
      let r = passed (row 28 _) _ (lit< tt) q.1 in
      record { listed = not-false (is_list from list) p.0; fits = ltb-false room (length (turned_list from to list)) q.0; short = r.0 }

  rows_pass : (room : ℕ) → Accepted room → first_of (turn_rows from to list room) ≡ 0
  unfolding turn_rows
  rows_pass room a = sym (row_passes 10 _ (ap not a.listed) (row_passes 17 _ (le-ltb room (length (turned_list from to list)) a.fits) (row_passes 28 _ a.short rows_end)))

  pub accepted_by : (room : ℕ) → Accepted room → turning from to list room ≡ record { number = 0; length = length (turned_list from to list) }
  unfolding turning
  accepted_by room a = rw (rows_pass room a)

  -- the target, and the turned list in it
  pub into_is : (target : List ℕ) → Accepted (length target) → turned_into from to list target ≡ over (turned_list from to list) target
  unfolding turned_into
  into_is target a = rw (accepted_by (length target) a)

  pub given_is : (target : List ℕ) → Accepted (length target) → turned_given from to list target ≡ turned_list from to list
  given_is target a =
      (λ t. take (accepted_by (length target) a t).length (into_is target a t))
      ∙ take-append_seam (turned_list from to list) (drop (length (turned_list from to list)) target)
