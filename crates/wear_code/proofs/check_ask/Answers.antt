use Prim.Native.Nat.{ℕ}
use mathlib.Core.Path.{◌≡◌, sym, ap, ◌∙◌}
use mathlib.Core.Bool.{not}
use mathlib.Core.Logic.{⊎_elim}
use lib.Dec.{leb, ltb}
use borrow.Author.Tests.{lt-leb, le-leb, lt-ltb, le-ltb}
use Rattle.record.proofs.Choice.{below_or_not}
use Rattle.refusal.specs.Number.{number, rows_from}
use Rattle.wear.specs.Strip.{ask_rows}
use Rattle.wear_code.proofs.check_ask.Goals as goal

-- a font under 80 bytes is no factory font
below : (n : ℕ) → ltb n 80 ≡ not (leb 80 n)
below n = ⊎_elim (λ h. lt-ltb n 80 h ∙ sym (ap not (lt-leb 80 n h))) (λ h. le-ltb n 80 h ∙ sym (ap not (le-leb 80 n h))) (below_or_not n 80)

pub returns : goal.returns
unfolding ask_rows rows_from number
returns c = simp (c.first_of.ensures, c.is_depth.ensures, below)
