use Prim.Native.Nat.{ℕ}
use mathlib.Core.Path.{◌≡◌, ap, sym, ◌∙◌}
use native.Mathlib.Nat.{div-le_self}
use native.Mathlib.Omega.{arith}
use lib.ListN.{take}
use mathlib.Core.Bool.{not}
use Rattle.screen.specs.declared.ScreenValues.{ScreenValues}
use Rattle.reader.specs.declared.Display.{Display}
use lib.Dec.{leb}
use borrow.Author.Tests.{ltb-true}
use Rattle.record.specs.Checks.{first_of}
use Rattle.record.proofs.Choice.{and_right}
use Rattle.std.specs.Prelude.{Result, Ok, Err}
use Rattle.std.proofs.lemmas.Result.{err_from_is_err_and}
use Rattle.refusal.specs.Number.{number_of, number_by}
use Rattle.refusal.specs.declared.Refusal.{Refusal}
use Rattle.reader.specs.declared.Spot.{Spot}
use Rattle.reader.specs.Looking.{looking}
use Rattle.reader.specs.Read.{read_rows}
use Rattle.reader.proofs.Answer.{given_refused, given, low_pixel, outside, inside}
use Rattle.reader_code.proofs.look_for.Goals as goal

-- the checks of what is given: the first refusal, and where there is none they all pass
given_refuses : (m n : ℕ) (d : Display) (v : ScreenValues) (p q : ℕ) (x : Result (Unit {0}) Refusal) (r : Refusal) (y : Result Spot Refusal) → number_of x ≡ first_of (take 8 (read_rows m d v p q n)) → x ≡ Err r → y ≡ Err r → y ≡ looking m d v p q n
unfolding number_by
given_refuses m n d v p q x r y e f g = g ∙ given_refused m d v p q n r (ap number_of (sym f) ∙ e)

none_fails : (m n : ℕ) (d : Display) (v : ScreenValues) (p q : ℕ) (x : Result (Unit {0}) Refusal) (u : Unit {0}) → number_of x ≡ first_of (take 8 (read_rows m d v p q n)) → x ≡ Ok u → first_of (take 8 (read_rows m d v p q n)) ≡ 0
unfolding number_by
none_fails m n d v p q x u e z = sym e ∙ ap number_of z

pub returns-in_err-check_given : goal.returns-in_err-check_given
returns-in_err-check_given c =
    let k = err_from_is_err_and c.from_residual.result c.from_residual.ensures.1 in
    given_refuses _ _ _ _ _ _ c.check_given.result c.in_err-check_given.field-0.0 _ c.check_given.ensures c.in_err-check_given.was (k.1 ∙ ap (λ (r : Refusal). Err r) k.2)

pub place_of-w-requires : goal.place_of-w-requires
place_of-w-requires c = (given _ _ _ _ _ _ (none_fails _ _ _ _ _ _ c.check_given.result c.in_ok-check_given.field-0 c.check_given.ensures c.in_ok-check_given.was)).fit

pub returns-then-not-w-dword : goal.returns-then-not-w-dword
returns-then-not-w-dword c =
    outside _ _ _ _ _ _ (none_fails _ _ _ _ _ _ c.check_given.result c.in_ok-check_given.field-0 c.check_given.ensures c.in_ok-check_given.was) _ c.place_of-w.ensures (ap not (rw c.minus-dword.ensures at c.if-not-w-dword.true))

pub overflow_cast-i : goal.overflow_cast-i
overflow_cast-i c =
    omega (arith, low_pixel _ _ _ _ _ _ (none_fails _ _ _ _ _ _ c.check_given.result c.in_ok-check_given.field-0 c.check_given.ensures c.in_ok-check_given.was) _ c.place_of-w.ensures, div-le_self 32 c.args.d.depth)

pub pixel_byte-requires : goal.pixel_byte-requires
pixel_byte-requires c =
    ((given _ _ _ _ _ _ (none_fails _ _ _ _ _ _ c.check_given.result c.in_ok-check_given.field-0 c.check_given.ensures c.in_ok-check_given.was)).depth, low_pixel _ _ _ _ _ _ (none_fails _ _ _ _ _ _ c.check_given.result c.in_ok-check_given.field-0 c.check_given.ensures c.in_ok-check_given.was) _ c.place_of-w.ensures, omega (arith, ltb-true _ _ (and_right (leb c.place_of-w.result.down c.place_of-w.result.up) _ c.if-not-w-dword.false), c.ranges.size))

pub pixel_bit-requires : goal.pixel_bit-requires
pixel_bit-requires c =
    ((given _ _ _ _ _ _ (none_fails _ _ _ _ _ _ c.check_given.result c.in_ok-check_given.field-0 c.check_given.ensures c.in_ok-check_given.was)).depth, low_pixel _ _ _ _ _ _ (none_fails _ _ _ _ _ _ c.check_given.result c.in_ok-check_given.field-0 c.check_given.ensures c.in_ok-check_given.was) _ c.place_of-w.ensures)

pub returns : goal.returns
returns c =
    let dword = c.minus-dword.ensures in
    inside _ _ _ _ _ _ (none_fails _ _ _ _ _ _ c.check_given.result c.in_ok-check_given.field-0 c.check_given.ensures c.in_ok-check_given.was) _ c.place_of-w.ensures (ap not (rw dword at c.if-not-w-dword.false)) _ _
    (rw dword at c.pixel_byte.ensures) c.pixel_bit.ensures
