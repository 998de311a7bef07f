use mathlib.Core.Path.{◌≡◌, sym, ap, ◌∙◌}
use Prim.Native.Nat.{ℕ}
use Rattle.screen.specs.declared.ScreenValues.{ScreenValues}
use Rattle.reader.specs.declared.Display.{Display}
use Rattle.reader.specs.declared.Spot.{Spot}
use Rattle.std.specs.Prelude.{Result, Ok, Err}
use Rattle.std.proofs.lemmas.Result.{err_from_is_err_and}
use Rattle.refusal.specs.Number.{number, number_of, number_by}
use Rattle.refusal.specs.declared.Refusal.{Refusal}
use Rattle.refusal.proofs.Numbers.{number_positive}
use lib.ListN.{length, take}
use Rattle.record.specs.Checks.{first_of}
use Rattle.reader.specs.Read.{read_rows}
use Rattle.reader.specs.Looking.{looking}
use Rattle.reader.proofs.Answer.{look_number_lem, eight_pass}
use Rattle.reader.proofs.Line.{line_refused, walkable, sized, line_outside, line_short, line_filled}
use Rattle.reader_line.proofs.read_line_from.Goals as goal

-- the number is that of column 0
column_0 : (m : ℕ) (d : Display) (v : ScreenValues) (q n : ℕ) (at : Result Spot Refusal) → at ≡ looking m d v 0 q n → number_of at ≡ first_of (read_rows m d v 0 q n)
column_0 m d v q n at f = ap number_of f ∙ look_number_lem m d v 0 q n

refused_0 : (m : ℕ) (d : Display) (v : ScreenValues) (q n : ℕ) (at : Result Spot Refusal) (r : Refusal) → at ≡ looking m d v 0 q n → at ≡ Err r → number r ≡ first_of (read_rows m d v 0 q n)
unfolding number_by
refused_0 m d v q n at r f e = sym (ap number_of e) ∙ column_0 m d v q n at f

-- where it looks, none of the checks of what is given fails
none_fails : (m : ℕ) (d : Display) (v : ScreenValues) (q n : ℕ) (at : Result Spot Refusal) (s : Spot) → at ≡ looking m d v 0 q n → at ≡ Ok s
    → first_of (take 8 (read_rows m d v 0 q n)) ≡ 0
unfolding number_by
none_fails m d v q n at s f z = eight_pass m d v 0 q n (sym (column_0 m d v q n at f) ∙ ap number_of z)

-- the answer of an error
answered : (x : Result (Unit {0}) Refusal) (r : Refusal) (n : ℕ) → x ≡ Err r → number r ≡ n → number_of x ≡ n
unfolding number_by
answered x r n e f = ap number_of e ∙ f

pub returns-in_err-at : goal.returns-in_err-at
returns-in_err-at c =
    let k = err_from_is_err_and c.from_residual.result c.from_residual.ensures.1 in
    let r = c.in_err-at.field-0.0 in
    let l = line_refused c.args.size c.args.d c.args.values c.args.q c.args.memory.now c.args.line.now (number r) (number_positive r) (refused_0 c.args.size c.args.d c.args.values c.args.q (length c.args.memory.now) c.args.at r c.requires c.in_err-at.was) in
    record { value = answered _ r _ (k.1 ∙ ap (λ (r : Refusal). Err r) k.2) l.0; line_after = l.1 }

pub is_line_inside-inside-requires : goal.is_line_inside-inside-requires
is_line_inside-inside-requires c = (walkable c.args.size c.args.d c.args.values c.args.q c.args.memory.now c.args.line.now (none_fails c.args.size c.args.d c.args.values c.args.q (length c.args.memory.now) c.args.at c.in_ok-at.field-0 c.requires c.in_ok-at.was), c.window_columns-c.ensures)

pub returns-then-not-inside : goal.returns-then-not-inside
unfolding number_by number
returns-then-not-inside c =
    let k = line_outside c.args.size c.args.d c.args.values c.args.q c.args.memory.now c.args.line.now (none_fails c.args.size c.args.d c.args.values c.args.q (length c.args.memory.now) c.args.at c.in_ok-at.field-0 c.requires c.in_ok-at.was) (sym c.is_line_inside-inside.ensures ∙ c.if-not-inside.true) in
    record { value = k.0; line_after = k.1 }

pub returns-then-not-whole : goal.returns-then-not-whole
unfolding number_by number
returns-then-not-whole c =
    let k = line_short c.args.size c.args.d c.args.values c.args.q c.args.memory.now c.args.line.now (none_fails c.args.size c.args.d c.args.values c.args.q (length c.args.memory.now) c.args.at c.in_ok-at.field-0 c.requires c.in_ok-at.was) (sym c.is_line_inside-inside.ensures ∙ c.if-not-inside.false) c.if-not-whole.true in
    record { value = k.0; line_after = k.1 }

pub fill_line-requires : goal.fill_line-requires
fill_line-requires c =
    let none = none_fails c.args.size c.args.d c.args.values c.args.q (length c.args.memory.now) c.args.at c.in_ok-at.field-0 c.requires c.in_ok-at.was in (
      walkable c.args.size c.args.d c.args.values c.args.q c.args.memory.now c.args.line.now none,
      (c.window_columns-c.ensures, (c.if-not-whole.false, rw (sized c.args.size c.args.d c.args.values c.args.q c.args.memory.now c.args.line.now none) (sym c.is_line_inside-inside.ensures ∙ c.if-not-inside.false))),
    )

pub returns : goal.returns
unfolding number_by number
returns c =
    let k = line_filled c.args.size c.args.d c.args.values c.args.q c.args.memory.now c.args.line.now (none_fails c.args.size c.args.d c.args.values c.args.q (length c.args.memory.now) c.args.at c.in_ok-at.field-0 c.requires c.in_ok-at.was) (sym c.is_line_inside-inside.ensures ∙ c.if-not-inside.false) c.if-not-whole.false in
    record { value = k.0; line_after = c.fill_line.ensures ∙ k.1 }
