use Prim.Native.Nat.{ℕ}
use mathlib.Core.Path.{sym, ap, ◌∙◌}
use mathlib.Core.List.{List, ◌++◌}
use native.Mathlib.Omega.{arith}
use lib.ListN.{length, drop, replicate}
use lib.Seq.{take_all, length-take-le}
use Rattle.std.proofs.lemmas.List.{append-nil}
use Rattle.command.proofs.Forms.{form_short}
use Rattle.command_code.proofs.Rows.{long_length}
use Rattle.command_code.proofs.in_long_form.Goals as goal

pub slice_bounds-copy_from_slice-end-then-b-lt48 : goal.slice_bounds-copy_from_slice-end-then-b-lt48
slice_bounds-copy_from_slice-end-then-b-lt48 c = sym (length-take-le 32 c.args.b.now (omega (arith, form_short (length c.args.b.now) c.requires c.if-b-lt48.true)))

pub copy_from_slice-requires : goal.copy_from_slice-requires
copy_from_slice-requires c = sym (length-take-le 32 c.args.b.now (omega (arith, form_short (length c.args.b.now) c.requires c.if-b-lt48.true)))

pub returns-then-b-lt48 : goal.returns-then-b-lt48
returns-then-b-lt48 c = let b = c.args.b.now in
    let e = form_short (length b) c.requires c.if-b-lt48.true in
    ap (λ (l : List ℕ). l ++ replicate 16 0) (c.copy_from_slice.ensures.after ∙ take_all 32 b (omega (arith, e)))
    ∙ ap (λ (n : ℕ). b ++ drop n (replicate 48 0)) (sym e)

pub returns-else-b-lt48 : goal.returns-else-b-lt48
returns-else-b-lt48 c = let b = c.args.b.now in
    let e = long_length b c.requires c.if-b-lt48.false in
    c.copy_from_slice-else-b-lt48.ensures.after ∙ take_all 48 b (omega (arith, e)) ∙ sym (append-nil b)
    ∙ ap (λ (n : ℕ). b ++ drop n (replicate 48 0)) (sym e)
