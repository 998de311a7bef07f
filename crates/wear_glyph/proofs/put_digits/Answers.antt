use mathlib.Core.Path.{ap, ◌∙◌}
use Rattle.wear.specs.Font.{glyph_of}
use Rattle.wear.proofs.Fonts.{part_holds, glyph_whole}
use Prim.Native.Nat.{ℕ}
use native.Mathlib.Omega.{arith}
use Rattle.wear.proofs.Words.{digit_start, digit_fits, digit_turn, digit_end}
use Rattle.wear_glyph.proofs.put_digits.Goals as goal

pub loop-i-init : goal.loop-i-init
loop-i-init c = digit_start _ _ _ _ _ _ c.words_per_glyph-n.ensures

pub overflow_mul-n : goal.overflow_mul-n
overflow_mul-n c =
    let l = c.loop-i in
    let ends = digit_fits _ c.args.site.now c.args.factory.now _ _ _ c.words_per_glyph-n.ensures l.words l.i l.invariant c.loop-i-test.true c.requires.digits_in_bounds in
    omega (arith, ends)

pub put_glyph-requires : goal.put_glyph-requires
put_glyph-requires c =
    let l = c.loop-i in
    let lent = part_holds _ _ _ _ c.glyph-g.ensures ∙ ap (λ (d : ℕ). glyph_of c.args.site.now c.args.factory.now d) c.from.ensures in
    let ends = digit_fits _ c.args.site.now c.args.factory.now _ _ _ c.words_per_glyph-n.ensures l.words l.i l.invariant c.loop-i-test.true c.requires.digits_in_bounds in
    record { checked = c.requires.checked; glyph_len = rw lent (glyph_whole _ _ _ c.requires.in_bounds (c.requires.all_below _)); depth_in_bounds = omega (arith, ends, c.words_per_glyph-n.ensures) }

pub loop-i-preserved : goal.loop-i-preserved
loop-i-preserved c =
    let l = c.loop-i in
    let lent = part_holds _ _ _ _ c.glyph-g.ensures ∙ ap (λ (d : ℕ). glyph_of c.args.site.now c.args.factory.now d) c.from.ensures in
    digit_turn _ _ _ _ _ _ c.words_per_glyph-n.ensures l.words _ l.i l.invariant c.loop-i-test.true (rw lent at c.put_glyph.ensures)

pub returns : goal.returns
returns c = let l = c.loop-i in digit_end _ _ _ _ _ _ c.words_per_glyph-n.ensures l.words l.i l.invariant c.loop-i-test.false
