use mathlib.Core.Path.{◌≡◌}
use mathlib.Core.Bool.{true}
use Prim.Native.Nat.{ℕ, ◌*◌, ◌%◌, ◌^◌, ◌≤◌}
use native.Mathlib.Omega.{arith}
use lib.Pow.{pow_pos, pow_mono}
use Rattle.pixel.specs.Depth.{is_depth}
use Rattle.pixel.proofs.Depth.{byte_depth, factor_le}
use Rattle.pixel.proofs.Stands.{stored_wide, stored_narrow}
use Rattle.pixel_code.proofs.stored_pixel.Goals as goal

-- a shift of 1 by at most 8 places keeps it whole
shifted : (d : ℕ) → d ≤ 8 → 1 * 2 ^ d % 65536 ≡ 2 ^ d
shifted d h = omega (arith, pow_mono h)

-- past the look at depth 16 a pixel is within a byte
narrow : (d : ℕ) → is_depth d ≡ true → (d ≡ 16 → ⊥) → d ≤ 8
narrow d h other =
    let n = byte_depth d h other in
    factor_le n.0 d 7 n.1

pub returns-then-depth-eq16 : goal.returns-then-depth-eq16
returns-then-depth-eq16 c = let s = c in
    stored_wide s.args.depth s.args.at s.args.bit _ s.args.memory.now c.if-depth-eq16.true s.requires.2 (λ k. (c.type_inv.memory k).fits) c.get_pixel.ensures

pub overflow_sub-right : goal.overflow_sub-right
overflow_sub-right c = omega (arith, narrow c.args.depth c.requires.0 c.if-depth-eq16.false, c.requires.3)

pub overflow_cast-result-2 : goal.overflow_cast-result-2
overflow_cast-result-2 c = omega (arith, narrow c.args.depth c.requires.0 c.if-depth-eq16.false)

pub overflow_shl-result : goal.overflow_shl-result
overflow_shl-result c = omega (arith, narrow c.args.depth c.requires.0 c.if-depth-eq16.false)

pub nonzero_rem-result : goal.nonzero_rem-result
nonzero_rem-result c = let d = c.args.depth in
    rw (shifted d (narrow c.args.depth c.requires.0 c.if-depth-eq16.false)) (pow_pos d)

pub returns : goal.returns
returns c = let s = c in
    rw (c.from.ensures, shifted s.args.depth (narrow c.args.depth c.requires.0 c.if-depth-eq16.false))
    (stored_narrow s.args.depth s.args.at s.args.bit s.args.memory.now (narrow c.args.depth c.requires.0 c.if-depth-eq16.false))
