-- The start register of an image in whole dwords, at each rotation.
use Prim.Native.Nat.{ℕ, zero, suc, ◌+◌, ◌-◌, ◌*◌, ◌<◌, ◌≤◌}
use mathlib.Core.Path.{◌≡◌, ap}
use native.Mathlib.Omega.{arith}
use Rattle.screen.specs.Image.{line_bytes, image_end, start_of, offset_of}
use Rattle.screen.specs.declared.Image.{Image}
use Rattle.screen.proofs.Accepted.{Aligned, bits_of}

module _ (k d : ℕ) (i : Image) (a : Aligned k d i) where
  -- the bits of a shown line
  pub bits : i.width * d ≡ 32 * a.m
  bits = bits_of k d a.m i.width a.whole a.width_is

  -- the bytes of a shown line
  pub row : line_bytes d i.width ≡ 4 * a.m
  row = omega (arith, bits)

  -- a shown line fits in a line, and that in the line offset register
  pub in_line : line_bytes d i.width ≤ i.line
  in_line = omega (arith, row, a.line_is, a.room)

  pub line_short : i.line ≤ 4092
  line_short = omega (arith, a.line_is, a.short)

  pub offset : offset_of i ≡ a.l
  offset = omega (arith, a.line_is)

  pub last_line_lem : i.base + (i.height - 1) * i.line ≡ 4 * a.b + 4 * ((i.height - 1) * a.l)
  last_line_lem = omega (arith, a.base_is, ap (λ (x : ℕ). (i.height - 1) * x) a.line_is)

  pub end_is : image_end d i ≡ 4 * a.b + 4 * ((i.height - 1) * a.l) + 4 * a.m
  unfolding image_end
  end_is = omega (arith, last_line_lem, row)

  pub start0 : start_of 0 d i ≡ a.b
  unfolding start_of
  start0 = omega (arith, a.base_is)

  pub start1 : start_of 1 d i + 1 ≡ a.b + a.m
  unfolding start_of
  start1 = omega (arith, a.base_is, a.wide, row)

  pub start2 : start_of 2 d i + 1 ≡ a.b + (i.height - 1) * a.l + a.m
  unfolding start_of
  start2 = omega (arith, a.wide, last_line_lem, row)

  pub start3 : start_of 3 d i ≡ a.b + (i.height - 1) * a.l
  unfolding start_of
  start3 = omega (arith, last_line_lem)

  -- the start dword is one of the image's
  pub start_below : (r : ℕ) → r < 4 → 4 * start_of r d i + 4 ≤ image_end d i
  start_below zero h = omega (arith, end_is, start0, a.wide)
  start_below (suc zero) h = omega (arith, end_is, start1, a.wide)
  start_below (suc (suc zero)) h = omega (arith, end_is, start2, a.wide)
  start_below (suc (suc (suc zero))) h = omega (arith, end_is, start3, a.wide)
  start_below (suc (suc (suc (suc r)))) h = absurd (omega arith)
