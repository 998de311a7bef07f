-- A line under a raster code, byte by byte at every number of bytes of a pixel.
use mathlib.Core.Path.{◌≡◌, refl, sym, ap, ap₂, ◌∙◌}
use mathlib.Core.Logic.{inr}
use mathlib.Core.List.{List}
use Prim.Native.Nat.{ℕ, zero, suc, ◌+◌, ◌*◌, ◌/◌, ◌%◌, ◌≤◌, ◌<◌}
use native.Mathlib.Nat.{add-zero, mod-eq_of_lt, mul-one, suc-mul, zero-mul}
use native.Mathlib.Omega.{arith}
use lib.ListN.{get_or, set}
use Rattle.pixel.specs.Pixel.{get_pixel, put_pixel}
use Rattle.pixel.specs.Raster.{raster}
use Rattle.pixel.proofs.Pixels.{get_ext, get_one, put_one}
use Rattle.pixel.proofs.Masking.{by_bytes}
use Rattle.pixel.proofs.Raster.{raster_lt}
use Rattle.blit.specs.Blit.{pixels}
use Rattle.blit.specs.Line.{straight_line}
use Rattle.blit.proofs.Runs.{keep_pixels}

module _ (c : ℕ) (source line : List ℕ) where
  -- n bytes under the code
  abbrev bytewise : ℕ → List ℕ
  bytewise n = straight_line 1 (raster 8 c) (λ i. get_pixel 1 source (i * 1)) n line

  pub bytewise_more : (n : ℕ) (m : List ℕ) → m ≡ bytewise n → put_pixel 1 m n (raster 8 c (get_pixel 1 source n) (get_pixel 1 m n)) ≡ bytewise (suc n)
  unfolding straight_line pixels
  bytewise_more n m e =
      ap (λ (x : List ℕ). put_pixel 1 x n (raster 8 c (get_pixel 1 source n) (get_pixel 1 x n))) e
      ∙ ap (λ (a : ℕ). put_pixel 1 (bytewise n) a (raster 8 c (get_pixel 1 source a) (get_pixel 1 (bytewise n) a))) (sym (mul-one n))

  -- the next byte, stored
  next : (n : ℕ) → set (bytewise n) n (raster 8 c (get_or source n 0) (get_or (bytewise n) n 0)) ≡ bytewise (suc n)
  next n =
      ap (set (bytewise n) n) (sym (mod-eq_of_lt (raster_lt 8 c (get_or source n 0) (get_or (bytewise n) n 0))))
      ∙ sym (put_one (bytewise n) n _)
      ∙ ap₂ (λ (x y : ℕ). put_pixel 1 (bytewise n) n (raster 8 c x y)) (sym (get_one source n)) (sym (get_one (bytewise n) n))
      ∙ bytewise_more n (bytewise n) refl

  -- the bytes from the n-th on are still the line's
  ahead : (n k : ℕ) → n ≤ k → get_or (bytewise n) k 0 ≡ get_or line k 0
  unfolding straight_line
  ahead n k h = keep_pixels 1 (raster 8 c) (λ i. i * 1) (λ m i. get_pixel 1 source (i * 1)) n line k (λ i p. inr (omega arith))

  module _ (small : (k : ℕ) → get_or source k 0 < 256) (fits : (k : ℕ) → get_or line k 0 < 256) where
    -- a pixel under the code, stored after the bytes before it
    put_bytes : (bytes n : ℕ)
        → put_pixel bytes (bytewise n) n (raster (8 * bytes) c (get_pixel bytes source n) (get_pixel bytes (bytewise n) n)) ≡ bytewise (n + bytes)
    unfolding put_pixel get_pixel
    put_bytes zero n = ap bytewise (sym (add-zero n))
    put_bytes (suc bytes) n =
        let x : ℕ = get_or source n 0 in
        let y : ℕ = get_or (bytewise n) n 0 in
        let s : ℕ = get_pixel bytes source (suc n) in
        let d : ℕ = get_pixel bytes (bytewise n) (suc n) in
        let v : ℕ = raster (8 * suc bytes) c (x + 256 * s) (y + 256 * d) in
        let size : 8 * suc bytes ≡ 8 + 8 * bytes = omega arith in
        let parts : v ≡ raster 8 c x y + 256 * raster (8 * bytes) c s d =
        ap (λ (k : ℕ). raster k c (x + 256 * s) (y + 256 * d)) size ∙ by_bytes (8 * bytes) c x y s d (small n) (rw (ahead n n (omega arith)) (fits n)) in
        let low : v % 256 ≡ raster 8 c x y = omega (arith, parts, raster_lt 8 c x y) in
        let high : v / 256 ≡ raster (8 * bytes) c s d = omega (arith, parts, raster_lt 8 c x y) in
        let rest : d ≡ get_pixel bytes (bytewise (suc n)) (suc n) =
        get_ext bytes _ _ (suc n) (λ k p q. ahead n k (omega arith) ∙ sym (ahead (suc n) k p)) in
        let more : suc n + bytes ≡ n + suc bytes = omega arith in
        ap₂ (λ (p q : ℕ). put_pixel bytes (set (bytewise n) n p) (suc n) q) low high
        ∙ ap₂ (λ (m : List ℕ) (q : ℕ). put_pixel bytes m (suc n) (raster (8 * bytes) c s q)) (next n) rest
        ∙ put_bytes bytes (suc n)
        ∙ ap bytewise more

    -- a line's pixels under the code are its bytes under the code
    pub straight_bytes : (bytes n : ℕ)
        → straight_line bytes (raster (8 * bytes) c) (λ i. get_pixel bytes source (i * bytes)) n line ≡ bytewise (n * bytes)
    unfolding straight_line pixels
    straight_bytes bytes zero = sym (ap bytewise (zero-mul bytes))
    straight_bytes bytes (suc n) =
        ap (λ (m : List ℕ). put_pixel bytes m (n * bytes) (raster (8 * bytes) c (get_pixel bytes source (n * bytes)) (get_pixel bytes m (n * bytes)))) (straight_bytes bytes n)
        ∙ put_bytes bytes (n * bytes)
        ∙ ap bytewise (sym (suc-mul n bytes))
