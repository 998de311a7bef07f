-- Laws of the line worker: pixel after pixel of a lent line.
use mathlib.Core.Path.{◌≡◌, refl, ap, ap₂, ◌∙◌}
use mathlib.Core.Bool.{Bool, true, false}
use mathlib.Core.List.{List}
use Prim.Native.Nat.{ℕ, suc, ◌+◌, ◌-◌, ◌*◌, ◌≤◌, ◌<◌}
use native.Mathlib.Omega.{arith}
use borrow.Author.Tests.{lt-ltb, le-ltb}
use Rattle.pixel.specs.Pixel.{get_pixel, put_pixel}
use Rattle.blit.specs.Blit.{pixels}
use Rattle.blit.specs.Job.{mix_of}
use Rattle.blit.specs.Line.{rank, spot, lagged, work_line, straight_line}
use Rattle.blit.specs.declared.Mix.{Mix}
use Rattle.blit.proofs.Runs.{step_fits}

-- ---- places in the line

pub rank_lt : (down : Bool) (width n : ℕ) → n < width → rank down width n < width
unfolding rank
rank_lt true width n h = omega arith
rank_lt false width n h = h

pub spot_fits : (down : Bool) (bytes width n : ℕ) → n < width → spot down bytes width n + bytes ≤ width * bytes
spot_fits down bytes width n h = step_fits bytes (rank down width n) width (rank_lt down width n h)

pub rank_down : (down : Bool) (width n : ℕ) → down ≡ true → width - 1 - n ≡ rank down width n
unfolding rank
rank_down down width n e = rw e refl

pub rank_up : (down : Bool) (width n : ℕ) → down ≡ false → n ≡ rank down width n
unfolding rank
rank_up down width n e = rw e refl

-- ---- side by side

module _ (bytes : ℕ) (combine : ℕ → ℕ → ℕ) (f : ℕ → ℕ) where
  pub straight_none : (line : List ℕ) → line ≡ straight_line bytes combine f 0 line
  unfolding straight_line pixels
  straight_none line = refl

  pub straight_more : (n : ℕ) (line m : List ℕ) (v : ℕ) → m ≡ straight_line bytes combine f n line → v ≡ f n
      → put_pixel bytes m (n * bytes) (combine v (get_pixel bytes m (n * bytes))) ≡ straight_line bytes combine f (suc n) line
  unfolding straight_line pixels
  straight_more n line m v e h = ap₂ (λ (x : List ℕ) (s : ℕ). put_pixel bytes x (n * bytes) (combine s (get_pixel bytes x (n * bytes)))) e h

  pub straight_end : (n width : ℕ) (line m : List ℕ) → m ≡ straight_line bytes combine f n line → n ≡ width → m ≡ straight_line bytes combine f width line
  straight_end n width line m e h = e ∙ ap (λ (k : ℕ). straight_line bytes combine f k line) h

-- ---- in the direction named

module _ (down : Bool) (bytes width : ℕ) (mix : Mix) (source : List ℕ) (lag : ℕ) where
  pub work_none : (line : List ℕ) → line ≡ work_line down bytes width mix source lag 0 line
  unfolding work_line pixels
  work_none line = refl

  pub work_more : (n : ℕ) (line m : List ℕ) (k v : ℕ) → m ≡ work_line down bytes width mix source lag n line → k ≡ rank down width n
      → v ≡ lagged down bytes width source lag m n
      → put_pixel bytes m (k * bytes) (mix_of mix bytes v (get_pixel bytes m (k * bytes))) ≡ work_line down bytes width mix source lag (suc n) line
  unfolding work_line pixels
  work_more n line m k v em ek ev =
      rw (ev, ek)
      (ap (λ (x : List ℕ).
      put_pixel bytes x (spot down bytes width n)
      (mix_of mix bytes (lagged down bytes width source lag x n) (get_pixel bytes x (spot down bytes width n)))) em)

  pub work_end : (n : ℕ) (line m : List ℕ) → m ≡ work_line down bytes width mix source lag n line → n ≡ width
      → m ≡ work_line down bytes width mix source lag width line
  work_end n line m e h = e ∙ ap (λ (k : ℕ). work_line down bytes width mix source lag k line) h

-- the source of a pixel before the lag, and from it on
module _ (down : Bool) (bytes width : ℕ) (source : List ℕ) (lag : ℕ) (line : List ℕ) (n k v : ℕ) where
  pub lag_early : n < lag → k ≡ rank down width n → v ≡ get_pixel bytes source (k * bytes) → v ≡ lagged down bytes width source lag line n
  unfolding lagged
  lag_early h e g = rw (lt-ltb n lag h) (g ∙ ap (λ (x : ℕ). get_pixel bytes source (x * bytes)) e)

  pub lag_late : lag ≤ n → k ≡ rank down width (n - lag) → v ≡ get_pixel bytes line (k * bytes) → v ≡ lagged down bytes width source lag line n
  unfolding lagged
  lag_late h e g = rw (le-ltb n lag h) (g ∙ ap (λ (x : ℕ). get_pixel bytes line (x * bytes)) e)
