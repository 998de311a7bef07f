-- Where no source pixel is one that the line has stored, the order of its pixels does not matter; and a mix that copies stores the source.
use mathlib.Core.Path.{◌≡◌, refl, sym, ap, ap₂, ◌∙◌}
use mathlib.Core.Bool.{Bool, true, false, true≢false}
use mathlib.Core.List.{List, [], ◌∷◌}
use Prim.Native.Nat.{ℕ, zero, suc, ◌+◌, ◌-◌, ◌*◌, ◌/◌, ◌%◌, ◌^◌, ◌≤◌, ◌<◌}
use native.Mathlib.Nat.{mul-suc, pow-suc}
use native.Mathlib.Numerals.{one-add}
use native.Mathlib.Omega.{arith}
use borrow.Author.Tests.{eqb-true, lt-ltb}
use lib.ListN.{get_or, set}
use lib.Pow.{pow-add}
use Rattle.pixel.specs.Pixel.{get_pixel, put_pixel}
use Rattle.pixel.specs.Raster.{raster}
use Rattle.pixel.proofs.Pixels.{get_lt, get_put_above, get_put_below}
use Rattle.pixel.proofs.Raster.{copies_whole}
use Rattle.blit.specs.Blit.{pixels}
use Rattle.blit.specs.Job.{mix_of}
use Rattle.blit.specs.Line.{rank, spot, lagged, work_line, copies, straight_line, copied}
use Rattle.blit.specs.declared.Mix.{Mix}
use Rattle.blit.specs.declared.Mix.TheVariants.{Store, Raster, Key}
use Rattle.blit.proofs.Runs.{pixels_append, pixels_ext, step_fits}
use Rattle.blit.proofs.Copy.{straight_copied}

-- ---- pixels apart may be stored in either order

set_swap : (l : List ℕ) (i j v w : ℕ) → i < j → set (set l i v) j w ≡ set (set l j w) i v
set_swap [] i j v w h = refl
set_swap (x ∷ xs) i zero v w h = absurd (omega arith)
set_swap (x ∷ xs) zero (suc j) v w h = refl
set_swap (x ∷ xs) (suc i) (suc j) v w h = ap (λ (r : List ℕ). x ∷ r) (set_swap xs i j v w (omega arith))

put_set : (n : ℕ) (m : List ℕ) (i v b w : ℕ) → i < b → put_pixel n (set m i v) b w ≡ set (put_pixel n m b w) i v
unfolding put_pixel
put_set zero m i v b w h = refl
put_set (suc n) m i v b w h =
    ap (λ (x : List ℕ). put_pixel n x (suc b) (w / 256)) (set_swap m i b v (w % 256) h)
    ∙ put_set n (set m b (w % 256)) i v (suc b) (w / 256) (omega arith)

put_swap : (n k : ℕ) (m : List ℕ) (a v b w : ℕ) → a + n ≤ b → put_pixel k (put_pixel n m a v) b w ≡ put_pixel n (put_pixel k m b w) a v
unfolding put_pixel
put_swap zero k m a v b w h = refl
put_swap (suc n) k m a v b w h =
    put_swap n k (set m a (v % 256)) (suc a) (v / 256) b w (omega arith)
    ∙ ap (λ (x : List ℕ). put_pixel n x (suc a) (v / 256)) (put_set k m a (v % 256) b w (omega arith))

module _ (bytes : ℕ) (combine : ℕ → ℕ → ℕ) where
  -- one pixel
  abbrev step : ℕ → ℕ → List ℕ → List ℕ
  step a s m = put_pixel bytes m a (combine s (get_pixel bytes m a))

  step_swap : (a s b t : ℕ) (m : List ℕ) → a + bytes ≤ b → step b t (step a s m) ≡ step a s (step b t m)
  step_swap a s b t m h =
      ap (λ (x : ℕ). put_pixel bytes (step a s m) b (combine t x)) (get_put_above bytes bytes m a _ b h)
      ∙ put_swap bytes bytes m a _ b _ h
      ∙ ap (λ (x : ℕ). put_pixel bytes (step b t m) a (combine s x)) (sym (get_put_below bytes bytes m b _ a h))

  -- a pixel before a run is one after it
  run_swap : (place f : ℕ → ℕ) (a s n : ℕ) (m : List ℕ) → ((i : ℕ) → i < n → a + bytes ≤ place i)
      → pixels bytes combine place (λ x i. f i) n (step a s m) ≡ step a s (pixels bytes combine place (λ x i. f i) n m)
  unfolding pixels
  run_swap place f a s zero m h = refl
  run_swap place f a s (suc n) m h =
      ap (step (place n) (f n)) (run_swap place f a s n m (λ i hi. h i (omega arith)))
      ∙ step_swap a s (place n) (f n) (pixels bytes combine place (λ x i. f i) n m) (h n (omega arith))

  no_step : (place f : ℕ → ℕ) (m : List ℕ) → pixels bytes combine place (λ x i. f i) 0 m ≡ m
  unfolding pixels
  no_step place f m = refl

  first_step : (place f : ℕ → ℕ) (m : List ℕ) → pixels bytes combine place (λ x i. f i) 1 m ≡ step (place 0) (f 0) m
  unfolding pixels
  first_step place f m = refl

  last_step : (place f : ℕ → ℕ) (n : ℕ) (m : List ℕ)
      → pixels bytes combine place (λ x i. f i) (suc n) m ≡ step (place n) (f n) (pixels bytes combine place (λ x i. f i) n m)
  unfolding pixels
  last_step place f n m = refl

  -- a run downwards is the run upwards
  pub reversed : (n : ℕ) (place f : ℕ → ℕ) (m : List ℕ) → ((i k : ℕ) → i < k → k < n → place i + bytes ≤ place k)
      → pixels bytes combine (λ i. place (n - 1 - i)) (λ x i. f (n - 1 - i)) n m ≡ pixels bytes combine place (λ x i. f i) n m
  reversed zero place f m h = no_step (λ i. place (0 - 1 - i)) (λ i. f (0 - 1 - i)) m ∙ sym (no_step place f m)
  reversed (suc n) place f m h =
      let e : suc n - 1 - n ≡ 0 = omega arith in
      let turn : (i : ℕ) → i < n → suc n - 1 - i ≡ suc (n - 1 - i) = λ i hi. omega arith in
      last_step (λ i. place (suc n - 1 - i)) (λ i. f (suc n - 1 - i)) n m
      ∙ ap₂ (λ (a s : ℕ). step a s (pixels bytes combine (λ i. place (suc n - 1 - i)) (λ x i. f (suc n - 1 - i)) n m)) (ap place e) (ap f e)
      ∙ ap (step (place 0) (f 0))
      (pixels_ext bytes combine (λ i. place (suc n - 1 - i)) (λ i. place (suc (n - 1 - i))) (λ x i. f (suc n - 1 - i)) (λ x i. f (suc (n - 1 - i))) n m
      (λ i hi. ap place (turn i hi)) (λ x i hi. ap f (turn i hi))
      ∙ reversed n (λ i. place (suc i)) (λ i. f (suc i)) m (λ i k p q. h (suc i) (suc k) (omega arith) (omega arith)))
      ∙ sym (run_swap (λ i. place (suc i)) (λ i. f (suc i)) (place 0) (f 0) n m (λ i hi. h 0 (suc i) (omega arith) (omega arith)))
      ∙ ap (pixels bytes combine (λ i. place (suc i)) (λ x i. f (suc i)) n) (sym (first_step place f m))
      ∙ pixels_ext bytes combine (λ i. place (suc i)) (λ i. place (1 + i)) (λ x i. f (suc i)) (λ x i. f (1 + i)) n (pixels bytes combine place (λ x i. f i) 1 m)
      (λ i hi. ap place (sym (one-add i))) (λ x i hi. ap f (sym (one-add i)))
      ∙ sym (pixels_append bytes combine place (λ x i. f i) 1 n m)
      ∙ ap (λ (k : ℕ). pixels bytes combine place (λ x i. f i) k m) (one-add n)

module _ (bytes width : ℕ) (mix : Mix) (source : List ℕ) where
  early : (down : Bool) (lag : ℕ) (m : List ℕ) (i : ℕ) → i < lag → lagged down bytes width source lag m i ≡ get_pixel bytes source (spot down bytes width i)
  unfolding lagged
  early down lag m i h = rw (lt-ltb i lag h) refl

  either : (down : Bool) (line : List ℕ)
      → pixels bytes (mix_of mix bytes) (spot down bytes width) (λ m n. get_pixel bytes source (spot down bytes width n)) width line
      ≡ pixels bytes (mix_of mix bytes) (λ i. i * bytes) (λ m i. get_pixel bytes source (i * bytes)) width line
  unfolding rank
  either true line =
      reversed bytes (mix_of mix bytes) width (λ i. i * bytes) (λ i. get_pixel bytes source (i * bytes)) line (λ i k p q. step_fits bytes i k p)
  either false line = refl

  -- a line whose lag is past its end, drawn side by side
  straight_work : (down : Bool) (lag : ℕ) (line : List ℕ) → width ≤ lag
      → straight_line bytes (mix_of mix bytes) (λ i. get_pixel bytes source (i * bytes)) width line
      ≡ work_line down bytes width mix source lag width line
  unfolding straight_line work_line
  straight_work down lag line h =
      sym
      (pixels_ext bytes (mix_of mix bytes) (spot down bytes width) (spot down bytes width) (lagged down bytes width source lag)
      (λ m n. get_pixel bytes source (spot down bytes width n)) width line
      (λ i hi. refl) (λ m i hi. early down lag m i (omega arith))
      ∙ either down line)

-- ---- a mix that copies

pub pow_bytes : (n : ℕ) → 2 ^ (8 * n) ≡ 256 ^ n
pow_bytes zero = refl
pow_bytes (suc n) =
    ap (λ (x : ℕ). 2 ^ x) (mul-suc 8 n) ∙ pow-add 2 (8 * n) 8 ∙ ap (λ (x : ℕ). x * 256) (pow_bytes n) ∙ sym (pow-suc 256 n)

-- it makes the source pixel
pub mix_copies : (mix : Mix) (bytes s d : ℕ) → copies mix ≡ true → s < 256 ^ bytes → mix_of mix bytes s d ≡ s
mix_copies Store bytes s d e h = refl
mix_copies (Raster c) bytes s d e h =
    ap (λ (x : ℕ). raster (8 * bytes) x s d) (eqb-true c 0xC e) ∙ copies_whole (8 * bytes) s d (rw (pow_bytes bytes) h)
mix_copies (Key k) bytes s d e h = absurd (true≢false (sym e))

-- pixels that combine to their source are stored
pixels_stored : (bytes : ℕ) (combine : ℕ → ℕ → ℕ) (place f : ℕ → ℕ) (n : ℕ) (m : List ℕ) → ((i d : ℕ) → combine (f i) d ≡ f i)
    → pixels bytes combine place (λ x i. f i) n m ≡ pixels bytes (λ s d. s) place (λ x i. f i) n m
unfolding pixels
pixels_stored bytes combine place f zero m e = refl
pixels_stored bytes combine place f (suc n) m e =
    ap₂ (λ (x : List ℕ) (v : ℕ). put_pixel bytes x (place n) v) (pixels_stored bytes combine place f n m e) (e n _)

-- ---- the worker's straight lines

pub combine_work : (bytes width : ℕ) (mix : Mix) (source : List ℕ) (down : Bool) (lag : ℕ) (line l' : List ℕ) → width ≤ lag
    → l' ≡ straight_line bytes (mix_of mix bytes) (λ i. get_pixel bytes source (i * bytes)) width line
    → l' ≡ work_line down bytes width mix source lag width line
combine_work bytes width mix source down lag line l' h p = p ∙ straight_work bytes width mix source down lag line h

-- a mix that copies takes the source's bytes
pub copy_work : (bytes width : ℕ) (mix : Mix) (source : List ℕ) (down : Bool) (lag : ℕ) (line l' : List ℕ) → ((k : ℕ) → get_or source k 0 < 256)
    → copies mix ≡ true → width ≤ lag → l' ≡ copied source 0 (width * bytes) line → l' ≡ work_line down bytes width mix source lag width line
unfolding straight_line
copy_work bytes width mix source down lag line l' small e h p =
    combine_work bytes width mix source down lag line l' h
    (p ∙ sym (straight_copied source small bytes width line)
    ∙ sym
    (pixels_stored bytes (mix_of mix bytes) (λ i. i * bytes) (λ i. get_pixel bytes source (i * bytes)) width line
    (λ i d. mix_copies mix bytes _ d e (get_lt bytes source (i * bytes) small))))
