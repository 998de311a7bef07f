-- What the worker does to a lent line is what the chip does to the memory.
use mathlib.Core.Path.{◌≡◌, refl, sym, ap, ap₂, ◌∙◌}
use mathlib.Core.Bool.{Bool, true, false}
use mathlib.Core.Logic.{◌⊎◌, inl, inr, ⊎_elim}
use mathlib.Core.List.{List, ◌++◌}
use Prim.Native.Nat.{ℕ, zero, suc, ◌+◌, ◌-◌, ◌*◌, ◌/◌, ◌%◌, ◌≤◌, ◌<◌}
use native.Mathlib.Nat.{add-mul, div-mul_cancel, dvd_of_mod-eq-zero, dvd-sub}
use native.Mathlib.Omega.{arith}
use borrow.Author.Tests.{lt-ltb, le-ltb}
use borrow.Rule.Slice.PartMut.{put_same}
use lib.ListN.{length, take, drop, length-drop, length-take}
use Rattle.pixel.specs.Pixel.{get_pixel, put_pixel}
use Rattle.pixel.proofs.Pixels.{get_ext, get_part, put_part}
use Rattle.blit.specs.Blit.{pixels}
use Rattle.blit.specs.Line.{rank, spot, lagged, work_line, straight_line, copied}
use Rattle.blit_code.specs.Lines.{lag_of}
use Rattle.blit.proofs.Runs.{below_or_not, step_fits, length_pixels, keep_pixels}
use Rattle.blit.proofs.Worker.{spot_fits}
use Rattle.blit.proofs.Copy.{copied_pixel}
use Rattle.blit.specs.Job.{mix_of}
use Rattle.blit.specs.declared.Mix.{Mix}

-- ---- a lent part put back

pub part_length : (d n : ℕ) (memory : List ℕ) → d + n ≤ length memory → length (take (d + n - d) (drop d memory)) ≡ n
part_length d n memory h = simp (length-take, length-drop) (omega arith)

-- a run over a part of the memory is the run over the memory, where each pixel has the same source
module _ (bytes : ℕ) (combine : ℕ → ℕ → ℕ) (place : ℕ → ℕ) (fetch own : List ℕ → ℕ → ℕ) (width d k : ℕ) (memory : List ℕ)
    (room : d + k ≤ length memory) (fits : (n : ℕ) → n < width → place n + bytes ≤ k)
    (same : (n : ℕ) (l : List ℕ) → n < width → length l ≡ k
    → pixels bytes combine (λ i. d + place i) fetch n memory ≡ take d memory ++ (l ++ drop k (drop d memory))
    → fetch (pixels bytes combine (λ i. d + place i) fetch n memory) n ≡ own l n) where
  part_run : (n : ℕ) → n ≤ width
      → pixels bytes combine (λ i. d + place i) fetch n memory
      ≡ take d memory ++ (pixels bytes combine place own n (take k (drop d memory)) ++ drop k (drop d memory))
  unfolding pixels
  part_run zero h = sym (put_same d k memory)
  part_run (suc n) h =
      let p : List ℕ = take d memory in
      let q : List ℕ = drop k (drop d memory) in
      let m : List ℕ = pixels bytes combine (λ i. d + place i) fetch n memory in
      let l : List ℕ = pixels bytes combine place own n (take k (drop d memory)) in
      let ih : m ≡ p ++ (l ++ q) = part_run n (omega arith) in
      let cut : length (take k (drop d memory)) ≡ k = simp (length-take, length-drop) (omega arith) in
      let len : length l ≡ k = length_pixels bytes combine place own n (take k (drop d memory)) ∙ cut in
      let fit : place n + bytes ≤ length l = omega (arith, fits n h) in
      let at : length p ≡ d = simp length-take (omega arith) in
      let here : d + place n ≡ length p + place n = omega arith in
      let v : ℕ = combine (own l n) (get_pixel bytes l (place n)) in
      let e : combine (fetch m n) (get_pixel bytes m (d + place n)) ≡ v =
      ap₂ combine (same n l h len ih) (ap₂ (get_pixel bytes) ih here ∙ get_part bytes p l q (place n) fit) in
      ap (put_pixel bytes m (d + place n)) e
      ∙ ap₂ (λ (x : List ℕ) (y : ℕ). put_pixel bytes x y v) ih here
      ∙ put_part bytes p l q (place n) v fit

  part_back : (l' : List ℕ) → l' ≡ pixels bytes combine place own width (take k (drop d memory))
      → take d memory ++ (l' ++ drop k (drop d memory)) ≡ pixels bytes combine (λ i. d + place i) fetch width memory
  part_back l' e = ap (λ (x : List ℕ). take d memory ++ (x ++ drop k (drop d memory))) e ∙ sym (part_run width (omega arith))

-- what the worker is given as its source: before the lag the source line has what the chip would fetch, from the lag on the
-- chip fetches the line's own pixel
pub record Sourced (down : Bool) (bytes width d lag : ℕ) (mix : Mix) (fetch : List ℕ → ℕ → ℕ) (source memory : List ℕ) : Type 0 where
  pub early : (n : ℕ) → n < width → n < lag
      → fetch (pixels bytes (mix_of mix bytes) (λ i. d + spot down bytes width i) fetch n memory) n ≡ get_pixel bytes source (spot down bytes width n)
  pub late : (m : List ℕ) (n : ℕ) → n < width → lag ≤ n → fetch m n ≡ get_pixel bytes m (d + spot down bytes width (n - lag))

module _ (down : Bool) (bytes width d k lag : ℕ) (mix : Mix) (fetch : List ℕ → ℕ → ℕ) (source memory : List ℕ) (size : k ≡ width * bytes)
    (room : d + width * bytes ≤ length memory) (sourced : Sourced down bytes width d lag mix fetch source memory) where
  fetched : (n : ℕ) (l : List ℕ) → n < width → length l ≡ k
      → pixels bytes (mix_of mix bytes) (λ i. d + spot down bytes width i) fetch n memory ≡ take d memory ++ (l ++ drop k (drop d memory))
      → fetch (pixels bytes (mix_of mix bytes) (λ i. d + spot down bytes width i) fetch n memory) n ≡ lagged down bytes width source lag l n
  unfolding lagged
  fetched n l h len e =
      let at : length (take d memory) ≡ d = simp length-take (omega arith) in
      let here : d + spot down bytes width (n - lag) ≡ length (take d memory) + spot down bytes width (n - lag) = omega arith in
      ⊎_elim
      (λ p. rw (lt-ltb n lag p) (sourced.early n h p))
      (λ p.
      rw (le-ltb n lag p)
      (sourced.late _ n h p
      ∙ ap₂ (get_pixel bytes) e here
      ∙ get_part bytes (take d memory) l _ (spot down bytes width (n - lag)) (omega (arith, spot_fits down bytes width (n - lag) (omega arith)))))
      (below_or_not n lag)

  pub put_back : (l' : List ℕ) → l' ≡ work_line down bytes width mix source lag width (take k (drop d memory))
      → take d memory ++ (l' ++ drop k (drop d memory))
      ≡ pixels bytes (mix_of mix bytes) (λ i. d + spot down bytes width i) fetch width memory
  unfolding work_line
  put_back l' e =
      part_back bytes (mix_of mix bytes) (spot down bytes width) fetch (lagged down bytes width source lag) width d k memory
      (omega arith) (λ n h. omega (arith, spot_fits down bytes width n h)) fetched l' e

-- a line of one colour, put back
pub fill_put_back : (bytes width d k colour : ℕ) (memory l' : List ℕ) → k ≡ width * bytes → d + width * bytes ≤ length memory
    → l' ≡ straight_line bytes (λ s d. s) (λ i. colour) width (take k (drop d memory))
    → take d memory ++ (l' ++ drop k (drop d memory)) ≡ pixels bytes (λ s d. s) (λ i. d + i * bytes) (λ m i. colour) width memory
unfolding straight_line
fill_put_back bytes width d k colour memory l' size room e =
    part_back bytes (λ s d. s) (λ i. i * bytes) (λ m i. colour) (λ m i. colour) width d k memory
    (omega arith) (λ n h. omega (arith, step_fits bytes n width h)) (λ n l h len p. refl) l' e

-- ---- a source that is known before

pub sourced_given : (down : Bool) (bytes width d lag : ℕ) (mix : Mix) (f : ℕ → ℕ) (source memory : List ℕ) → width ≤ lag
    → ((n : ℕ) → n < width → get_pixel bytes source (spot down bytes width n) ≡ f n)
    → Sourced down bytes width d lag mix (λ m i. f i) source memory
sourced_given down bytes width d lag mix f source memory le read =
    record { early = λ n h e. sym (read n h); late = λ m n h e. absurd (omega arith) }

-- ---- a move's source

-- what a lag has to meet: before it the source pixel is not yet overwritten, from it on it is the line's own
record Lags (down : Bool) (bytes width s d lag : ℕ) : Type 0 where
  pub early : (n i : ℕ) → n < width → n < lag → i < n
      → (s + spot down bytes width n + bytes ≤ d + spot down bytes width i) ⊎ (d + spot down bytes width i + bytes ≤ s + spot down bytes width n)
  pub late : (n : ℕ) → n < width → lag ≤ n → s + spot down bytes width n ≡ d + spot down bytes width (n - lag)

exact : (bytes s d : ℕ) → 0 < bytes → s % bytes ≡ 0 → d % bytes ≡ 0 → s ≤ d → s + (d - s) / bytes * bytes ≡ d
exact bytes s d h es ed le =
    rw (div-mul_cancel bytes (dvd-sub bytes (dvd_of_mod-eq-zero bytes ed) (dvd_of_mod-eq-zero bytes es))) (omega arith)

-- the source behind the destination in the direction of drawing, or not
up_own : (bytes width s d lag : ℕ) → s + lag * bytes ≡ d → Lags false bytes width s d lag
unfolding rank
up_own bytes width s d lag e =
    record {
      early = λ n i hn hl hi. inl (omega (arith, step_fits bytes n lag hl));
      late = λ n hn hl.
          let t : n ≡ lag + (n - lag) = omega arith in
          let u : n * bytes ≡ lag * bytes + (n - lag) * bytes = ap (λ (z : ℕ). z * bytes) t ∙ add-mul lag (n - lag) bytes in
          omega arith;
    }

up_none : (bytes width s d : ℕ) → d ≤ s → Lags false bytes width s d width
unfolding rank
up_none bytes width s d e =
    record { early = λ n i hn hl hi. inr (omega (arith, step_fits bytes i n hi)); late = λ n hn hl. absurd (omega arith) }

down_own : (bytes width s d lag : ℕ) → d + lag * bytes ≡ s → Lags true bytes width s d lag
unfolding rank
down_own bytes width s d lag e =
    record {
      early = λ n i hn hl hi.
          let t : width - 1 - i < width - 1 - n + lag = omega arith in
          inr (omega (arith, step_fits bytes (width - 1 - i) (width - 1 - n + lag) t, add-mul (width - 1 - n) lag bytes));
      late = λ n hn hl.
          let t : width - 1 - (n - lag) ≡ width - 1 - n + lag = omega arith in
          let u : (width - 1 - (n - lag)) * bytes ≡ (width - 1 - n) * bytes + lag * bytes =
          ap (λ (z : ℕ). z * bytes) t ∙ add-mul (width - 1 - n) lag bytes in
          omega arith;
    }

down_none : (bytes width s d : ℕ) → s ≤ d → Lags true bytes width s d width
unfolding rank
down_none bytes width s d e =
    record {
      early = λ n i hn hl hi. inl (omega (arith, step_fits bytes (width - 1 - n) (width - 1 - i) (omega arith)));
      late = λ n hn hl. absurd (omega arith);
    }

lag_fits : (down : Bool) (bytes width s d : ℕ) → 0 < bytes → s % bytes ≡ 0 → d % bytes ≡ 0
    → Lags down bytes width s d (lag_of down bytes width s d)
unfolding lag_of
lag_fits false bytes width s d h es ed =
    ⊎_elim
    (λ p. rw (lt-ltb s d p) (up_own bytes width s d _ (exact bytes s d h es ed (omega arith))))
    (λ p. rw (le-ltb s d p) (up_none bytes width s d p))
    (below_or_not s d)
lag_fits true bytes width s d h es ed =
    ⊎_elim
    (λ p. rw (lt-ltb d s p) (down_own bytes width s d _ (exact bytes d s h ed es (omega arith))))
    (λ p. rw (le-ltb d s p) (down_none bytes width s d p))
    (below_or_not d s)

pub sourced_move : (down : Bool) (bytes width s d : ℕ) (mix : Mix) (old memory : List ℕ) → 0 < bytes → s % bytes ≡ 0 → d % bytes ≡ 0
    → width * bytes ≤ length old
    → Sourced down bytes width d (lag_of down bytes width s d) mix (λ m i. get_pixel bytes m (s + spot down bytes width i))
    (copied memory s (width * bytes) old) memory
sourced_move down bytes width s d mix old memory h es ed room =
    let lags = lag_fits down bytes width s d h es ed in
    record {
      early = λ n hn e.
          get_ext bytes _ memory (s + spot down bytes width n)
          (λ x lo hi.
          keep_pixels bytes (mix_of mix bytes) (λ i. d + spot down bytes width i) (λ m i. get_pixel bytes m (s + spot down bytes width i)) n memory x
          (λ i hi'. ⊎_elim (λ z. inl (omega arith)) (λ z. inr (omega arith)) (lags.early n i hn e hi')))
          ∙ sym (copied_pixel memory s bytes (width * bytes) old (spot down bytes width n) (spot_fits down bytes width n hn) room);
      late = λ m n hn e. ap (get_pixel bytes m) (lags.late n hn e);
    }
