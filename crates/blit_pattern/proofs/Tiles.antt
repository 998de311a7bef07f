-- A line that repeats a row: sixteen pixels are stored, and each later pixel is the one sixteen before it.
use mathlib.Core.Path.{◌≡◌, refl, sym, ap, ap₂, ◌∙◌}
use mathlib.Core.Logic.{⊎_elim}
use mathlib.Core.List.{List}
use Prim.Native.Nat.{ℕ, zero, suc, ◌+◌, ◌-◌, ◌*◌, ◌/◌, ◌%◌, ◌^◌, ◌≤◌, ◌<◌, max, zero-le}
use native.Mathlib.Nat.{pow-le-pow_right, pow-suc, suc-mul}
use native.Mathlib.Omega.{arith}
use lib.Arith.{mod-mul}
use lib.Dec.{lit<}
use lib.ListN.{length, get_or, set}
use Rattle.pixel.specs.Pixel.{get_pixel, put_pixel}
use Rattle.pixel.proofs.Pixels.{get_put, get_put_below}
use Rattle.blit.specs.Blit.{pixels}
use Rattle.blit.specs.Line.{straight_line}
use Rattle.blit.proofs.Runs.{below_or_not, step_fits, length_pixels}

-- ---- pixels that are stored side by side

-- of a pixel its bytes are stored, and no more
put_cut : (n : ℕ) (m : List ℕ) (a v : ℕ) → put_pixel n m a (v % 256 ^ n) ≡ put_pixel n m a v
unfolding put_pixel
put_cut zero m a v = refl
put_cut (suc n) m a v =
    let parts : v % 256 ^ suc n ≡ v / 256 % 256 ^ n * 256 + v % 256 = ap (λ (p : ℕ). v % p) (pow-suc 256 n) ∙ mod-mul v (pow-le-pow_right (lit< tt) zero-le) (lit< tt) in
    let low : v % 256 ^ suc n % 256 ≡ v % 256 = omega arith in
    let high : v % 256 ^ suc n / 256 ≡ v / 256 % 256 ^ n = omega arith in
    ap₂ (λ (x y : ℕ). put_pixel n (set m a x) (suc a) y) low high ∙ put_cut n (set m a (v % 256)) (suc a) (v / 256)

module _ (bytes : ℕ) (f : ℕ → ℕ) (old : List ℕ) where
  -- n pixels of it
  abbrev stored : ℕ → List ℕ
  stored n = straight_line bytes (λ s d. s) f n old

  -- each is read back, cut to its bytes
  pub stored_pixel_lem : (n k : ℕ) → k < n → n * bytes ≤ length old → get_pixel bytes (stored n) (k * bytes) ≡ f k % 256 ^ bytes
  unfolding straight_line pixels
  stored_pixel_lem zero k h room = absurd (omega arith)
  stored_pixel_lem (suc n) k h room =
      let more : suc n * bytes ≡ n * bytes + bytes = suc-mul n bytes in
      ⊎_elim
      (λ p. get_put_below bytes bytes (stored n) (n * bytes) (f n) (k * bytes) (step_fits bytes k n p) ∙ stored_pixel_lem n k p (omega arith))
      (λ p.
      let e : k ≡ n = omega arith in
      let len : length (stored n) ≡ length old = length_pixels bytes (λ s d. s) (λ i. i * bytes) (λ m i. f i) n old in
      rw e (get_put bytes (stored n) (n * bytes) (f n) (omega arith)))
      (below_or_not k n)

  next : (n : ℕ) → put_pixel bytes (stored n) (n * bytes) (f n) ≡ stored (suc n)
  unfolding straight_line pixels
  next n = refl

-- ---- pixels that repeat

-- n pixels from the sixteenth on, each the one sixteen before it
abbrev repeated : ℕ → ℕ → List ℕ → List ℕ
repeated bytes n line = pixels bytes (λ s d. s) (λ i. (16 + i) * bytes) (λ m i. get_pixel bytes m (i * bytes)) n line

pub repeat_none : (bytes : ℕ) (line : List ℕ) → line ≡ repeated bytes (16 - 16) line
unfolding pixels
repeat_none bytes line = refl

again : (bytes n : ℕ) (line : List ℕ)
    → put_pixel bytes (repeated bytes n line) ((16 + n) * bytes) (get_pixel bytes (repeated bytes n line) (n * bytes)) ≡ repeated bytes (suc n) line
unfolding pixels
again bytes n line = refl

pub repeat_more : (bytes i : ℕ) (line m : List ℕ) (v : ℕ) → 16 ≤ i → m ≡ repeated bytes (i - 16) line → v ≡ get_pixel bytes m ((i - 16) * bytes)
    → put_pixel bytes m (i * bytes) v ≡ repeated bytes (i + 1 - 16) line
repeat_more bytes i line m v h e ev =
    let n : ℕ = i - 16 in
    let at : i ≡ 16 + n = omega arith in
    let more : suc n ≡ i + 1 - 16 = omega arith in
    ap₂ (λ (k w : ℕ). put_pixel bytes m (k * bytes) w) at ev
    ∙ ap (λ (x : List ℕ). put_pixel bytes x ((16 + n) * bytes) (get_pixel bytes x (n * bytes))) e
    ∙ again bytes n line
    ∙ ap (λ (k : ℕ). repeated bytes k line) more

-- pixels that are the same every sixteen are repeated
pub tiled : (bytes : ℕ) (f : ℕ → ℕ) (old : List ℕ) → ((i : ℕ) → f i ≡ f (16 + i)) → (n : ℕ) → (16 + n) * bytes ≤ length old
    → repeated bytes n (stored bytes f old 16) ≡ stored bytes f old (16 + n)
tiled bytes f old same zero room = sym (repeat_none bytes (stored bytes f old 16)) ∙ ap (stored bytes f old) (omega arith)
tiled bytes f old same (suc n) room =
    let m : List ℕ = stored bytes f old (16 + n) in
    let more : suc (16 + n) ≡ 16 + suc n = omega arith in
    let fits : (16 + n) * bytes ≤ length old = omega (arith, suc-mul (16 + n) bytes, ap (λ (k : ℕ). k * bytes) more) in
    sym (again bytes n (stored bytes f old 16))
    ∙ ap (λ (x : List ℕ). put_pixel bytes x ((16 + n) * bytes) (get_pixel bytes x (n * bytes))) (tiled bytes f old same n fits)
    ∙ ap (put_pixel bytes m ((16 + n) * bytes)) (stored_pixel_lem bytes f old (16 + n) n (omega arith) fits)
    ∙ put_cut bytes m ((16 + n) * bytes) (f n)
    ∙ ap (put_pixel bytes m ((16 + n) * bytes)) (same n)
    ∙ next bytes f old (16 + n)
    ∙ ap (stored bytes f old) more

-- a row from column x on, over a whole line
pub row_tiled : (bytes : ℕ) (row : List ℕ) (x width : ℕ) (old line : List ℕ) → max 16 width * bytes ≤ length old
    → line ≡ straight_line bytes (λ s d. s) (λ i. get_or row ((x + i) % 8) 0) 16 old
    → repeated bytes (width - 16) line ≡ straight_line bytes (λ s d. s) (λ i. get_or row ((x + i) % 8) 0) (max 16 width) old
row_tiled bytes row x width old line room e =
    let f : ℕ → ℕ = λ i. get_or row ((x + i) % 8) 0 in
    let size : 16 + (width - 16) ≡ max 16 width = omega arith in
    ap (repeated bytes (width - 16)) e
    ∙ tiled bytes f old (λ i. ap (λ (k : ℕ). get_or row k 0) (omega arith)) (width - 16) (rw size room)
    ∙ ap (stored bytes f old) size
