-- Laws on a picture's pixels.
use Prim.Native.Nat.{ℕ, suc, ◌+◌, ◌-◌, ◌*◌, ◌/◌, ◌%◌, ◌^◌, ◌<◌, ◌≤◌, min}
use mathlib.Core.Path.{◌≡◌, refl, ap, ◌∙◌}
use mathlib.Core.Bool.{Bool, true, false, cond}
use mathlib.Core.List.{List, [], ◌∷◌}
use native.Mathlib.Nat.{le_trans, mul-suc, mul-le-mul_left, mul-div-le, one-mul, mod-eq_of_lt}
use native.Mathlib.Numerals.{add-one}
use native.Mathlib.Omega.{arith}
use lib.ListN.{length, get_or}
use lib.Dec.{eqb}
use lib.Pow.{pow_mono, pow_pos}
use lib.Seq.{sets}
use borrow.Author.Tests.{eq-eqb, ne_eqb}
use Rattle.io.specs.Counts.{IsPrefixLen}
use Rattle.text.specs.Lines.{joined}
use Rattle.text.proofs.Joined.{Filling, fill_turn, fill_end}
use Rattle.text.proofs.Stored.{counts}
use Rattle.picture.specs.Picture.{highest, pixel_size, from_five, from_six, pixel_bytes}

chosen : (b : Bool) (x y : List ℕ) (m n : ℕ) → length x ≡ m → length y ≡ n → length (cond b x y) ≡ cond b m n
chosen true x y m n e f = e
chosen false x y m n e f = f

-- the bytes of colour p of a list
abbrev bytes_of : ℕ → List ℕ → ℕ → List ℕ
bytes_of depth colours p = pixel_bytes depth (get_or colours p 0)

length_pixel : (depth : ℕ) (colours : List ℕ) (p : ℕ) → length (bytes_of depth colours p) ≡ pixel_size depth
unfolding pixel_bytes pixel_size
length_pixel depth colours p = chosen (eqb depth 16) _ _ 3 1 refl refl

one_or_three : (b : Bool) → (1 ≤ cond b 3 1) × (cond b 3 1 ≤ 3)
one_or_three true = (omega arith, omega arith)
one_or_three false = (omega arith, omega arith)

pub size_range : (depth : ℕ) → (1 ≤ pixel_size depth) × (pixel_size depth ≤ 3)
unfolding pixel_size
size_range depth = one_or_three (eqb depth 16)

-- as many pixels as the quotient says have room
pub all_room : (k w room n : ℕ) → n ≡ min w (room / k) → k * n ≤ room
all_room k w room n e =
    let h : n ≤ room / k = omega arith in
    le_trans (mul-le-mul_left k h) (mul-div-le room k)

-- the next pixel has room where one is left
pub next_room : (k i n room at : ℕ) → i < n → k * n ≤ room → at ≡ k * i → at + k ≤ room
next_room k i n room at h f e =
    let g : k * suc i ≤ k * n = mul-le-mul_left k h in
    let m : k * suc i ≡ k * i + k = mul-suc k i in
    omega arith

pub next_place : (k i at : ℕ) → at ≡ k * i → at + k ≡ k * (i + 1)
next_place k i at e = rw (add-one, mul-suc, e)

-- pixel i of a line behind the i pixels before it
module _ (depth : ℕ) (colours old : List ℕ) (size n : ℕ) (is : size ≡ pixel_size depth) where
  pub pixel_turn : (l new : List ℕ) (i at c : ℕ) → at ≡ size * i → Filling (bytes_of depth colours) n old l i → i < n → c ≡ get_or colours i 0 → new ≡ sets l at (pixel_bytes depth c)
      → Filling (bytes_of depth colours) n old new (i + 1)
  pixel_turn l new i at c e g h f s =
      let place : at ≡ pixel_size depth * i = e ∙ ap (λ (k : ℕ). k * i) is in
      fill_turn (pixel_size depth) (bytes_of depth colours) (length_pixel depth colours) n old l new i g h
      (s ∙ ap (λ (x : ℕ). sets l at (pixel_bytes depth x)) f ∙ ap (λ (j : ℕ). sets l j (bytes_of depth colours i)) place)

  -- the whole line: its bytes, and what the buffer holds
  pub pixels_end : (l : List ℕ) (i at w : ℕ) → at ≡ size * i → Filling (bytes_of depth colours) n old l i → n ≤ i → n ≡ min w (length old / size) → size * n ≤ length old
      → (at ≡ pixel_size depth * min w (length old / pixel_size depth)) × (IsPrefixLen at l × (l ≡ sets old 0 (joined (bytes_of depth colours) (min w (length old / pixel_size depth)))))
  pixels_end l i at w e g h m room =
      let same : i ≡ n = omega (arith, g.within) in
      let count : n ≡ min w (length old / pixel_size depth) = m ∙ ap (λ (k : ℕ). min w (length old / k)) is in
      let all : at ≡ size * n = e ∙ ap (λ (k : ℕ). size * k) same in (
        all ∙ ap (λ (k : ℕ). size * k) count ∙ ap (λ (k : ℕ). k * min w (length old / pixel_size depth)) is,
        (counts at l (omega (arith, g.same)), fill_end (bytes_of depth colours) n _ old l i g h count),
      )

-- ---- depth 16, and the others
pub three_sized : (depth : ℕ) → depth ≡ 16 → 3 ≡ pixel_size depth
unfolding pixel_size
three_sized depth e = rw (eq-eqb depth 16 e)

pub one_sized : (depth : ℕ) → (depth ≡ 16 → ⊥) → 1 ≡ pixel_size depth
unfolding pixel_size
one_sized depth e = rw (ne_eqb depth 16 e)

pub three_bytes_lem : (depth c r g b : ℕ) → depth ≡ 16 → r ≡ from_five (c / 2048 % 32) → g ≡ from_six (c / 32 % 64) → b ≡ from_five (c % 32) → r ∷ g ∷ b ∷ [] ≡ pixel_bytes depth c
unfolding pixel_bytes
three_bytes_lem depth c r g b e p q s = rw (eq-eqb depth 16 e, p, q, s)

pub one_byte : (depth c : ℕ) → (depth ≡ 16 → ⊥) → c % 256 ∷ [] ≡ pixel_bytes depth c
unfolding pixel_bytes
one_byte depth c e = rw (ne_eqb depth 16 e)

-- ---- the highest value
low_power : (d : ℕ) → d < 8 → 1 * 2 ^ d % 4294967296 ≡ 2 ^ d
low_power d h =
    let le : d ≤ 8 = omega arith in
    let m : 2 ^ d ≤ 256 = pow_mono le in
    let s : 2 ^ d < 4294967296 = omega arith in
    rw one-mul (mod-eq_of_lt s)

pub power_above : (d : ℕ) → d < 8 → 1 ≤ 1 * 2 ^ d % 4294967296
power_above d h = rw (low_power d h) (pow_pos d)

pub power_less : (d : ℕ) → d < 8 → 1 * 2 ^ d % 4294967296 - 1 ≡ highest d
power_less d h =
    let m : min d 8 ≡ d = omega arith in
    rw (low_power d h, m)

pub power_eight : (d : ℕ) → 8 ≤ d → 255 ≡ highest d
power_eight d h =
    let m : min d 8 ≡ 8 = omega arith in
    rw m
