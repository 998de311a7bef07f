-- Laws of pixels in memory, over the n bytes of a pixel.
use mathlib.Core.Path.{◌≡◌, refl, sym, ap, ap₂, ◌∙◌}
use mathlib.Core.List.{List, [], ◌∷◌, ◌++◌}
use Prim.Native.Nat.{ℕ, zero, suc, ◌+◌, ◌-◌, ◌*◌, ◌/◌, ◌%◌, ◌^◌, ◌≤◌, ◌<◌, max, zero-le}
use native.Mathlib.Omega.{arith}
use native.Mathlib.Nat.{add-zero, mod-lt, mod-one, not-suc-le-zero, pow-le-pow_right, pow-suc, zero-add}
use native.Mathlib.Numerals.{add-one}
use lib.Arith.{mod-mul}
use lib.Dec.{lit<}
use lib.Pow.{pow_pos}
use lib.ListN.{length, get_or, set, length-set, get_or-append}
use lib.Seq.{get_or-set_same, get_or-set_other, get_or-append-add, set-append_left}
use Rattle.pixel.specs.Pixel.{get_pixel, put_pixel, byte_of, dword_pixel}
use Rattle.pixel.proofs.Depth.{factor_le}

-- ---- what storing a pixel changes

pub length_put : (n : ℕ) (m : List ℕ) (a v : ℕ) → length (put_pixel n m a v) ≡ length m
unfolding put_pixel
length_put zero m a v = refl
length_put (suc n) m a v = length_put n (set m a (v % 256)) (suc a) (v / 256) ∙ length-set m a (v % 256)

pub put_below : (n : ℕ) (m : List ℕ) (a v x : ℕ) → x < a → get_or (put_pixel n m a v) x 0 ≡ get_or m x 0
unfolding put_pixel
put_below zero m a v x h = refl
put_below (suc n) m a v x h =
    put_below n (set m a (v % 256)) (suc a) (v / 256) x (omega arith) ∙ get_or-set_other m a x (v % 256) 0 (omega arith)

pub put_above : (n : ℕ) (m : List ℕ) (a v x : ℕ) → a + n ≤ x → get_or (put_pixel n m a v) x 0 ≡ get_or m x 0
unfolding put_pixel
put_above zero m a v x h = refl
put_above (suc n) m a v x h =
    put_above n (set m a (v % 256)) (suc a) (v / 256) x (omega arith) ∙ get_or-set_other m a x (v % 256) 0 (omega arith)

pub put_hit : (n : ℕ) (m : List ℕ) (a v k : ℕ) → k < n → a + n ≤ length m → get_or (put_pixel n m a v) (a + k) 0 ≡ byte_of k v
unfolding put_pixel byte_of
put_hit zero m a v k h f = absurd (not-suc-le-zero h)
put_hit (suc n) m a v zero h f =
    ap (λ (x : ℕ). get_or (put_pixel n (set m a (v % 256)) (suc a) (v / 256)) x 0) (add-zero a)
    ∙ put_below n (set m a (v % 256)) (suc a) (v / 256) a (omega arith)
    ∙ get_or-set_same m a (v % 256) 0 (omega arith)
put_hit (suc n) m a v (suc k) h f =
    ap (λ (x : ℕ). get_or (put_pixel n (set m a (v % 256)) (suc a) (v / 256)) x 0) (omega arith)
    ∙ put_hit n (set m a (v % 256)) (suc a) (v / 256) k (omega arith) (omega (arith, length-set m a (v % 256)))

-- ---- what a pixel is

-- a pixel depends on its own bytes alone
pub get_ext : (n : ℕ) (m m' : List ℕ) (a : ℕ) → ((x : ℕ) → a ≤ x → x < a + n → get_or m x 0 ≡ get_or m' x 0) → get_pixel n m a ≡ get_pixel n m' a
unfolding get_pixel
get_ext zero m m' a e = refl
get_ext (suc n) m m' a e =
    let first : get_or m a 0 ≡ get_or m' a 0 = e a (omega arith) (omega arith) in
    let rest : get_pixel n m (suc a) ≡ get_pixel n m' (suc a) = get_ext n m m' (suc a) (λ x p q. e x (omega arith) (omega arith)) in
    omega arith

-- a pixel read where it was stored
pub get_put : (n : ℕ) (m : List ℕ) (a v : ℕ) → a + n ≤ length m → get_pixel n (put_pixel n m a v) a ≡ v % 256 ^ n
unfolding get_pixel put_pixel
get_put zero m a v h = sym (mod-one v)
get_put (suc n) m a v h =
    let first : get_or (put_pixel n (set m a (v % 256)) (suc a) (v / 256)) a 0 ≡ v % 256 =
    put_below n (set m a (v % 256)) (suc a) (v / 256) a (omega arith) ∙ get_or-set_same m a (v % 256) 0 (omega arith) in
    let rest : get_pixel n (put_pixel n (set m a (v % 256)) (suc a) (v / 256)) (suc a) ≡ v / 256 % 256 ^ n =
    get_put n (set m a (v % 256)) (suc a) (v / 256) (omega (arith, length-set m a (v % 256))) in
    let parts : v % 256 ^ suc n ≡ v / 256 % 256 ^ n * 256 + v % 256 =
    ap (λ (p : ℕ). v % p) (pow-suc 256 n) ∙ mod-mul v (pow-le-pow_right (lit< tt) zero-le) (lit< tt) in
    omega arith

-- a pixel apart from the one stored
pub get_put_below : (n k : ℕ) (m : List ℕ) (a v b : ℕ) → b + k ≤ a → get_pixel k (put_pixel n m a v) b ≡ get_pixel k m b
get_put_below n k m a v b h = get_ext k _ m b (λ x p q. put_below n m a v x (omega arith))

pub get_put_above : (n k : ℕ) (m : List ℕ) (a v b : ℕ) → a + n ≤ b → get_pixel k (put_pixel n m a v) b ≡ get_pixel k m b
get_put_above n k m a v b h = get_ext k _ m b (λ x p q. put_above n m a v x (omega arith))

-- bytes below 256 make a pixel below 256 ^ n
pub get_lt : (n : ℕ) (m : List ℕ) (a : ℕ) → ((x : ℕ) → get_or m x 0 < 256) → get_pixel n m a < 256 ^ n
unfolding get_pixel
get_lt zero m a h = omega arith
get_lt (suc n) m a h = rw (pow-suc 256 n) (omega (arith, h a, get_lt n m (suc a) h))

-- ---- pixels of one byte and of two

pub get_one : (m : List ℕ) (a : ℕ) → get_pixel 1 m a ≡ get_or m a 0
unfolding get_pixel
get_one m a = omega arith

pub get_two : (m : List ℕ) (a : ℕ) → get_pixel 2 m a ≡ get_or m a 0 + 256 * get_or m (a + 1) 0
unfolding get_pixel
get_two m a = simp add-one (omega arith)

pub put_one : (m : List ℕ) (a v : ℕ) → put_pixel 1 m a v ≡ set m a (v % 256)
unfolding put_pixel
put_one m a v = refl

pub put_two : (m : List ℕ) (a v : ℕ) → put_pixel 2 m a v ≡ set (set m a (v % 256)) (a + 1) (v / 256 % 256)
unfolding put_pixel
put_two m a v = simp add-one

-- the same, for a number of bytes that is known by an equation
pub get_is_one : (n : ℕ) (m : List ℕ) (a r : ℕ) → n ≡ 1 → r ≡ get_or m a 0 → r ≡ get_pixel n m a
get_is_one n m a r e h = rw e (h ∙ sym (get_one m a))

pub get_is_two : (n : ℕ) (m : List ℕ) (a x y : ℕ) → n ≡ 2 → x ≡ get_or m a 0 → y ≡ get_or m (a + 1) 0 → x + 256 * y ≡ get_pixel n m a
get_is_two n m a x y e h k = rw (e, h, k) (sym (get_two m a))

pub put_is_one : (n : ℕ) (m : List ℕ) (a v : ℕ) → n ≡ 1 → set m a (v % 256) ≡ put_pixel n m a v
put_is_one n m a v e = rw e (sym (put_one m a v))

pub put_is_two : (n : ℕ) (m : List ℕ) (a v : ℕ) → n ≡ 2 → set (set m a (v % 256)) (a + 1) (v / 256 % 256) ≡ put_pixel n m a v
put_is_two n m a v e = rw e (sym (put_two m a v))

-- ---- a pixel of a part of memory

pub get_part : (n : ℕ) (p l q : List ℕ) (a : ℕ) → a + n ≤ length l → get_pixel n (p ++ (l ++ q)) (length p + a) ≡ get_pixel n l a
unfolding get_pixel
get_part zero p l q a h = refl
get_part (suc n) p l q a h =
    let first : get_or (p ++ (l ++ q)) (length p + a) 0 ≡ get_or l a 0 = get_or-append-add p (l ++ q) a 0 ∙ get_or-append l q 0 a (omega arith) in
    let next : suc (length p + a) ≡ length p + suc a = omega arith in
    let more : get_pixel n (p ++ (l ++ q)) (suc (length p + a)) ≡ get_pixel n l (suc a) = ap (get_pixel n (p ++ (l ++ q))) next ∙ get_part n p l q (suc a) (omega arith) in
    omega arith

pub set_part : (p l q : List ℕ) (a v : ℕ) → a < length l → set (p ++ (l ++ q)) (length p + a) v ≡ p ++ (set l a v ++ q)
set_part [] l q a v h = ap (λ (x : ℕ). set (l ++ q) x v) (zero-add a) ∙ set-append_left l q a v h
set_part (x ∷ p) l q a v h =
    let e : suc (length p) + a ≡ suc (length p + a) = omega arith in
    ap (λ (k : ℕ). set (x ∷ (p ++ (l ++ q))) k v) e ∙ ap (λ (r : List ℕ). x ∷ r) (set_part p l q a v h)

pub put_part : (n : ℕ) (p l q : List ℕ) (a v : ℕ) → a + n ≤ length l → put_pixel n (p ++ (l ++ q)) (length p + a) v ≡ p ++ (put_pixel n l a v ++ q)
unfolding put_pixel
put_part zero p l q a v h = refl
put_part (suc n) p l q a v h =
    let next : suc (length p + a) ≡ length p + suc a = omega arith in
    ap₂ (λ (m : List ℕ) (x : ℕ). put_pixel n m x (v / 256)) (set_part p l q a (v % 256) (omega arith)) next
    ∙ put_part n p (set l a (v % 256)) q (suc a) (v / 256) (omega (arith, length-set l a (v % 256)))

-- ---- pixels of a dword

-- below depth 16 a pixel is some bits of one byte
pub narrow_pixel : (d e i w : ℕ) (m : List ℕ) → e * d ≡ 8
    → get_or m (4 * w + i * d / 8) 0 / 2 ^ (8 - (d + i * d % 8)) % 2 ^ d ≡ dword_pixel d m w i
unfolding dword_pixel
narrow_pixel d e i w m h =
    let le : d ≤ 8 = factor_le e d 7 h in
    let one : max 1 (d / 8) ≡ 1 = omega arith in
    rw one (rw (get_one m (4 * w + i * d / 8)))

-- at depth 16 it is two whole bytes
pub wide_pixel : (d i w x y : ℕ) (m : List ℕ) → d ≡ 16 → x ≡ get_or m (4 * w + i * d / 8) 0 → y ≡ get_or m (4 * w + i * d / 8 + 1) 0 → x < 256 → y < 256
    → x + 256 * y ≡ dword_pixel d m w i
unfolding dword_pixel
wide_pixel d i w x y m e p q hx hy =
    let p' : x ≡ get_or m (4 * w + i * 16 / 8) 0 = rw e at p in
    let q' : y ≡ get_or m (4 * w + i * 16 / 8 + 1) 0 = rw e at q in
    let z : 8 - (16 + i * 16 % 8) ≡ 0 = omega arith in
    rw (e, z, get_two m (4 * w + i * 16 / 8), ← p', ← q') (omega arith)

-- a pixel of a dword is a number of d bits
pub dword_pixel_lt : (d : ℕ) (m : List ℕ) (w i : ℕ) → dword_pixel d m w i < 2 ^ d
unfolding dword_pixel
dword_pixel_lt d m w i = mod-lt _ (pow_pos d)
