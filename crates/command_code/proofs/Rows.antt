-- Refusals 12 and 14 from what the functions found.
use Prim.Native.Nat.{ℕ, zero, suc, ◌+◌, ◌*◌, ◌<◌, ◌≤◌}
use mathlib.Core.Path.{◌≡◌, refl, sym, ap, ◌∙◌}
use mathlib.Core.List.{List, [], ◌∷◌, ◌++◌}
use mathlib.Core.Bool.{Bool, true, not, ◌&&◌, ◌||◌, and-true, and-eq-true_iff}
use mathlib.Core.Logic.{⊎_elim}
use native.Mathlib.Omega.{arith}
use lib.ListN.{length, get_or, drop, replicate, drop_of_length-le}
use Rattle.std.proofs.lemmas.List.{append-nil}
use lib.Seq.{drop-cons}
use lib.Dec.{eqb, ltb}
use borrow.Author.Tests.{eqb-true, eq-eqb, ne_eqb, lt-ltb}
use Rattle.record.specs.Bytes.{u32_at, all_zero}
use Rattle.record.proofs.Choice.{and_left, and_right, below_or_not, or_elim}
use Rattle.screen.specs.declared.Image.{Image}
use Rattle.screen.specs.declared.Screen.{Screen}
use Rattle.command.specs.Command.{by_operation, surface_of, zeros_from, inside_image, placed}
use Rattle.command.specs.Task.{is_form}
use Rattle.command.specs.declared.Command.{Command}
use Rattle.command.proofs.Operation.{each}
use Rattle.command.proofs.Sharing.{same_truth}
use Rattle.command_values.proofs.Table.{up_to_two, past_two}

-- the bytes of a record in the long form
all_one : (x n i : ℕ) → get_or (replicate n x) i x ≡ x
all_one x zero i = refl
all_one x (suc n) zero = refl
all_one x (suc n) (suc i) = all_one x n i

padded_with : (b : List ℕ) (n i : ℕ) → get_or (b ++ drop (length b) (replicate n 0)) i 0 ≡ get_or b i 0
padded_with [] n i = all_one 0 n i
padded_with (x ∷ b) zero i = ap (λ (l : List ℕ). get_or l i 0) (append-nil (x ∷ b))
padded_with (x ∷ b) (suc n) zero = refl
padded_with (x ∷ b) (suc n) (suc i) = padded_with b n i

pub padded : (b : List ℕ) (i : ℕ) → get_or (b ++ drop (length b) (replicate 48 0)) i 0 ≡ get_or b i 0
padded b i = padded_with b 48 i

-- row 12: bytes that must be zero, four at a time
four_bytes_lem : (x y z w : ℕ) (r : Bool) → (eqb x 0 && (eqb y 0 && (eqb z 0 && (eqb w 0 && r)))) ≡ (eqb (x + 256 * y + 65536 * (z + 256 * w)) 0 && r)
four_bytes_lem x y z w r = same_truth _ _ all sum
  where
    all : (eqb x 0 && (eqb y 0 && (eqb z 0 && (eqb w 0 && r)))) ≡ true → (eqb (x + 256 * y + 65536 * (z + 256 * w)) 0 && r) ≡ true
    all e =
        let t = simp and-eq-true_iff at e in
        let n : x + 256 * y + 65536 * (z + 256 * w) ≡ 0 = omega (arith, eqb-true x 0 t.0, eqb-true y 0 t.1.0, eqb-true z 0 t.1.1.0, eqb-true w 0 t.1.1.1.0) in
        rw (eq-eqb (x + 256 * y + 65536 * (z + 256 * w)) 0 n) t.1.1.1.1

    sum : (eqb (x + 256 * y + 65536 * (z + 256 * w)) 0 && r) ≡ true → (eqb x 0 && (eqb y 0 && (eqb z 0 && (eqb w 0 && r)))) ≡ true
    sum e =
        let n = eqb-true (x + 256 * y + 65536 * (z + 256 * w)) 0 (and_left _ r e) in
        let x0 : x ≡ 0 = omega (arith, n) in
        let y0 : y ≡ 0 = omega (arith, n) in
        let z0 : z ≡ 0 = omega (arith, n) in
        let w0 : w ≡ 0 = omega (arith, n) in
        rw (x0, y0, z0, w0) (and_right (eqb (x + 256 * y + 65536 * (z + 256 * w)) 0) r e)

zero_four : (b : List ℕ) (k : ℕ) → k + 4 ≤ length b → all_zero (drop k b) ≡ (eqb (u32_at b k) 0 && all_zero (drop (k + 4) b))
unfolding all_zero
zero_four b k h =
    let one : suc k ≡ k + 1 = omega arith in
    let two : suc (suc k) ≡ k + 2 = omega arith in
    let three : suc (suc (suc k)) ≡ k + 2 + 1 = omega arith in
    let four : suc (suc (suc (suc k))) ≡ k + 4 = omega arith in
    ap all_zero
    (drop-cons b k 0 (omega (arith, h))
    ∙ ap (λ (l : List ℕ). get_or b k 0 ∷ l)
    (drop-cons b (suc k) 0 (omega (arith, h))
    ∙ ap (λ (l : List ℕ). get_or b (suc k) 0 ∷ l)
    (drop-cons b (suc (suc k)) 0 (omega (arith, h))
    ∙ ap (λ (l : List ℕ). get_or b (suc (suc k)) 0 ∷ l) (drop-cons b (suc (suc (suc k))) 0 (omega (arith, h))))))
    ∙ four_bytes_lem (get_or b k 0) (get_or b (suc k) 0) (get_or b (suc (suc k)) 0) (get_or b (suc (suc (suc k))) 0) (all_zero (drop (suc (suc (suc (suc k)))) b))
    ∙ (λ t. eqb (get_or b k 0 + 256 * get_or b (one t) 0 + 65536 * (get_or b (two t) 0 + 256 * get_or b (three t) 0)) 0 && all_zero (drop (four t) b))

none_past : (b : List ℕ) (k : ℕ) → length b ≤ k → all_zero (drop k b) ≡ true
unfolding all_zero
none_past b k h = ap all_zero (drop_of_length-le b h)

-- the last eight bytes of a record of 48, and the last sixteen
pub last_eight : (b : List ℕ) (x y : ℕ) → length b ≡ 48 → x ≡ u32_at b 40 → y ≡ u32_at b 44 → (eqb x 0 && eqb y 0) ≡ all_zero (drop 40 b)
last_eight b x y h e f =
    rw (e, f)
    (sym
    (zero_four b 40 (omega (arith, h))
    ∙ ap (λ (t : Bool). eqb (u32_at b 40) 0 && t)
    (zero_four b 44 (omega (arith, h)) ∙ ap (λ (t : Bool). eqb (u32_at b 44) 0 && t) (none_past b 48 (omega (arith, h))) ∙ and-true (eqb (u32_at b 44) 0))))

pub last_sixteen : (b : List ℕ) (x y : ℕ) (t : Bool) → length b ≡ 48 → x ≡ u32_at b 32 → y ≡ u32_at b 36 → t ≡ all_zero (drop 40 b) → (eqb x 0 && (eqb y 0 && t)) ≡ all_zero (drop 32 b)
last_sixteen b x y t h e f g =
    rw (e, f, g)
    (sym (zero_four b 32 (omega (arith, h)) ∙ ap (λ (u : Bool). eqb (u32_at b 32) 0 && u) (zero_four b 36 (omega (arith, h)))))

-- a record in a form that is below 48 bytes has 32, and none past them
pub none_in_short : (b : List ℕ) (op : ℕ) → is_form (length b) ≡ true → length b < 48 → true ≡ all_zero (drop (zeros_from op) b)
none_in_short b op f h =
    sym (none_past b (zeros_from op) (omega (arith, short_length (length b) f h, zeros_late op)))
  where
    short_length : (n : ℕ) → is_form n ≡ true → n < 48 → n ≡ 32
    short_length n e k = or_elim (eqb n 32) (eqb n 48) e (λ p. eqb-true n 32 p) (λ p. absurd (omega (arith, k, eqb-true n 48 p)))

    zeros_late : (op : ℕ) → 32 ≤ zeros_from op
    zeros_late op =
        ⊎_elim
        (λ p. let e : zeros_from op ≡ 40 = past_two op _ _ _ _ p in omega (arith, e))
        (λ p. let e : zeros_from op ≡ 32 = up_to_two op _ _ _ _ p in omega (arith, e))
        (below_or_not 2 op)

pub long_length : (b : List ℕ) → is_form (length b) ≡ true → 48 ≤ length b → length b ≡ 48
long_length b e h = or_elim (eqb (length b) 32) (eqb (length b) 48) e (λ p. absurd (omega (arith, h, eqb-true (length b) 32 p))) (λ p. eqb-true (length b) 48 p)

-- row 14: a test that operations 1 and 5 are put to
moved : (n : ℕ) (b : Bool) → (not (eqb n 1 || ltb 4 n) || b) ≡ by_operation n true b true true true b
moved n b =
    each n (λ e. rw e) (λ e. rw e) (λ e. rw e) (λ e. rw e) (λ e. rw e)
    (λ p0 p1 p2 p3 p4. let h : 4 < n = omega arith in rw (ne_eqb n 0 p0, ne_eqb n 1 p1, ne_eqb n 2 p2, ne_eqb n 3 p3, ne_eqb n 4 p4, lt-ltb 4 n h))

-- both rectangles
pub placed_is : (s : Screen) (c : Command) (i : Image) (destination source : Bool) → i ≡ surface_of s c → destination ≡ inside_image i c.x c.y c.width c.height → source ≡ inside_image i c.sx c.sy c.width c.height
    → (destination && (not (eqb c.operation 1 || ltb 4 c.operation) || source)) ≡ placed s c
unfolding placed
placed_is s c i destination source e f g = rw (f, g, e, moved)
