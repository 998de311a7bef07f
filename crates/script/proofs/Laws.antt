-- Lines, numbers and stores, one step at a time, for loops that go up.
use Prim.Native.Nat.{ℕ, suc, ◌+◌, ◌-◌, ◌%◌, ◌<◌, ◌≤◌}
use mathlib.Core.Path.{◌≡◌, refl, sym, ap, ◌∙◌}
use mathlib.Core.Bool.{Bool, true, false, not, cond}
use mathlib.Core.Logic.{⊎_elim}
use mathlib.Core.List.{List, [], ◌∷◌}
use native.Mathlib.Numerals.{add-one}
use native.Mathlib.Omega.{arith}
use lib.ListN.{length, get_or, set, drop, replicate, length-drop, drop_of_length-le}
use lib.Seq.{sets, drop-cons, set_out}
use lib.Dec.{leb, eqb}
use borrow.Author.Tests.{le-leb, lt-leb, eq-eqb, ne_eqb}
use Rattle.record.proofs.Choice.{below_or_not}
use Rattle.script.specs.Script.{line_length, line_end, number_put, scan_byte, scan_bytes, number_of, fields_put, words_put}
use Rattle.script.specs.declared.Scan.{Scan}

-- ---- where a line ends
pub line_next : (t : List ℕ) (i : ℕ) → i < length t → (get_or t i 0 ≡ 10 → ⊥) → line_end t (i + 1) ≡ line_end t i
unfolding line_length
line_next t i h e = rw (drop-cons t i 0, add-one) (simp (ne_eqb (get_or t i 0) 10 e) (omega arith))

pub line_stop : (t : List ℕ) (i : ℕ) → i < length t → get_or t i 0 ≡ 10 → i ≡ line_end t i
unfolding line_length
line_stop t i h e = rw (drop-cons t i 0) (simp (eq-eqb (get_or t i 0) 10 e) (omega arith))

pub line_last : (t : List ℕ) (i : ℕ) → length t ≤ i → i ≡ line_end t i
unfolding line_length
line_last t i h = rw (drop_of_length-le t h) (omega arith)

chosen : (b : Bool) (m n : ℕ) → m ≤ n → cond b 0 (suc m) ≤ suc n
chosen true m n h = omega arith
chosen false m n h = omega arith

length_line : (l : List ℕ) → line_length l ≤ length l
unfolding line_length
length_line [] = omega arith
length_line (b ∷ bs) = chosen (eqb b 10) _ _ (length_line bs)

-- a line ends within the text
pub line_within : (t : List ℕ) (at : ℕ) → at ≤ length t → line_end t at ≤ length t
line_within t at h = omega (arith, length_line (drop at t), length-drop at t)

-- ---- four bytes
pub four_more : (n at : ℕ) → 4 ≤ n → leb at (n - 4) ≡ leb (at + 4) n
four_more n at h = ⊎_elim (λ e. lt-leb at (n - 4) e ∙ sym (lt-leb (at + 4) n (omega arith))) (λ e. le-leb at (n - 4) e ∙ sym (le-leb (at + 4) n (omega arith))) (below_or_not (n - 4) at)

-- ---- number k of a line
blanks_chosen : (a b c : Bool) (n : ℕ) (p q r s : Scan) → p.blanks ≤ n → q.blanks ≤ n → r.blanks ≤ n → s.blanks ≤ n → (cond a p (cond b q (cond c r s))).blanks ≤ n
blanks_chosen true b c n p q r s e f g h = e
blanks_chosen false true c n p q r s e f g h = f
blanks_chosen false false true n p q r s e f g h = g
blanks_chosen false false false n p q r s e f g h = h

-- a byte is one blank at most
pub blanks_next : (k : ℕ) (s new : Scan) (b : ℕ) → new ≡ scan_byte k s b → new.blanks ≤ s.blanks + 1
unfolding scan_byte
blanks_next k s new b e =
    rw e (blanks_chosen (eqb b 32) (not (eqb s.blanks k)) (eqb b 104) _ _ _ _ _ (omega arith) (omega arith) (omega arith) (omega arith))

pub scan_next : (k : ℕ) (s new : Scan) (l : List ℕ) (i : ℕ) → i < length l → new ≡ scan_byte k s (get_or l i 0) → (scan_bytes k s (drop i l)).value ≡ (scan_bytes k new (drop (i + 1) l)).value
unfolding scan_bytes
scan_next k s new l i h e = rw (e, drop-cons l i 0, add-one)

pub scan_end : (k : ℕ) (s : Scan) (l : List ℕ) (i : ℕ) → length l ≤ i → (scan_bytes k s (drop i l)).value ≡ s.value
unfolding scan_bytes
scan_end k s l i h = rw (drop_of_length-le l h)

-- ---- stores
pub fields_next : (line ps s new : List ℕ) (i v : ℕ) → i < length ps → v ≡ number_of line i → new ≡ number_put s (get_or ps i 0) v → fields_put line i (drop i ps) s ≡ fields_put line (i + 1) (drop (i + 1) ps) new
unfolding fields_put
fields_next line ps s new i v h e f = rw (f, e, drop-cons ps i 0, add-one)

pub fields_end : (line ps s : List ℕ) (i : ℕ) → length ps ≤ i → fields_put line i (drop i ps) s ≡ s
unfolding fields_put
fields_end line ps s i h = rw (drop_of_length-le ps h)

pub words_start : (line words : List ℕ) (first last v : ℕ) → first ≡ number_of line 0 → last ≡ number_of line 1 → v ≡ number_of line 2 → words_put line words ≡ sets words first (replicate (suc last - first) (v % 65536))
unfolding words_put
words_start line words first last v e f g = rw (e, f, g)

pub words_next : (l : List ℕ) (i last v : ℕ) → i ≤ last → sets l i (replicate (suc last - i) v) ≡ sets (set l i v) (i + 1) (replicate (suc last - (i + 1)) v)
words_next l i last v h =
    let e : suc last - i ≡ suc (suc last - (i + 1)) = omega arith in
    rw (e, add-one)

pub words_end : (l : List ℕ) (i last v : ℕ) → last < i → sets l i (replicate (suc last - i) v) ≡ l
words_end l i last v h =
    let e : suc last - i ≡ 0 = omega arith in
    rw e

-- past the end nothing is stored
sets_past : (l : List ℕ) (i : ℕ) (vs : List ℕ) → length l ≤ i → sets l i vs ≡ l
sets_past l i [] h = refl
sets_past l i (v ∷ vs) h = ap (λ (x : List ℕ). sets x (suc i) vs) (set_out l i v h) ∙ sets_past l (suc i) vs (omega arith)

pub words_past : (l : List ℕ) (i last v : ℕ) → length l ≤ i → sets l i (replicate (suc last - i) v) ≡ l
words_past l i last v h = sets_past l i (replicate (suc last - i) v) h
