-- Laws of fonts: which one a glyph is lent from and where its part ends, the bytes of a glyph, and a number's digits.
use Prim.Native.Nat.{ℕ, zero, suc, ◌+◌, ◌-◌, ◌*◌, ◌/◌, ◌%◌, ◌<◌, ◌≤◌}
use mathlib.Core.Path.{◌≡◌, refl, sym, ap, subst, ◌∙◌}
use mathlib.Core.Bool.{Bool, true, false, ◌||◌, cond}
use mathlib.Core.List.{List, [], ◌∷◌, ◌++◌}
use mathlib.Core.Logic.{⊎_elim}
use native.Mathlib.Nat.{add-sub_cancel_left}
use native.Mathlib.Omega.{arith}
use denote.Ref.{Bor}
use lib.ListN.{length, get_or, take, drop, length-append, length-take, length-drop}
use lib.Dec.{leb, ltb, eqb}
use borrow.Author.Tests.{leb-true, ltb-false, le-leb, lt-leb, lt-ltb, le-ltb}
use Rattle.record.specs.Part.{IsPart}
use Rattle.record.proofs.Choice.{below_or_not, both_ways}
use Rattle.wear.specs.Font.{Finding, finding, finding_of, finding_by, GlyphPart, glyph_of, last_decimal_digits, digits_of}
use Rattle.std.specs.Prelude.{Ok, Err}
use Rattle.refusal.specs.Number as refusals
use Rattle.refusal.specs.declared.Refusal.{Refusal}
use Rattle.refusal.specs.declared.Refusal.TheVariants.{WearRange}
use Rattle.wear.specs.declared.Glyph.TheVariants.{Site, Factory}

-- ---- the answers
module _ (site factory digit : ℕ) where
  pub found_none : (ltb factory 80 || ltb 9 digit) ≡ true → finding_of (Err WearRange) ≡ finding site factory digit
  unfolding finding finding_by refusals.number
  found_none e = rw e

  module _ (e : (ltb factory 80 || ltb 9 digit) ≡ false) where
    pub found_site : 8 * digit + 8 ≤ site → finding_of (Ok (Site (8 * digit))) ≡ finding site factory digit
    unfolding finding finding_by
    found_site h = rw (e, le-leb (8 * digit + 8) site h)

    pub found_factory : site < 8 * digit + 8 → finding_of (Ok (Factory (8 * digit))) ≡ finding site factory digit
    unfolding finding finding_by
    found_factory h = rw (e, lt-leb (8 * digit + 8) site h)

-- ---- where a part ends
-- what a finding says by its two tests
abbrev by_tests : ℕ → Bool → Bool → Finding
by_tests digit t u =
    cond t
    (record { number = 27; site = 0; at = 0; length = 0 })
    (record { number = 0; site = cond u 1 0; at = 8 * digit; length = 8 })

-- the site font's glyph: the tests fell so
site_tests : (digit at : ℕ) (t u : Bool) → record { number = 0; site = 1; at = at; length = 8 } ≡ by_tests digit t u → (u ≡ true) × (at ≡ 8 * digit)
site_tests digit at true u e = absurd (omega (arith, ap (λ (f : Finding). f.number) e))
site_tests digit at false true e = (refl, ap (λ (f : Finding). f.at) e)
site_tests digit at false false e = absurd (omega (arith, ap (λ (f : Finding). f.site) e))

-- the factory font's
factory_tests : (digit at : ℕ) (t u : Bool) → record { number = 0; site = 0; at = at; length = 8 } ≡ by_tests digit t u → (t ≡ false) × (at ≡ 8 * digit)
factory_tests digit at true u e = absurd (omega (arith, ap (λ (f : Finding). f.number) e))
factory_tests digit at false u e = (refl, ap (λ (f : Finding). f.at) e)

or_left : (a b : Bool) → (a || b) ≡ false → a ≡ false
or_left true b h = h
or_left false b h = refl

or_right : (a b : Bool) → (a || b) ≡ false → b ≡ false
or_right true true h = h
or_right true false h = refl
or_right false b h = h

pub site_ends : (site factory digit at : ℕ) → finding_of (Ok (Site at)) ≡ finding site factory digit → at + 8 ≤ site
unfolding finding finding_by
site_ends site factory digit at e =
    let h = site_tests digit at (ltb factory 80 || ltb 9 digit) (leb (8 * digit + 8) site) e in
    omega (arith, leb-true (8 * digit + 8) site h.0, h.1)

pub factory_ends : (site factory digit at : ℕ) → finding_of (Ok (Factory at)) ≡ finding site factory digit → at + 8 ≤ factory
unfolding finding finding_by
factory_ends site factory digit at e =
    let h = factory_tests digit at (ltb factory 80 || ltb 9 digit) (leb (8 * digit + 8) site) e in
    omega (arith, ltb-false factory 80 (or_left (ltb factory 80) (ltb 9 digit) h.0), ltb-false 9 digit (or_right (ltb factory 80) (ltb 9 digit) h.0), h.1)

-- ---- the part of an answer
-- the eight bytes from `at` on
pub eight_bytes : (font r : Bor (List ℕ)) (at : ℕ) → r.ref_ptr ≡ (font.ref_ptr.0, at + font.ref_ptr.1) → r.now ≡ take (at + 8 - at) (drop at font.now) → IsPart font r at 8
eight_bytes font r at p q =
    record { place = p; bytes = q ∙ ap (λ (k : ℕ). take k (drop at font.now)) (add-sub_cancel_left at 8) }

module _ (site factory r : Bor (List ℕ)) (f : Finding) where
  pub site_part : (at : ℕ) → finding_of (Ok (Site at)) ≡ f → IsPart site r at 8 → GlyphPart site factory r f
  unfolding finding_by
  site_part at e p = subst (λ (g : Finding). GlyphPart site factory r g) e p

  pub factory_part : (at : ℕ) → finding_of (Ok (Factory at)) ≡ f → IsPart factory r at 8 → GlyphPart site factory r f
  unfolding finding_by
  factory_part at e p = subst (λ (g : Finding). GlyphPart site factory r g) e p

  pub no_part : (why : Refusal) → finding_of (Err why) ≡ f → IsPart factory r 0 0 → GlyphPart site factory r f
  unfolding finding_by
  no_part why e p = subst (λ (g : Finding). GlyphPart site factory r g) e p

-- ---- the bytes of a glyph
-- what a chosen font holds now
now_chosen : (t : Bool) (a b : Bor (List ℕ)) → (cond t a b).now ≡ cond t a.now b.now
now_chosen true a b = refl
now_chosen false a b = refl

-- a part that is a digit's glyph holds its bytes
pub part_holds : (site factory r : Bor (List ℕ)) (digit : ℕ) → GlyphPart site factory r (finding (length site.now) (length factory.now) digit) → r.now ≡ glyph_of site.now factory.now digit
unfolding glyph_of
part_holds site factory r digit p =
    let f = finding (length site.now) (length factory.now) digit in
    p.bytes ∙ ap (λ (l : List ℕ). take f.length (drop f.at l)) (now_chosen (eqb f.site 1) site factory)

-- with a factory font each digit has eight
pub glyph_whole : (site factory : List ℕ) (digit : ℕ) → 80 ≤ length factory → digit < 10 → length (glyph_of site factory digit) ≡ 8
unfolding glyph_of finding
glyph_whole site factory digit h d =
    rw (le-ltb (length factory) 80 h, le-ltb 9 digit (omega arith))
    (both_ways (λ (w : ℕ). length (take 8 (drop (8 * digit) (cond (eqb w 1) site factory))) ≡ 8) (leb (8 * digit + 8) (length site)) 1 0
    (λ e. simp (length-take, length-drop) (omega (arith, leb-true (8 * digit + 8) (length site) e)))
    (λ e. simp (length-take, length-drop) (omega arith)))

-- ---- digits
one_digit : (k n : ℕ) → n < 10 → last_decimal_digits (suc k) n ≡ n ∷ []
unfolding last_decimal_digits
one_digit k n h = rw (lt-ltb n 10 h)

more_digits : (k n : ℕ) → 10 ≤ n → last_decimal_digits (suc k) n ≡ last_decimal_digits k (n / 10) ++ (n % 10 ∷ [])
unfolding last_decimal_digits
more_digits k n h = rw (le-ltb n 10 h)

two_digits : (k n : ℕ) → 10 ≤ n → n < 100 → last_decimal_digits (suc (suc k)) n ≡ n / 10 ∷ n % 10 ∷ []
two_digits k n h g = more_digits (suc k) n h ∙ ap (λ (l : List ℕ). l ++ (n % 10 ∷ [])) (one_digit k (n / 10) (omega arith))

three_digits : (k n : ℕ) → 100 ≤ n → n < 1000 → last_decimal_digits (suc (suc (suc k))) n ≡ n / 100 ∷ n / 10 % 10 ∷ n % 10 ∷ []
three_digits k n h g =
    let e : n / 10 / 10 ≡ n / 100 = omega arith in
    more_digits (suc (suc k)) n (omega arith) ∙ ap (λ (l : List ℕ). l ++ (n % 10 ∷ [])) (two_digits k (n / 10) (omega arith) (omega arith)) ∙ ap (λ (x : ℕ). x ∷ n / 10 % 10 ∷ n % 10 ∷ []) e

four_digits : (k n : ℕ) → 1000 ≤ n → n < 10000 → last_decimal_digits (suc (suc (suc (suc k)))) n ≡ n / 1000 ∷ n / 100 % 10 ∷ n / 10 % 10 ∷ n % 10 ∷ []
four_digits k n h g =
    let e : n / 10 / 100 ≡ n / 1000 = omega arith in
    let f : n / 10 / 10 ≡ n / 100 = omega arith in
    more_digits (suc (suc (suc k))) n (omega arith)
    ∙ ap (λ (l : List ℕ). l ++ (n % 10 ∷ [])) (three_digits k (n / 10) (omega arith) (omega arith))
    ∙ ap (λ (x : ℕ). x ∷ n / 10 / 10 % 10 ∷ n / 10 % 10 ∷ n % 10 ∷ []) e
    ∙ ap (λ (x : ℕ). n / 1000 ∷ x % 10 ∷ n / 10 % 10 ∷ n % 10 ∷ []) f

-- by how many there are
pub digits_one : (n : ℕ) → n < 10 → n % 10 ∷ [] ≡ digits_of n
digits_one n h = let e : n % 10 ≡ n = omega arith in ap (λ (x : ℕ). x ∷ []) e ∙ sym (one_digit 4 n h)

pub digits_two : (n : ℕ) → 10 ≤ n → n < 100 → n / 10 % 10 ∷ n % 10 ∷ [] ≡ digits_of n
digits_two n h g =
    let e : n / 10 % 10 ≡ n / 10 = omega arith in ap (λ (x : ℕ). x ∷ n % 10 ∷ []) e ∙ sym (two_digits 3 n h g)

pub digits_three : (n : ℕ) → 100 ≤ n → n < 1000 → n / 100 % 10 ∷ n / 10 % 10 ∷ n % 10 ∷ [] ≡ digits_of n
digits_three n h g =
    let e : n / 100 % 10 ≡ n / 100 = omega arith in
    ap (λ (x : ℕ). x ∷ n / 10 % 10 ∷ n % 10 ∷ []) e ∙ sym (three_digits 2 n h g)

pub digits_four : (n : ℕ) → 1000 ≤ n → n < 10000 → n / 1000 % 10 ∷ n / 100 % 10 ∷ n / 10 % 10 ∷ n % 10 ∷ [] ≡ digits_of n
digits_four n h g =
    let e : n / 1000 % 10 ≡ n / 1000 = omega arith in
    ap (λ (x : ℕ). x ∷ n / 100 % 10 ∷ n / 10 % 10 ∷ n % 10 ∷ []) e ∙ sym (four_digits 1 n h g)

pub digits_five : (n : ℕ) → 10000 ≤ n → n < 100000 → n / 10000 ∷ n / 1000 % 10 ∷ n / 100 % 10 ∷ n / 10 % 10 ∷ n % 10 ∷ [] ≡ digits_of n
digits_five n h g =
    let e : n / 10000 ≡ n / 10 / 1000 = omega arith in
    let f : n / 1000 ≡ n / 10 / 100 = omega arith in
    let i : n / 100 ≡ n / 10 / 10 = omega arith in
    ap (λ (x : ℕ). x ∷ n / 1000 % 10 ∷ n / 100 % 10 ∷ n / 10 % 10 ∷ n % 10 ∷ []) e
    ∙ ap (λ (x : ℕ). n / 10 / 1000 ∷ x % 10 ∷ n / 100 % 10 ∷ n / 10 % 10 ∷ n % 10 ∷ []) f
    ∙ ap (λ (x : ℕ). n / 10 / 1000 ∷ n / 10 / 100 % 10 ∷ x % 10 ∷ n / 10 % 10 ∷ n % 10 ∷ []) i
    ∙ ap (λ (l : List ℕ). l ++ (n % 10 ∷ [])) (sym (four_digits 0 (n / 10) (omega arith) (omega arith)))
    ∙ sym (more_digits 4 n (omega arith))

-- each is below ten
low_append : (xs : List ℕ) (y c : ℕ) → ((k : ℕ) → get_or xs k 0 < 10) → y < 10 → get_or (xs ++ (y ∷ [])) c 0 < 10
low_append [] y zero h g = g
low_append [] y (suc c) h g = omega arith
low_append (x ∷ xs) y zero h g = h 0
low_append (x ∷ xs) y (suc c) h g = low_append xs y c (λ k. h (suc k)) g

pub digits_low : (k n c : ℕ) → get_or (last_decimal_digits k n) c 0 < 10
unfolding last_decimal_digits
digits_low zero n c = omega arith
digits_low (suc k) n c =
    ⊎_elim
    (λ h. rw (lt-ltb n 10 h) (low_append [] n c (λ i. omega arith) h))
    (λ h. rw (le-ltb n 10 h) (low_append (last_decimal_digits k (n / 10)) (n % 10) c (digits_low k (n / 10)) (omega arith)))
    (below_or_not n 10)

-- there are at most k
pub digits_count : (k n : ℕ) → length (last_decimal_digits k n) ≤ k
unfolding last_decimal_digits
digits_count zero n = omega arith
digits_count (suc k) n =
    ⊎_elim
    (λ h. rw (lt-ltb n 10 h) (omega arith))
    (λ h. rw (le-ltb n 10 h) (simp length-append (omega (arith, digits_count k (n / 10)))))
    (below_or_not n 10)

-- and at least one
pub digits_some : (k n : ℕ) → 1 ≤ length (last_decimal_digits (suc k) n)
digits_some k n =
    ⊎_elim
    (λ h. rw (one_digit k n h) (omega arith))
    (λ h. rw (more_digits k n h) (simp length-append (omega arith)))
    (below_or_not n 10)
