-- The reader's table of checks, and its answer.
use Prim.Native.Nat.{ℕ, zero, suc, ◌+◌, ◌-◌, ◌/◌, ◌≤◌, ◌<◌, min, max}
use mathlib.Core.Path.{◌≡◌, refl, sym, ap, subst, ◌∙◌}
use mathlib.Core.List.{List, [], ◌∷◌}
use mathlib.Core.Bool.{Bool, true, false, not, cond}
use native.Mathlib.Omega.{arith}
use lib.ListN.{length, take, drop, take-append-drop}
use lib.Dec.{leb, eqb, lit<}
use borrow.Author.Tests.{ne_eqb, eqb-true, eqb-false, ltb-true, ltb-false, not-false}
use Rattle.record.specs.Checks.{Row, first_of, AllPass, Numbered}
use Rattle.record.proofs.Checks.{none, first_part, second_part}
use Rattle.record.proofs.Choice.{and_right}
use Rattle.pixel.specs.Depth.{is_depth, per_dword}
use Rattle.pixel.specs.Pixel.{stored_pixel}
use Rattle.pixel.proofs.Depth.{per_dword_pos}
use Rattle.pixel.proofs.Stands.{stored_pixel_lem, bit_room, byte_room}
use Rattle.screen.specs.Fields.{values_fit}
use Rattle.screen.specs.declared.ScreenValues.{ScreenValues}
use Rattle.view.specs.declared.Place.{Place}
use Rattle.view.proofs.Reaches.{low_place}
use Rattle.reader.specs.Read.{Reading, looked_at, dword_inside, read_rows, address_at, bit_at, read_at, refused_point, reading, reading_of, reading_by, answer_of, Stands, Standing}
use Rattle.reader.specs.Looking.{looking, seen, Seeable}
use Rattle.reader.specs.declared.Display.{Display}
use Rattle.reader.specs.declared.Spot.{Spot}
use Rattle.reader.specs.declared.Point.{Point}
use Rattle.std.specs.Prelude.{Result, Ok, Err}
use Rattle.refusal.specs.Number as refusals
use Rattle.refusal.specs.Number.{number, refusal, number_of}
use Rattle.refusal.specs.declared.Refusal.{Refusal}
use Rattle.refusal.specs.declared.Refusal.TheVariants.{Address}
use Rattle.refusal.proofs.Numbers.{Listed, accepted, refused_with, number_positive, first_listed, number_answered}

-- what a place or a refusal gives: its number and its place; and the numbers of its answer are its own
module _ (n depth : ℕ) (memory : List ℕ) (w : Place) where
  number_chosen : (t : Bool) → eqb n 0 ≡ t → (cond t (read_at depth memory w) (refused_point n)).number ≡ n
  unfolding read_at refused_point
  number_chosen true e = sym (eqb-true n 0 e)
  number_chosen false e = refl

  place_by_lem : (t : Bool) → (cond t (read_at depth memory w) (refused_point n)).place ≡ 0
  unfolding read_at refused_point
  place_by_lem true = refl
  place_by_lem false = refl

  back : (t : Bool) → eqb n 0 ≡ t → (0 < n → number (refusal n) ≡ n) → reading_of (answer_of (cond t (read_at depth memory w) (refused_point n))) ≡ cond t (read_at depth memory w) (refused_point n)
  unfolding read_at refused_point reading_by answer_of refusals.answered
  back true e f = refl
  back false e f = let d = eqb-false n 0 e in rw e (ap (λ (k : ℕ). record { number = k; place = 0; colour = 0; address = 0; bit = 0 }) (f (omega (arith, d))))

-- a refusal whose numbers are a reading's is the reading's answer
pub refused_answer : (r : Refusal) (x : Reading) → refused_point (number r) ≡ x → (reading_of (Err r) ≡ x) × (Err r ≡ answer_of x)
unfolding refused_point reading_by answer_of
refused_answer r x e = (e, rw (← e) (sym (refused_with _ r (number r) refl)))

-- 0 is the number of no row
pub numbered : (m : ℕ) (d : Display) (v : ScreenValues) (p q n : ℕ) → Numbered (read_rows m d v p q n)
unfolding read_rows Numbered
numbered m d v p q n = (lit< tt, (lit< tt, (lit< tt, (lit< tt, (lit< tt, (lit< tt, (lit< tt, (lit< tt, (lit< tt, tt)))))))))

-- every row's number is a refusal's
pub listed : (m : ℕ) (d : Display) (v : ScreenValues) (p q n : ℕ) → Listed (read_rows m d v p q n)
unfolding read_rows Listed number refusal
listed m d v p q n = (refl, (refl, (refl, (refl, (refl, (refl, (refl, (refl, (refl, tt)))))))))

module _ (m : ℕ) (d : Display) (v : ScreenValues) (p q : ℕ) (memory : List ℕ) where
  abbrev first : ℕ
  first = first_of (read_rows m d v p q (length memory))

  -- the numbers of the answer are those of the reading
  answer_back : reading_of (answer_of (reading m d v p q memory)) ≡ reading m d v p q memory
  unfolding reading
  answer_back = back first d.depth memory (looked_at d v p q) (eqb first 0) refl (first_listed _ (listed m d v p q (length memory)))

  -- its number is the first of the table's, and its place is 0
  pub number_is : (reading m d v p q memory).number ≡ first
  unfolding reading
  number_is = number_chosen first d.depth memory (looked_at d v p q) (eqb first 0) refl

  pub place_is : (reading m d v p q memory).place ≡ 0
  unfolding reading
  place_is = place_by_lem first d.depth memory (looked_at d v p q) (eqb first 0)

  -- both of an answer that is the reading's
  pub answered : (a : Result Point Refusal) → a ≡ answer_of (reading m d v p q memory) → (reading_of a ≡ reading m d v p q memory) × (a ≡ answer_of (reading m d v p q memory))
  answered a e = (ap reading_of e ∙ answer_back, e)

  -- refused by the first number
  pub refused_by_lem : (k : ℕ) → 0 < k → k ≡ first → refused_point k ≡ reading m d v p q memory
  unfolding reading
  refused_by_lem k h e = rw (← e) (rw (ne_eqb k 0 (λ z. omega arith)) refl)

  -- accepted: the pixel of the place that the chip looks at
  pub reading_is : first ≡ 0 → reading m d v p q memory ≡ read_at d.depth memory (looked_at d v p q)
  unfolding reading
  reading_is e = rw e refl

-- ---- where the reader looks: the first eight checks are of what it is given; the last one is of the dword that the chip looks at
numbered_take : (i : ℕ) (rows : List Row) → Numbered rows → Numbered (take i rows)
unfolding Numbered
numbered_take zero rows u = tt
numbered_take (suc i) [] u = tt
numbered_take (suc i) (r ∷ rs) u = (u.0, numbered_take i rs u.1)

-- what they say where they pass
pub record Given (m : ℕ) (d : Display) (v : ScreenValues) (n : ℕ) : Type 0 where
  pub sized : n ≡ m
  pub depth : is_depth d.depth ≡ true
  pub rotation : d.rotation < 4
  pub fit : values_fit v ≡ true

module _ (m : ℕ) (d : Display) (v : ScreenValues) (p q n : ℕ) where
  -- refused by the first number
  refuses : (r : Refusal) → number r ≡ first_of (read_rows m d v p q n) → Err r ≡ looking m d v p q n
  unfolding looking
  refuses r e = sym (refused_with _ r _ e)

  -- the number of the look is the table's
  pub look_number_lem : number_of (looking m d v p q n) ≡ first_of (read_rows m d v p q n)
  unfolding looking
  look_number_lem = number_answered _ (read_rows m d v p q n) (listed m d v p q n)

  -- one of the first eight fails: its number is the table's
  eight_refuse : (k : ℕ) → 0 < k → k ≡ first_of (take 8 (read_rows m d v p q n)) → k ≡ first_of (read_rows m d v p q n)
  eight_refuse k h e =
      let rows = read_rows m d v p q n in
      e ∙ sym (first_part (take 8 rows) (drop 8 rows) (omega arith)) ∙ ap first_of (take-append-drop 8 rows)

  -- none of the table fails, so none of the eight
  pub eight_pass : first_of (read_rows m d v p q n) ≡ 0 → first_of (take 8 (read_rows m d v p q n)) ≡ 0
  eight_pass none = by (eqb first 0) refl
    where
      first : ℕ
      first = first_of (take 8 (read_rows m d v p q n))

      by : (t : Bool) → eqb first 0 ≡ t → first ≡ 0
      by true e = eqb-true first 0 e
      by false e =
          let some : 0 < first = omega (arith, eqb-false first 0 e) in
          absurd (omega (arith, eight_refuse first some refl))

  pub given_refused : (r : Refusal) → number r ≡ first_of (take 8 (read_rows m d v p q n)) → Err r ≡ looking m d v p q n
  given_refused r e = refuses r (eight_refuse (number r) (number_positive r) e)

  -- all of them pass
  module _ (none-fails : first_of (take 8 (read_rows m d v p q n)) ≡ 0) where
    pub pass : AllPass (take 8 (read_rows m d v p q n))
    pass = none _ (numbered_take 8 _ (numbered m d v p q n)) none-fails

    pub given : Given m d v n
    unfolding read_rows AllPass
    given =
        let past = pass.1.1 in
        record {
          sized = eqb-true n m (not-false _ pass.0);
          depth = not-false (is_depth d.depth) past.0;
          rotation = omega (arith, ltb-false 3 d.rotation past.1.0);
          fit = not-false (values_fit v) past.1.1.1.1.0;
        }

    -- the last decides
    pub last : (t : Bool) → not (dword_inside m (looked_at d v p q)) ≡ t → cond t 25 0 ≡ first_of (read_rows m d v p q n)
    unfolding read_rows first_of
    last t h = ap (λ (b : Bool). cond b 25 0) (sym h) ∙ sym (second_part (take 8 (read_rows m d v p q n)) (drop 8 (read_rows m d v p q n)) pass)

    -- with the place w that the chip looks at
    module _ (w : Place) (e : w ≡ looked_at d v p q) where
      pub low_pixel : w.pixel < per_dword d.depth
      low_pixel = rw e (low_place d.depth d.rotation d.flag v p q (per_dword_pos d.depth given.depth) given.rotation)

      pub outside : not (dword_inside m w) ≡ true → Err Address ≡ looking m d v p q n
      unfolding number
      outside h = refuses Address (last true (rw e at h))

      pub inside : not (dword_inside m w) ≡ false → (a b : ℕ) → a ≡ address_at d.depth w → b ≡ bit_at d.depth w → Ok (record { address = a; bit = b }) ≡ looking m d v p q n
      unfolding looking
      inside h a b ha hb =
          (λ i. Ok (record { address = ha i; bit = hb i })) ∙ ap (λ (x : Place). Ok (record { address = address_at d.depth x; bit = bit_at d.depth x })) e ∙ sym (accepted _ _ (sym (last false (rw e at h))))

-- ---- an accepted reading says where its bits stand
module _ (m : ℕ) (d : Display) (v : ScreenValues) (p q : ℕ) (memory : List ℕ) (f : first_of (read_rows m d v p q (length memory)) ≡ 0) where
  stands_at_lem : Stands m d.depth memory (read_at d.depth memory (looked_at d v p q))
  unfolding read_rows AllPass read_at
  stands_at_lem =
      let w = looked_at d v p q in
      let past = (none _ (numbered m d v p q (length memory)) f).1.1 in
      let deep = not-false (is_depth d.depth) past.0 in
      let turned : d.rotation < 4 = omega (arith, ltb-false 3 d.rotation past.1.0) in
      let low = low_place d.depth d.rotation d.flag v p q (per_dword_pos d.depth deep) turned in
      let dword = ltb-true (w.up - w.down) (m / 4) (and_right (leb w.down w.up) _ (not-false _ past.1.1.1.1.1.1.0)) in
      record {
        stored = stored_pixel_lem d.depth memory (w.up - w.down) w.pixel;
        inside = omega (arith, byte_room d.depth (w.up - w.down) w.pixel deep low, dword);
        bit = (bit_room d.depth w.pixel deep).0;
      }

pub standing : Standing
standing m d v p q memory e =
    let f = sym (number_is m d v p q memory) ∙ e in
    subst (Stands m d.depth memory) (sym (reading_is m d v p q memory f)) (stands_at_lem m d v p q memory f)

-- ---- what is seen where the reader looks
module _ (m : ℕ) (d : Display) (v : ScreenValues) (p q : ℕ) (memory : List ℕ) where
  -- it is the reading's answer
  seen_by : (k : ℕ) (t : Bool) → eqb k 0 ≡ t
      → seen d.depth memory (refusals.answered k (record { address = address_at d.depth (looked_at d v p q); bit = bit_at d.depth (looked_at d v p q) }))
      ≡ answer_of (cond t (read_at d.depth memory (looked_at d v p q)) (refused_point k))
  unfolding read_at refused_point answer_of seen refusals.answered
  seen_by k true e =
      let w = looked_at d v p q in
      rw e (ap (λ (c : ℕ). Ok (record { colour = c; address = address_at d.depth w; bit = bit_at d.depth w })) (sym (stored_pixel_lem d.depth memory (w.up - w.down) w.pixel)))
  seen_by k false e = rw e refl

  seen_is : seen d.depth memory (looking m d v p q (length memory)) ≡ answer_of (reading m d v p q memory)
  unfolding reading looking
  seen_is = seen_by (first_of (read_rows m d v p q (length memory))) (eqb (first_of (read_rows m d v p q (length memory))) 0) refl

  -- the memory has it
  seeable_by : (k : ℕ) (t : Bool) → eqb k 0 ≡ t → (k ≡ 0 → Stands m d.depth memory (read_at d.depth memory (looked_at d v p q)))
      → (k ≡ 0 → is_depth d.depth ≡ true) → (k ≡ 0 → length memory ≡ m)
      → Seeable d.depth memory (refusals.answered k (record { address = address_at d.depth (looked_at d v p q); bit = bit_at d.depth (looked_at d v p q) }))
  unfolding read_at Seeable refusals.answered
  seeable_by k true e stands deep sized =
      let none = eqb-true k 0 e in
      let room = bit_room d.depth (looked_at d v p q).pixel (deep none) in
      rw e (deep none, omega (arith, (stands none).inside, sized none), room.0, room.1)
  seeable_by k false e stands deep sized = rw e tt

  seeable : Seeable d.depth memory (looking m d v p q (length memory))
  unfolding read_rows AllPass looking
  seeable =
      let past : first_of (read_rows m d v p q (length memory)) ≡ 0 → AllPass (read_rows m d v p q (length memory)) = none _ (numbered m d v p q (length memory)) in
      seeable_by (first_of (read_rows m d v p q (length memory))) (eqb (first_of (read_rows m d v p q (length memory))) 0) refl
      (stands_at_lem m d v p q memory)
      (λ f. not-false (is_depth d.depth) (past f).1.1.0)
      (λ f. eqb-true (length memory) m (not-false _ (past f).0))

  -- the same of a look that is known by an equation
  module _ (at : Result Spot Refusal) (e : at ≡ looking m d v p q (length memory)) where
    pub seeable_looked : Seeable d.depth memory at
    seeable_looked = subst (Seeable d.depth memory) (sym e) seeable

    pub seen_looked : (r : Result Point Refusal) → r ≡ seen d.depth memory at → r ≡ answer_of (reading m d v p q memory)
    seen_looked r f = f ∙ ap (seen d.depth memory) e ∙ seen_is

    pub read_looked : (r : Result Point Refusal) → r ≡ seen d.depth memory at → reading_of r ≡ reading m d v p q memory
    read_looked r f = (answered m d v p q memory r (seen_looked r f)).0

-- by which of the two it is
module _ {E : Type 0} (depth : ℕ) (memory : List ℕ) (at : Result Spot E) where
  pub seeable_at : (s : Spot) → at ≡ Ok s → Seeable depth memory at → (is_depth depth ≡ true) × (s.address + max 1 (depth / 8) ≤ length memory) × (s.bit ≤ 7) × (min depth 8 ≤ s.bit + 1)
  unfolding Seeable
  seeable_at s e f = subst (Seeable depth memory) e f

  pub seen_at : (s : Spot) (c : ℕ) → at ≡ Ok s → c ≡ stored_pixel depth memory s.address s.bit → Ok (record { colour = c; address = s.address; bit = s.bit }) ≡ seen depth memory at
  unfolding seen
  seen_at s c e f = ap (λ (x : ℕ). Ok (record { colour = x; address = s.address; bit = s.bit })) f ∙ ap (seen depth memory) (sym e)

  pub seen_nowhere : (r : E) → at ≡ Err r → Err r ≡ seen depth memory at
  unfolding seen
  seen_nowhere r e = ap (seen depth memory) (sym e)

-- no reading's address, a refusal's 0 among them, lies past the memory's end
within_by : (m n depth : ℕ) (memory : List ℕ) (w : Place) (t : Bool) → eqb n 0 ≡ t → (n ≡ 0 → address_at depth w ≤ m) → (cond t (read_at depth memory w) (refused_point n)).address ≤ m
unfolding read_at refused_point
within_by m n depth memory w true e f = f (eqb-true n 0 e)
within_by m n depth memory w false e f = omega arith

pub address_within : (m : ℕ) (d : Display) (v : ScreenValues) (p q : ℕ) (memory : List ℕ) → (reading m d v p q memory).address ≤ m
unfolding read_at reading
address_within m d v p q memory =
    within_by m (first_of (read_rows m d v p q (length memory))) d.depth memory (looked_at d v p q) (eqb (first_of (read_rows m d v p q (length memory))) 0) refl
    (λ f. omega (arith, (stands_at_lem m d v p q memory f).inside))
