-- A panel line's table of checks, its number and its buffer; and its columns in parts.
use Prim.Native.Nat.{ℕ, zero, suc, ◌+◌, ◌-◌, ◌≤◌, ◌<◌, max}
use mathlib.Core.Path.{◌≡◌, refl, sym, ap, ◌∙◌}
use mathlib.Core.List.{List, [], ◌∷◌, ◌++◌}
use mathlib.Core.Bool.{Bool, true, false, not, ◌&&◌, cond, and_assoc}
use native.Mathlib.Nat.{le_of_suc-le-suc, add-zero, zero-add, suc-add, add_assoc, max-eq_right}
use native.Mathlib.Omega.{arith}
use lib.ListN.{length, get_or, take}
use lib.Dec.{ltb, eqb, lit<}
use borrow.Author.Tests.{eqb-true, eqb-false, eq-eqb, ne_eqb, ltb-true, lt-ltb, not-false}
use Rattle.record.specs.Checks.{Row, row, first_of, AllPass, Numbered}
use Rattle.record.specs.Lists.{tabulate}
use Rattle.record.proofs.Checks.{numbered_append, parts}
use Rattle.record.proofs.Choice.{and_left, and_right}
use Rattle.record.proofs.Lists.{length_tabulate, get_d_tabulate, tabulate_below, tabulate_append}
use Rattle.screen.specs.declared.ScreenValues.{ScreenValues}
use Rattle.reader.specs.Read.{Reading, looked_at, dword_inside, read_rows, colour_at, read_at, reading}
use Rattle.reader.specs.Line.{points_of, leftmost, line_number, line_after, point_rows, line_rows, LineReads}
use Rattle.reader.specs.Along.{Walkable, all_inside, colours_from}
use Rattle.reader.specs.declared.Display.{Display}
use Rattle.reader.proofs.Answer.{numbered, number_is, reading_is, pass, given, last}

-- ---- points from left to right
-- the leftmost number is the first of the points' rows
leftmost_rows : (n : ℕ) (points : ℕ → Reading) (rows : ℕ → List Row) → ((p : ℕ) → Numbered (rows p)) → ((p : ℕ) → (points p).number ≡ first_of (rows p))
    → leftmost n points ≡ first_of (point_rows n rows)
unfolding leftmost point_rows first_of
leftmost_rows zero points rows u e = refl
leftmost_rows (suc n) points rows u e =
    (λ i. cond (eqb (e 0 i) 0) (leftmost_rows n (λ p. points (suc p)) (λ p. rows (suc p)) (λ p. u (suc p)) (λ p. e (suc p)) i) (e 0 i))
    ∙ sym (parts (rows 0) (point_rows n (λ p. rows (suc p))) (u 0))

numbered_points : (n : ℕ) (rows : ℕ → List Row) → ((p : ℕ) → Numbered (rows p)) → Numbered (point_rows n rows)
unfolding point_rows Numbered
numbered_points zero rows u = tt
numbered_points (suc n) rows u = numbered_append (rows 0) _ (u 0) (numbered_points n (λ p. rows (suc p)) (λ p. u (suc p)))

-- a number, or a second one where it is 0: there is none
neither : (x y : ℕ) (t : Bool) → eqb x 0 ≡ t → cond t y x ≡ 0 → (x ≡ 0) × (y ≡ 0)
neither x y true e h = (eqb-true x 0 e, h)
neither x y false e h = absurd (eqb-false x 0 e h)

-- no number: no point is refused
none_refused : (n : ℕ) (points : ℕ → Reading) → leftmost n points ≡ 0 → (p : ℕ) → p < n → (points p).number ≡ 0
unfolding leftmost
none_refused zero points e p h = absurd (omega arith)
none_refused (suc n) points e zero h = (neither (points 0).number _ (eqb (points 0).number 0) refl e).0
none_refused (suc n) points e (suc p) h = none_refused n (λ k. points (suc k)) (neither (points 0).number _ (eqb (points 0).number 0) refl e).1 p (le_of_suc-le-suc h)

-- a first point that is refused is the leftmost
first_refused : (n : ℕ) (points : ℕ → Reading) → 0 < n → 0 < (points 0).number → leftmost n points ≡ (points 0).number
unfolding leftmost
first_refused zero points h g = absurd (omega arith)
first_refused (suc n) points h g = rw (ne_eqb (points 0).number 0 (λ z. omega arith)) refl

-- points that are all accepted have no number
none_leftmost : (n : ℕ) (points : ℕ → Reading) → ((p : ℕ) → p < n → (points p).number ≡ 0) → leftmost n points ≡ 0
unfolding leftmost
none_leftmost zero points f = refl
none_leftmost (suc n) points f = rw (f 0 (omega arith)) (none_leftmost n (λ p. points (suc p)) (λ p h. f (suc p) (omega arith)))

-- ---- the number and the buffer
-- a number where a test fails
unless : (b : Bool) (k : ℕ) → cond b 0 k ≡ cond (not b) k 0
unless true k = refl
unless false k = refl

-- 0 is the number of no row
pub numbered_line : (m : ℕ) (d : Display) (v : ScreenValues) (q n room : ℕ) → Numbered (line_rows m d v q n room)
unfolding line_rows Numbered
numbered_line m d v q n room =
    let rows : ℕ → List Row = λ p. read_rows m d v p q n in
    numbered_append (point_rows (max 1 d.width) rows) (row 17 (not (eqb room d.width)) ∷ []) (numbered_points (max 1 d.width) rows (λ p. numbered m d v p q n)) (lit< tt, tt)

module _ (m : ℕ) (d : Display) (v : ScreenValues) (q : ℕ) (memory : List ℕ) where
  abbrev refused_at : ℕ
  refused_at = leftmost (max 1 d.width) (points_of m d v q memory)

  -- the first of the table
  pub number_line : (room : ℕ) → line_number m d v q memory room ≡ first_of (line_rows m d v q (length memory) room)
  unfolding line_number line_rows first_of
  number_line room =
      let n = max 1 d.width in
      let rows : ℕ → List Row = λ p. read_rows m d v p q (length memory) in
      let numbers : (p : ℕ) → Numbered (rows p) = λ p. numbered m d v p q (length memory) in
      let leftmost_is = leftmost_rows n (points_of m d v q memory) rows numbers (λ p. number_is m d v p q memory) in
      (λ i. cond (eqb (leftmost_is i) 0) (unless (eqb room d.width) 17 i) (leftmost_is i))
      ∙ sym (parts (point_rows n rows) (row 17 (not (eqb room d.width)) ∷ []) (numbered_points n rows numbers))

  -- a refused point decides
  number_refused : (room : ℕ) → 0 < refused_at → line_number m d v q memory room ≡ refused_at
  unfolding line_number
  number_refused room h = rw (ne_eqb refused_at 0 (λ z. omega arith)) refl

  -- else the length
  number_length : (room : ℕ) → refused_at ≡ 0 → line_number m d v q memory room ≡ cond (eqb room d.width) 0 17
  unfolding line_number
  number_length room e = rw e refl

  accepted_points : (room : ℕ) → line_number m d v q memory room ≡ 0 → refused_at ≡ 0
  unfolding line_number
  accepted_points room e = (neither refused_at _ (eqb refused_at 0) refl e).0

module _ (m : ℕ) (d : Display) (v : ScreenValues) (q : ℕ) (memory old : List ℕ) where
  abbrev number_of : ℕ
  number_of = line_number m d v q memory (length old)

  -- refused: the buffer is as it was
  buffer_kept : 0 < number_of → line_after m d v q memory old ≡ old
  unfolding line_after
  buffer_kept h = rw (ne_eqb number_of 0 (λ z. omega arith)) refl

  -- accepted: it holds the points' colours
  buffer_filled : number_of ≡ 0 → line_after m d v q memory old ≡ tabulate d.width (λ p. (points_of m d v q memory p).colour)
  unfolding line_after
  buffer_filled e = rw e refl

  pub line_reads : LineReads m d v q memory old
  line_reads =
      let colours : ℕ → ℕ = λ p. (reading m d v p q memory).colour in
      record {
        number = number_line m d v q memory (length old);
        kept = buffer_kept;
        wide = λ e. ap length (buffer_filled e) ∙ length_tabulate d.width colours;
        accepted = λ e p h. none_refused (max 1 d.width) (points_of m d v q memory) (accepted_points m d v q memory (length old) e) p (omega arith);
        colour = λ e p h. ap (λ (l : List ℕ). get_or l p 0) (buffer_filled e) ∙ get_d_tabulate d.width colours p h;
      }

  -- no point is refused, and the buffer has a colour for each column
  pub line_accepted : 0 < d.width → ((p : ℕ) → p < d.width → (reading m d v p q memory).number ≡ 0) → length old ≡ d.width
      → (line_number m d v q memory (length old) ≡ 0) × (line_after m d v q memory old ≡ tabulate d.width (λ p. (reading m d v p q memory).colour))
  line_accepted w f h =
      let points = points_of m d v q memory in
      let none = ap (λ (n : ℕ). leftmost n points) (max-eq_right w) ∙ none_leftmost d.width points f in
      let accepted : number_of ≡ 0 = rw (eq-eqb (length old) d.width h) at (number_length m d v q memory (length old) none) in
      (accepted, buffer_filled accepted)

  -- both of a refusal
  refused_line : (k : ℕ) → 0 < k → k ≡ number_of → (k ≡ number_of) × (old ≡ line_after m d v q memory old)
  refused_line k h e = (e, sym (buffer_kept (omega arith)))

  -- column 0 is refused
  pub line_refused : (k : ℕ) → 0 < k → k ≡ first_of (read_rows m d v 0 q (length memory))
      → (k ≡ line_number m d v q memory (length old)) × (old ≡ line_after m d v q memory old)
  line_refused k h e =
      let first : k ≡ (reading m d v 0 q memory).number = e ∙ sym (number_is m d v 0 q memory) in
      let leftmost_is = first_refused (max 1 d.width) (points_of m d v q memory) (omega arith) (omega arith) in
      refused_line k h (first ∙ sym leftmost_is ∙ sym (number_refused m d v q memory (length old) (omega arith)))

-- ---- columns in parts
module _ (m : ℕ) (d : Display) (v : ScreenValues) (q : ℕ) where
  abbrev inside_at : ℕ → Bool
  inside_at p = dword_inside m (looked_at d v p q)

  -- all of n columns from column a on
  pub inside_each : (a n : ℕ) → all_inside m d v q a n ≡ true → (j : ℕ) → j < n → dword_inside m (looked_at d v (a + j) q) ≡ true
  unfolding all_inside
  inside_each a zero e j h = absurd (omega arith)
  inside_each a (suc n) e zero h = rw add-zero (and_left (inside_at a) (all_inside m d v q (suc a) n) e)
  inside_each a (suc n) e (suc j) h =
      let next : suc a + j ≡ a + suc j = omega arith in
      ap (λ (p : ℕ). inside_at p) (sym next) ∙ inside_each (suc a) n (and_right (inside_at a) (all_inside m d v q (suc a) n) e) j (le_of_suc-le-suc h)

  pub all_inside_lem : (a n : ℕ) → ((j : ℕ) → j < n → dword_inside m (looked_at d v (a + j) q) ≡ true) → all_inside m d v q a n ≡ true
  unfolding all_inside
  all_inside_lem a zero f = refl
  all_inside_lem a (suc n) f =
      let first = ap (λ (p : ℕ). inside_at p) (sym (add-zero a)) ∙ f 0 (omega arith) in
      rw first (all_inside_lem (suc a) n (λ j h. let next : suc a + j ≡ a + suc j = omega arith in ap (λ (p : ℕ). inside_at p) next ∙ f (suc j) (omega arith)))

  -- of none
  pub inside_none : (a b : ℕ) → b ≤ a → true ≡ all_inside m d v q a (b - a)
  unfolding all_inside
  inside_none a b h = let none : b - a ≡ 0 = omega arith in rw none refl

  -- some, and those behind them
  inside_append : (a n k : ℕ) → all_inside m d v q a (n + k) ≡ (all_inside m d v q a n && all_inside m d v q (a + n) k)
  unfolding all_inside
  inside_append a zero k = simp (zero-add, add-zero)
  inside_append a (suc n) k =
      let next : suc a + n ≡ a + suc n = omega arith in
      rw (suc-add, ← next) (ap (λ (b : Bool). inside_at a && b) (inside_append (suc a) n k) ∙ sym (and_assoc (inside_at a) _ _))

  pub inside_parts : (a b w : ℕ) → a ≤ b → b ≤ w → all_inside m d v q 0 w ≡ (all_inside m d v q 0 a && (all_inside m d v q a (b - a) && all_inside m d v q b (w - b)))
  inside_parts a b w h g =
      let front : a + (w - a) ≡ w = omega arith in
      let back : (b - a) + (w - b) ≡ w - a = omega arith in
      let at : a + (b - a) ≡ b = omega arith in
      ap (all_inside m d v q 0) (sym front)
      ∙ inside_append 0 a (w - a)
      ∙ rw (zero-add, ← back, inside_append a (b - a) (w - b), at) refl

module _ (d : Display) (v : ScreenValues) (q : ℕ) (memory : List ℕ) where
  colours_append : (a n k : ℕ) → colours_from d v q memory a n ++ colours_from d v q memory (a + n) k ≡ colours_from d v q memory a (n + k)
  unfolding colours_from
  colours_append a n k = simp add_assoc (tabulate_append n k (λ j. colour_at d.depth memory (looked_at d v (a + j) q)))

  pub colours_parts : (a b w : ℕ) → a ≤ b → b ≤ w
      → colours_from d v q memory 0 a ++ (colours_from d v q memory a (b - a) ++ colours_from d v q memory b (w - b)) ≡ colours_from d v q memory 0 w
  colours_parts a b w h g =
      let front : a + (w - a) ≡ w = omega arith in
      let back : (b - a) + (w - b) ≡ w - a = omega arith in
      let at : a + (b - a) ≡ b = omega arith in
      rw (rw (at, back) at (colours_append a (b - a) (w - b))) (rw (zero-add, front) at (colours_append 0 a (w - a)))

-- ---- where the first eight checks pass
-- up to 21 they do not ask for the column; 24 asks that it is the panel's
same_eight : (m : ℕ) (d : Display) (v : ScreenValues) (q n p : ℕ) → p < d.width → take 8 (read_rows m d v p q n) ≡ take 8 (read_rows m d v 0 q n)
unfolding read_rows
same_eight m d v q n p h =
    let first : 0 < d.width = omega arith in
    rw (lt-ltb p d.width h, lt-ltb 0 d.width first) refl

-- numbers that say for each point whether its dword is inside
leftmost_inside : (m : ℕ) (d : Display) (v : ScreenValues) (q a n : ℕ) (points : ℕ → Reading)
    → ((j : ℕ) → j < n → (points j).number ≡ cond (dword_inside m (looked_at d v (a + j) q)) 0 25) → leftmost n points ≡ cond (all_inside m d v q a n) 0 25
unfolding leftmost all_inside
leftmost_inside m d v q a zero points f = refl
leftmost_inside m d v q a (suc n) points f =
    let first : (points 0).number ≡ cond (dword_inside m (looked_at d v a q)) 0 25 = rw add-zero at (f 0 (omega arith)) in
    rw (first, leftmost_inside m d v q (suc a) n (λ p. points (suc p)) (λ j h. let next : suc a + j ≡ a + suc j = omega arith in rw next (f (suc j) (omega arith))))
    (either (dword_inside m (looked_at d v a q)) (all_inside m d v q (suc a) n))
  where
    either : (s t : Bool) → ◌≡◌ {A = ℕ} (cond (eqb (cond s 0 25) 0) (cond t 0 25) (cond s 0 25)) (cond (s && t) 0 25)
    either true t = refl
    either false t = refl

module _ (m : ℕ) (d : Display) (v : ScreenValues) (q : ℕ) (memory old : List ℕ) (none-fails : first_of (take 8 (read_rows m d v 0 q (length memory))) ≡ 0) where
  pub walkable : Walkable d v
  walkable = let g = given m d v 0 q (length memory) none-fails in record { depth = g.depth; rotation = g.rotation; fit = g.fit }

  pub sized : length memory ≡ m
  sized = (given m d v 0 q (length memory) none-fails).sized

  -- the panel has a column
  a_column : 0 < d.width
  unfolding read_rows AllPass
  a_column = ltb-true 0 d.width (and_left (ltb 0 d.width) (ltb q d.height) (not-false _ (pass m d v 0 q (length memory) none-fails).1.1.1.1.1.1.1.0))

  -- they pass at each
  eight : (p : ℕ) → p < d.width → first_of (take 8 (read_rows m d v p q (length memory))) ≡ 0
  eight p h = ap first_of (same_eight m d v q (length memory) p h) ∙ none-fails

  -- a point's number: the last check decides
  point_number : (p : ℕ) → p < d.width → first_of (read_rows m d v p q (length memory)) ≡ cond (dword_inside m (looked_at d v p q)) 0 25
  point_number p h =
      let inside = dword_inside m (looked_at d v p q) in
      sym (unless inside 25 ∙ last m d v p q (length memory) (eight p h) (not inside) refl)

  -- so the leftmost number says whether all dwords are inside
  leftmost_is : leftmost (max 1 d.width) (points_of m d v q memory) ≡ cond (all_inside m d v q 0 d.width) 0 25
  leftmost_is =
      ap (λ (n : ℕ). leftmost n (points_of m d v q memory)) (max-eq_right a_column)
      ∙ leftmost_inside m d v q 0 d.width (points_of m d v q memory) (λ j h. rw zero-add (number_is m d v j q memory ∙ point_number j h))

  pub line_outside : all_inside m d v q 0 d.width ≡ false → (25 ≡ line_number m d v q memory (length old)) × (old ≡ line_after m d v q memory old)
  line_outside e =
      let first : leftmost (max 1 d.width) (points_of m d v q memory) ≡ 25 = rw e at leftmost_is in
      refused_line m d v q memory old 25 (lit< tt) (sym (number_refused m d v q memory (length old) (omega arith) ∙ first))

  -- all are inside: the length decides
  module _ (e : all_inside m d v q 0 d.width ≡ true) where
    length_decides : line_number m d v q memory (length old) ≡ cond (eqb (length old) d.width) 0 17
    length_decides = number_length m d v q memory (length old) (rw e at leftmost_is)

    pub line_short : (length old ≡ d.width → ⊥) → (17 ≡ line_number m d v q memory (length old)) × (old ≡ line_after m d v q memory old)
    line_short h = refused_line m d v q memory old 17 (lit< tt) (sym (rw (ne_eqb (length old) d.width h) at length_decides))

    colour_is : (p : ℕ) → p < d.width → colour_at d.depth memory (looked_at d v (0 + p) q) ≡ (reading m d v p q memory).colour
    unfolding read_at
    colour_is p h =
        let inside : dword_inside m (looked_at d v p q) ≡ true = rw zero-add at (inside_each m d v q 0 d.width e p h) in
        rw zero-add (sym (ap (λ (r : Reading). r.colour) (reading_is m d v p q memory (rw inside at (point_number p h)))))

    pub line_filled : length old ≡ d.width → (0 ≡ line_number m d v q memory (length old)) × (colours_from d v q memory 0 d.width ≡ line_after m d v q memory old)
    unfolding colours_from
    line_filled h =
        let none : line_number m d v q memory (length old) ≡ 0 = rw (eq-eqb (length old) d.width h) at length_decides in
        (sym none, tabulate_below d.width _ _ colour_is ∙ sym (buffer_filled m d v q memory old none))
