-- A line in parts: none, and three of them side by side.
use Prim.Native.Nat.{ℕ, ◌+◌, ◌-◌, ◌≤◌}
use mathlib.Core.Path.{◌≡◌, refl, sym, ap, ◌∙◌}
use mathlib.Core.List.{List, [], ◌∷◌, ◌++◌, append-nil}
use mathlib.Core.Bool.{true, ◌&&◌}
use native.Mathlib.Nat.{sub-zero, zero-add}
use native.Mathlib.Omega.{arith}
use lib.ListN.{length, length-append, drop_of_length-le}
use lib.Seq.{sets, length-sets}
use borrow.Rule.Slice.PartMut.{put_mid}
use Rattle.record.proofs.Choice.{and_left, and_right}
use Rattle.record.proofs.Lists.{length_tabulate}
use Rattle.record.proofs.Stores.{sets_append, sets_over, part_put}
use Rattle.screen.specs.declared.ScreenValues.{ScreenValues}
use Rattle.reader.specs.Along.{all_inside, colours_from}
use Rattle.reader.specs.declared.Display.{Display}
use Rattle.reader.proofs.Line.{inside_parts, colours_parts}

-- a line of no columns
pub no_colours : (d : Display) (v : ScreenValues) (q : ℕ) (memory : List ℕ) (a : ℕ) (l : List ℕ) → length l ≡ 0 → l ≡ colours_from d v q memory a (length l)
unfolding colours_from
no_colours d v q memory a [] e = refl
no_colours d v q memory a (x ∷ l) e = absurd (omega arith)

pub length_colours : (d : Display) (v : ScreenValues) (q : ℕ) (memory : List ℕ) (a n : ℕ) → length (colours_from d v q memory a n) ≡ n
unfolding colours_from
length_colours d v q memory a n = length_tabulate n _

-- the columns from a up to b
pub part_stored : (l new colours : List ℕ) (a b : ℕ) → a ≤ b → b ≤ length l → length colours ≡ b - a → new ≡ colours → put_mid a (b - a) l new ≡ sets l a colours
part_stored l new colours a b h g len e = ap (λ (x : List ℕ). put_mid a (b - a) l x) e ∙ part_put l a b colours h g len

pub still_fits : (old new colours : List ℕ) (a n : ℕ) → new ≡ sets old a colours → n ≤ length old → n ≤ length new
still_fits old new colours a n e h = rw (e, length-sets old a colours) h

-- a list over all of another
whole_over : (old new : List ℕ) → length new ≡ length old → sets old 0 new ≡ new
whole_over old new e =
    let all : length old ≤ length new = omega arith in
    sets_over old new (omega arith) ∙ ap (λ (l : List ℕ). new ++ l) (drop_of_length-le old all) ∙ append-nil new

-- three parts that are stored one behind the other
three_stored : (old a b c : List ℕ) (i j : ℕ) → length a ≡ i → i + length b ≡ j → j + length c ≡ length old → sets (sets (sets old 0 a) i b) j c ≡ a ++ (b ++ c)
three_stored old a b c i j la lb lc =
    sym (rw lb at (sets_append (sets old 0 a) i b c))
    ∙ sym (rw (zero-add, la) at (sets_append old 0 a (b ++ c)))
    ∙ whole_over old (a ++ (b ++ c)) (simp length-append (omega arith))

module _ (d : Display) (v : ScreenValues) (q : ℕ) (a b : ℕ) (h : a ≤ b) (g : b ≤ d.width) where
  -- the parts of a line are its columns
  pub line_stored : (memory old l1 l2 l3 : List ℕ) → length old ≡ d.width → l1 ≡ sets old 0 (colours_from d v q memory 0 (a - 0))
      → l2 ≡ sets l1 a (colours_from d v q memory a (b - a)) → l3 ≡ sets l2 b (colours_from d v q memory b (d.width - b)) → l3 ≡ colours_from d v q memory 0 d.width
  line_stored memory old l1 l2 l3 len e1 e2 e3 =
      rw (e3, e2, e1, sub-zero a)
      (three_stored old (colours_from d v q memory 0 a) (colours_from d v q memory a (b - a)) (colours_from d v q memory b (d.width - b)) a b (length_colours d v q memory 0 a)
      (ap (λ (n : ℕ). a + n) (length_colours d v q memory a (b - a)) ∙ omega arith)
      (ap (λ (n : ℕ). b + n) (length_colours d v q memory b (d.width - b)) ∙ omega arith)
      ∙ colours_parts d v q memory a b d.width h g)

  -- each part is inside where the line is
  module _ (m : ℕ) (all : all_inside m d v q 0 d.width ≡ true) where
    cut : (all_inside m d v q 0 a && (all_inside m d v q a (b - a) && all_inside m d v q b (d.width - b))) ≡ true
    cut = sym (inside_parts m d v q a b d.width h g) ∙ all

    pub inside_left : all_inside m d v q 0 (a - 0) ≡ true
    inside_left = rw (sub-zero a) (and_left (all_inside m d v q 0 a) _ cut)

    pub inside_middle : all_inside m d v q a (b - a) ≡ true
    inside_middle = and_left (all_inside m d v q a (b - a)) _ (and_right (all_inside m d v q 0 a) _ cut)

    pub inside_right : all_inside m d v q b (d.width - b) ≡ true
    inside_right = and_right (all_inside m d v q a (b - a)) _ (and_right (all_inside m d v q 0 a) _ cut)
