-- What is compared, as the code finds it.
use Prim.Native.Nat.{ℕ, ◌+◌, ◌*◌, ◌%◌}
use mathlib.Core.Path.{◌≡◌, refl, sym, ap, ◌∙◌}
use mathlib.Core.Bool.{Bool, true, false, ◌&&◌}
use mathlib.Core.List.{List, [], ◌∷◌}
use lib.Dec.{ltb, eqb}
use borrow.Author.Tests.{eqb-true, eq-eqb}
use Rattle.std.specs.Prelude.{Result, Ok, Err}
use Rattle.refusal.specs.declared.Refusal.{Refusal}
use Rattle.record.proofs.Choice.{and_left, and_right, and_go}
use Rattle.screen.specs.Screen.{memory_size}
use Rattle.screen.specs.declared.ScreenValues.{ScreenValues}
use Rattle.compiler.specs.Compile.{Compiling, compiling_by}
use Rattle.compiler.specs.declared.Compiled.{Compiled}
use Rattle.reader.specs.Read.{reading, answer_of}
use Rattle.reader.specs.declared.Display.{Display}
use Rattle.reader.specs.declared.Point.{Point}
use Rattle.script.specs.Script.{number_at, number_of}
use Rattle.script.specs.Verdict.{is_record, display_on, is_colour, is_point, same_bytes}

-- ---- a record
pub record_is : (line : List ℕ) (c : Compiling) (stream : List ℕ) (i n v low high size number : ℕ) → i ≡ number_of line 0 → n ≡ number_at stream (8 * i) → v ≡ number_at stream (8 * i + 4) → low ≡ number_of line 2 → high ≡ number_of line 3 → size ≡ c.length → number ≡ number_of line 1 → (ltb (8 * i) size && (eqb n number && eqb v (low + 65536 * high))) ≡ is_record line c stream
unfolding is_record
record_is line c stream i n v low high size number e f g h j k l = rw (f, g, h, j, k, l, e)

-- ---- a panel point
module _ {E : Type 0} (number_in place_in : E → ℕ) (c : Result Compiled E) (desk : List ℕ) (w h : ℕ) (e : w ≡ number_at desk 4) (f : h ≡ number_at desk 6) where
  pub display_accepted : (x : Compiled) → c ≡ Ok x → ◌≡◌ {A = Display} (record { depth = x.depth; rotation = x.rotation; flag = x.flag; width = w % 65536; height = h % 65536 }) (display_on (compiling_by number_in place_in c) desk)
  unfolding display_on compiling_by
  display_accepted x g = rw (g, e, f)

  pub display_refused : (r : E) → c ≡ Err r → ◌≡◌ {A = Display} (record { depth = 0; rotation = 0; flag = 0; width = w % 65536; height = h % 65536 }) (display_on (compiling_by number_in place_in c) desk)
  unfolding display_on compiling_by
  display_refused r g = rw (g, e, f)

module _ (line : List ℕ) (a : Result Point Refusal) where
  pub colour_shown : (p : Point) (n : ℕ) → a ≡ Ok p → n ≡ number_of line 2 → eqb p.colour n ≡ is_colour line a
  unfolding is_colour
  colour_shown p n e f = rw (e, f)

  pub colour_refused : (r : Refusal) → a ≡ Err r → false ≡ is_colour line a
  unfolding is_colour
  colour_refused r e = rw e

module _ {E : Type 0} (line : List ℕ) (c : Compiling) (p : Result ScreenValues E) (desk memory : List ℕ) where
  pub point_played : (v : ScreenValues) (d : Display) (x y : ℕ) (a : Result Point Refusal) (r : Bool) → p ≡ Ok v → d ≡ display_on c desk → x ≡ number_of line 0 → y ≡ number_of line 1 → a ≡ answer_of (reading memory_size d v x y memory) → r ≡ is_colour line a → r ≡ is_point line c p desk memory
  unfolding is_point
  point_played v d x y a r e f g h i j = rw (e, ← f, ← g, ← h, ← i) j

  pub point_refused : (r : E) → p ≡ Err r → false ≡ is_point line c p desk memory
  unfolding is_point
  point_refused r e = rw e

-- ---- the same bytes
same_self : (a : List ℕ) → same_bytes a a ≡ true
unfolding same_bytes
same_self [] = refl
same_self (x ∷ xs) = sym (and_go (eq-eqb x x refl) (sym (same_self xs)))

same_of : (a b : List ℕ) → same_bytes a b ≡ true → a ≡ b
unfolding same_bytes
same_of [] [] h = refl
same_of [] (y ∷ ys) h = cc
same_of (x ∷ xs) [] h = cc
same_of (x ∷ xs) (y ∷ ys) h =
    let e = eqb-true x y (and_left (eqb x y) (same_bytes xs ys) h) in
    let f = same_of xs ys (and_right (eqb x y) (same_bytes xs ys) h) in
    (λ t. e t ∷ f t)

-- the Bool that says whether two lists are equal
module _ (a b : List ℕ) where
  refuted : (s : Bool) → same_bytes a b ≡ s → (a ≡ b → false ≡ true) → false ≡ s
  refuted true e g = g (same_of a b e)
  refuted false e g = refl

  pub same_is : (r : Bool) → (r ≡ true → a ≡ b) → (a ≡ b → r ≡ true) → r ≡ same_bytes a b
  same_is true f g = sym (ap (λ (x : List ℕ). same_bytes a x) (sym (f refl)) ∙ same_self a)
  same_is false f g = refuted (same_bytes a b) refl g
