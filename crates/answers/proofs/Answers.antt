-- The structs that the C library gives back, one law for each way out.
use Prim.Native.Nat.{ℕ, ◌^◌, ◌<◌}
use mathlib.Core.Path.{◌≡◌, sym, ap, subst, refl, ◌∙◌}
use mathlib.Core.List.{List, [], ◌∷◌}
use lib.ListN.{length}
use Rattle.screen.specs.declared.Screen.{Screen}
use Rattle.screen.specs.declared.ScreenValues.{ScreenValues}
use Rattle.screen.specs.Narrow.{Narrow}
use Rattle.screen.specs.Values.{six_values}
use Rattle.compiler.specs.Compile.{Compiling, compiling_of, compiling_by}
use Rattle.compiler.specs.Part.{part_from, part_size}
use Rattle.compiler.specs.declared.Compiled.{Compiled}
use Rattle.chip.specs.Play.{playing_by}
use Rattle.std.specs.Prelude.{Result, Ok, Err}
use Rattle.refusal.specs.declared.Refusal.{Refusal}
use Rattle.refusal.specs.declared.Refused.{Refused}
use Rattle.reader.specs.Read.{display_of, reading_by}
use Rattle.reader.specs.Line.{line_number, line_after}
use Rattle.reader.specs.Looking.{looking}
use Rattle.reader.specs.declared.Display.{Display}
use Rattle.reader.specs.declared.Spot.{Spot}
use Rattle.reader.specs.declared.Point.{Point}
use Rattle.unit.specs.Draw.{drawing_by}
use Rattle.unit.specs.declared.Drawn.{Drawn}
use Rattle.serial.specs.Serial.{answer_of}
use Rattle.answers.specs.declared.S1dCompiled.{S1dCompiled}
use Rattle.answers.specs.Answers.{compiled_of, display_with, point_of, drawn_of, values_in}

-- ---- compiling
module _ {E : Type 0} (number_in place_in : E → ℕ) (form : ℕ) (a : Result Compiled E) (list : List ℕ) (from size : ℕ)
    (part : (from ≡ part_from form list (compiling_by number_in place_in a)) × (size ≡ part_size form list (compiling_by number_in place_in a))) where
  -- an answer that is x
  compiled_as : (x : Result Compiled E) → a ≡ x
      → record { number = (compiling_by number_in place_in x).number; place = (compiling_by number_in place_in x).place; length = (compiling_by number_in place_in x).length; depth = (compiling_by number_in place_in x).depth; rotation = (compiling_by number_in place_in x).rotation; flag = (compiling_by number_in place_in x).flag; part_at = from; part_length = size }
      ≡ compiled_of form (compiling_by number_in place_in a) list
  unfolding compiled_of
  compiled_as x e =
      λ t. let c = compiling_by number_in place_in (sym e t) in record { number = c.number; place = c.place; length = c.length; depth = c.depth; rotation = c.rotation; flag = c.flag; part_at = part.0 t; part_length = part.1 t }

  pub compiled_accepted : (c : Compiled) → a ≡ Ok c
      → record { number = 0; place = 0; length = c.length; depth = c.depth; rotation = c.rotation; flag = c.flag; part_at = from; part_length = size } ≡ compiled_of form (compiling_by number_in place_in a) list
  unfolding compiling_by
  compiled_accepted c e = compiled_as (Ok c) e

  pub compiled_refused : (r : E) (n place : ℕ) → a ≡ Err r → n ≡ number_in r → place ≡ place_in r
      → record { number = n; place = place; length = 0; depth = 0; rotation = 0; flag = 0; part_at = from; part_length = size } ≡ compiled_of form (compiling_by number_in place_in a) list
  unfolding compiling_by
  compiled_refused r n place e f g = rw (f, g) (compiled_as (Err r) e)

-- an answer whose numbers are c
pub compiled_with : (form : ℕ) (r : S1dCompiled) (a : Result Compiled Refused) (c : Compiling) (list : List ℕ) → r ≡ compiled_of form (compiling_of a) list → compiling_of a ≡ c → r ≡ compiled_of form c list
compiled_with form r a c list e f = e ∙ ap (λ (x : Compiling). compiled_of form x list) f

-- ---- playing
module _ {E : Type 0} (number_in place_in : E → ℕ) (a : Result ScreenValues E) where
  pub played_narrow : (v : ScreenValues) → a ≡ Ok v → Narrow (playing_by number_in place_in a).values → Narrow v
  unfolding playing_by
  played_narrow v e f = subst (λ (x : Result ScreenValues E). Narrow (playing_by number_in place_in x).values) e f

  pub played_accepted : (v : ScreenValues) (six : List ℕ) → a ≡ Ok v → six ≡ six_values v
      → record { number = 0; place = 0; values = six } ≡ answer_of (playing_by number_in place_in a)
  unfolding answer_of playing_by
  played_accepted v six e h =
      ap (λ (x : List ℕ). record { number = 0; place = 0; values = x }) h ∙ ap (λ (x : Result ScreenValues E). answer_of (playing_by number_in place_in x)) (sym e)

  pub played_refused : (r : E) (n place : ℕ) → a ≡ Err r → n ≡ number_in r → place ≡ place_in r
      → record { number = n; place = place; values = 0 ∷ 0 ∷ 0 ∷ 0 ∷ 0 ∷ 0 ∷ [] } ≡ answer_of (playing_by number_in place_in a)
  unfolding answer_of playing_by
  played_refused r n place e f g = rw (f, g) (ap (λ (x : Result ScreenValues E). answer_of (playing_by number_in place_in x)) (sym e))

-- ---- reading a point
-- a screen's numbers make its display
pub display_with_lem : (s : Screen) → display_with s.depth s.rotation s.flag s.width s.height ≡ display_of s
unfolding display_of
display_with_lem s = refl

module _ {E : Type 0} (number_in : E → ℕ) (a : Result Point E) where
  pub point_accepted : (p : Point) → a ≡ Ok p → record { number = 0; colour = p.colour; address = p.address; bit = p.bit } ≡ point_of (reading_by number_in a)
  unfolding point_of reading_by
  point_accepted p e = ap (λ (x : Result Point E). point_of (reading_by number_in x)) (sym e)

  pub point_refused : (r : E) (n : ℕ) → a ≡ Err r → n ≡ number_in r → record { number = n; colour = 0; address = 0; bit = 0 } ≡ point_of (reading_by number_in a)
  unfolding point_of reading_by
  point_refused r n e f = rw f (ap (λ (x : Result Point E). point_of (reading_by number_in x)) (sym e))

  -- its address, where the answer's numbers have one of 32 bits
  pub point_narrow : (p : Point) → a ≡ Ok p → (reading_by number_in a).address < 2 ^ 32 → p.address < 2 ^ 32
  unfolding reading_by
  point_narrow p e f = subst (λ (x : Result Point E). (reading_by number_in x).address < 2 ^ 32) e f

-- a look by values that are w
pub looking_with : (at : Result Spot Refusal) (m : ℕ) (d : Display) (v w : ScreenValues) (p q n : ℕ) → at ≡ looking m d v p q n → v ≡ w → at ≡ looking m d w p q n
looking_with at m d v w p q n f h = f ∙ ap (λ (x : ScreenValues). looking m d x p q n) h

-- a line by values that are w
pub line_with : (n m : ℕ) (d : Display) (v w : ScreenValues) (q : ℕ) (memory old new : List ℕ)
    → n ≡ line_number m d v q memory (length old) → new ≡ line_after m d v q memory old → v ≡ w
    → (n ≡ line_number m d w q memory (length old)) × (new ≡ line_after m d w q memory old)
line_with n m d v w q memory old new e f h =
    (e ∙ ap (λ (x : ScreenValues). line_number m d x q memory (length old)) h, f ∙ ap (λ (x : ScreenValues). line_after m d x q memory old) h)

-- ---- drawing
module _ {E : Type 0} (number_in place_in : E → ℕ) (a : Result Drawn E) where
  pub drawn_narrow : (d : Drawn) → a ≡ Ok d → Narrow (drawing_by number_in place_in a).values → Narrow d.values
  unfolding drawing_by
  drawn_narrow d e f = subst (λ (x : Result Drawn E). Narrow (drawing_by number_in place_in x).values) e f

  pub drawn_accepted : (d : Drawn) (six : List ℕ) → a ≡ Ok d → six ≡ six_values d.values
      → record { number = 0; place = 0; length = d.length; values = six } ≡ drawn_of (drawing_by number_in place_in a)
  unfolding drawn_of drawing_by
  drawn_accepted d six e h =
      ap (λ (x : List ℕ). record { number = 0; place = 0; length = d.length; values = x }) h ∙ ap (λ (x : Result Drawn E). drawn_of (drawing_by number_in place_in x)) (sym e)

  pub drawn_refused : (r : E) (n place : ℕ) → a ≡ Err r → n ≡ number_in r → place ≡ place_in r
      → record { number = n; place = place; length = 0; values = 0 ∷ 0 ∷ 0 ∷ 0 ∷ 0 ∷ 0 ∷ [] } ≡ drawn_of (drawing_by number_in place_in a)
  unfolding drawn_of drawing_by
  drawn_refused r n place e f g = rw (f, g) (ap (λ (x : Result Drawn E). drawn_of (drawing_by number_in place_in x)) (sym e))

-- ---- six values
pub values_are : (v : ScreenValues) (six : List ℕ) → six ≡ six_values v → record { values = six } ≡ values_in v
unfolding values_in
values_are v six e = ap (λ (x : List ℕ). record { values = x }) e
