-- What a panel point of a screen shows: refused by the screen's checks or outside the panel, or the sheet's colour and where it stands.
use mathlib.Core.Path.{◌≡◌, refl, sym, ap, subst, ◌∙◌}
use mathlib.Core.Bool.{Bool, true, false, not, ◌&&◌}
use mathlib.Core.List.{List, [], ◌∷◌, ◌++◌}
use Prim.Native.Nat.{ℕ, ◌<◌, ◌≤◌}
use native.Mathlib.Omega.{arith}
use lib.Dec.{ltb, lit<}
use lib.ListN.{length}
use borrow.Author.Tests.{eq-eqb, ne_eqb, le-ltb, ltb-true}
use Rattle.record.specs.Lists.{AllBelow}
use Rattle.record.specs.Checks.{row, first_of, AllPass}
use Rattle.record.proofs.Checks.{none, first_part, second_part, row_fails, row_passes, rows_end}
use Rattle.record.proofs.Choice.{and_left, and_right}
use Rattle.screen.specs.Screen.{memory_size, fields_of, field_rows, screen_rows, screen_of, main_image}
use Rattle.screen.specs.Values.{values_of}
use Rattle.screen.specs.declared.Screen.{Screen}
use Rattle.screen.proofs.Read.{screen_numbered, field_numbered, number_is, read_accepted}
use Rattle.screen.proofs.Fits.{values_pass}
use Rattle.screen.specs.declared.ScreenValues.{ScreenValues}
use Rattle.std.specs.Prelude.{Result, Ok, Err}
use Rattle.refusal.specs.Number as refusals
use Rattle.refusal.specs.Number.{number_of, number_by}
use Rattle.refusal.specs.declared.Refusal.{Refusal}
use Rattle.refusal.specs.declared.Refusal.TheVariants.{MemoryLength}
use Rattle.refusal.proofs.Numbers.{number_positive}
use Rattle.reader.specs.Read.{read_rows, refused_point, reading, reading_of, answer_of, display_of}
use Rattle.reader.specs.declared.Point.{Point}
use Rattle.reader.proofs.Answer.{refused_answer, refused_by_lem}
use Rattle.reader.specs.declared.Display.{Display}
use Rattle.unit.specs.Draw.{show_rows, showing}
use Rattle.unit.proofs.Points.{reads_sheet}

module _ (bytes : List ℕ) (p q : ℕ) (memory : List ℕ) where
  abbrev s : Screen
  s = fields_of bytes

  -- refused by a number
  by_number : (n : ℕ) → 0 < n → n ≡ first_of (show_rows memory_size bytes p q memory) → refused_point n ≡ showing memory_size bytes p q memory
  unfolding showing
  by_number n h e = rw (← e) (rw (ne_eqb n 0 (λ z. omega arith)) refl)

  -- the answer that a point shows, and its numbers
  abbrev pub Shown : Result Point Refusal → Type 0
  Shown a = (reading_of a ≡ showing memory_size bytes p q memory) × (a ≡ answer_of (showing memory_size bytes p q memory))

  pub show_size : (length memory ≡ memory_size → ⊥) → Shown (Err MemoryLength)
  unfolding show_rows refusals.number
  show_size n = refused_answer MemoryLength _ (by_number 18 (lit< tt) (row_fails _ (ap not (ne_eqb (length memory) memory_size n))))

  module _ (len : length memory ≡ memory_size) where
    sized : (x : ℕ) → x ≡ first_of (screen_rows memory_size bytes ++ (row 24 (not (ltb p s.width && ltb q s.height)) ∷ [])) → x ≡ first_of (show_rows memory_size bytes p q memory)
    unfolding show_rows
    sized x e = row_passes 18 _ (ap not (eq-eqb (length memory) memory_size len)) e

    -- the screen is refused
    pub show_refused : (n : ℕ) → 0 < n → n ≡ first_of (screen_rows memory_size bytes) → refused_point n ≡ showing memory_size bytes p q memory
    show_refused n h e =
        by_number n h (sized n (e ∙ sym (first_part (screen_rows memory_size bytes) _ (omega (arith, h, e)))))

    module _ (ok : first_of (screen_rows memory_size bytes) ≡ 0) (fields : first_of (field_rows memory_size s) ≡ 0) (flag : s.flag ≤ 1) where
      passes : (x : ℕ) → x ≡ first_of (row 24 (not (ltb p s.width && ltb q s.height)) ∷ []) → x ≡ first_of (show_rows memory_size bytes p q memory)
      passes x e = sized x (e ∙ sym (second_part (screen_rows memory_size bytes) _ (none (screen_rows memory_size bytes) (screen_numbered memory_size bytes) ok)))

      -- the reader's checks up to the panel's pass
      reader_24 : (ltb p s.width && ltb q s.height) ≡ false → 24 ≡ first_of (read_rows memory_size (display_of s) (values_of s) p q (length memory))
      unfolding read_rows display_of field_rows main_image AllPass
      reader_24 out =
          let t = none (field_rows memory_size s) (field_numbered memory_size s) fields in
          row_passes 18 _ (ap not (eq-eqb (length memory) memory_size len))
          (row_passes 1 _ (le-ltb 1 s.flag flag)
          (row_passes 2 _ t.0
          (row_passes 3 _ t.1.0
          (row_passes 4 _ t.1.1.0
          (row_passes 5 _ t.1.1.1.0
          (row_passes 21 _ (ap not (values_pass memory_size s (omega arith) fields flag))
          (row_fails _ (ap not out))))))))

      outside : (ltb p s.width && ltb q s.height) ≡ false → reading memory_size (display_of s) (values_of s) p q memory ≡ showing memory_size bytes p q memory
      outside out =
          sym (refused_by_lem memory_size (display_of s) (values_of s) p q memory 24 (lit< tt) (reader_24 out)) ∙ by_number 24 (lit< tt) (passes 24 (row_fails _ (ap not out)))

      inside : AllBelow 256 memory → (ltb p s.width && ltb q s.height) ≡ true → reading memory_size (display_of s) (values_of s) p q memory ≡ showing memory_size bytes p q memory
      unfolding showing
      inside below on =
          reads_sheet memory_size s fields flag (omega arith) memory len below p q (ltb-true p s.width (and_left (ltb p s.width) _ on)) (ltb-true q s.height (and_right (ltb p s.width) _ on))
          ∙ rw (← passes 0 (row_passes 24 _ (ap not on) rows_end)) refl

      -- the reader, given the screen's own values, gives what the sheet shows
      pub show_reads : AllBelow 256 memory → reading memory_size (display_of s) (values_of s) p q memory ≡ showing memory_size bytes p q memory
      show_reads below = chosen (ltb p s.width && ltb q s.height) refl
        where
          chosen : (t : Bool) → (ltb p s.width && ltb q s.height) ≡ t → reading memory_size (display_of s) (values_of s) p q memory ≡ showing memory_size bytes p q memory
          chosen true e = inside below e
          chosen false e = outside e

module _ (bytes : List ℕ) (p q : ℕ) (memory : List ℕ) (len : length memory ≡ memory_size) where
  pub screen_refused : (r : Refusal) → screen_of memory_size bytes ≡ Err r → Shown bytes p q memory (Err r)
  unfolding number_by
  screen_refused r e =
      let f : refusals.number r ≡ first_of (screen_rows memory_size bytes) = ap number_of (sym e) ∙ number_is memory_size bytes in
      refused_answer r _ (show_refused bytes p q memory len (refusals.number r) (number_positive r) f)

  same_reading : (s : Screen) → screen_of memory_size bytes ≡ Ok s → AllBelow 256 memory → (d : Display) → d ≡ display_of s → (v : ScreenValues) → v ≡ values_of s
      → reading memory_size d v p q memory ≡ showing memory_size bytes p q memory
  same_reading s e below d ed v ev =
      let a = read_accepted memory_size bytes s e in
      (λ t. reading memory_size ((ed ∙ ap display_of a.0) t) ((ev ∙ ap values_of a.0) t) p q memory)
      ∙ show_reads bytes p q memory len a.1 (subst (λ (x : Screen). first_of (field_rows memory_size x) ≡ 0) a.0 a.2) (subst (λ (x : Screen). x.flag ≤ 1) a.0 a.3) below

  pub screen_accepted : (s : Screen) → screen_of memory_size bytes ≡ Ok s → AllBelow 256 memory → (d : Display) → d ≡ display_of s → (v : ScreenValues) → v ≡ values_of s
      → (a : Result Point Refusal) → reading_of a ≡ reading memory_size d v p q memory → a ≡ answer_of (reading memory_size d v p q memory) → Shown bytes p q memory a
  screen_accepted s e below d ed v ev a f g = let h = same_reading s e below d ed v ev in (f ∙ h, g ∙ ap answer_of h)
