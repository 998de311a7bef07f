-- Laws on a picture's line: what the line reader leaves in the first columns of a buffer of zeros.
use Prim.Native.Nat.{ℕ, zero, suc, ◌+◌, ◌-◌, ◌%◌, ◌<◌, ◌≤◌, min}
use mathlib.Core.Path.{◌≡◌, refl, sym, ap, ◌∙◌}
use mathlib.Core.List.{List, [], ◌∷◌, ◌++◌}
use mathlib.Core.Logic.{⊎_elim}
use native.Mathlib.Omega.{arith}
use lib.ListN.{length, get_or, take, drop, replicate, length-replicate, replicate-append-replicate}
use lib.Seq.{sets, length_front, get_or-drop, take_at}
use lib.Dec.{eqb, leb}
use borrow.Author.Tests.{leb-true, not-false}
use Rattle.record.specs.Checks.{AllPass}
use Rattle.record.proofs.Checks.{none}
use Rattle.record.proofs.Choice.{and_left, and_right, below_or_not}
use Rattle.screen.specs.Screen.{memory_size, panel_ok}
use Rattle.screen.specs.declared.ScreenValues.{ScreenValues}
use Rattle.reader.specs.Read.{read_rows}
use Rattle.reader.specs.Line.{line_number, line_after}
use Rattle.reader.specs.declared.Display.{Display}
use Rattle.reader.proofs.Answer.{numbered, number_is}
use Rattle.reader.proofs.Line.{line_reads}
use Rattle.text.specs.Lines.{joined}
use Rattle.picture.specs.Picture.{pixel_bytes, line_colours, point_bytes}

-- ---- zeros
abbrev blank : ℕ → List ℕ
blank n = replicate n 0

zeros : (n p : ℕ) → get_or (blank n) p 0 ≡ 0
zeros zero p = refl
zeros (suc n) zero = refl
zeros (suc n) (suc p) = zeros n p

fewer_zeros : (k n : ℕ) → k ≤ n → take k (blank n) ≡ blank k
fewer_zeros k n h =
    let all : k + (n - k) ≡ n = omega arith in
    ap (take k) (sym (replicate-append-replicate k (n - k) 0 ∙ ap blank all)) ∙ take_at (blank k) (blank (n - k)) k (length-replicate k 0)

-- a buffer's first columns, and the whole buffer with others there
pub columns_length : (n k w : ℕ) → k ≡ min w n → k ≡ length (take k (blank n))
columns_length n k w e = sym (ap length (fewer_zeros k n (omega arith)) ∙ length-replicate k 0)

pub buffer_length : (n k : ℕ) (new : List ℕ) → length new ≡ length (take k (blank n)) → n ≡ length (new ++ drop k (blank n))
buffer_length n k new e = sym (length_front (blank n) new k e ∙ length-replicate n 0)

-- a list with zeros behind it
zeros_behind : (l b : List ℕ) → ((p : ℕ) → get_or b p 0 ≡ 0) → (p : ℕ) → get_or (l ++ b) p 0 ≡ get_or l p 0
zeros_behind [] b e p = e p
zeros_behind (x ∷ l) b e zero = refl
zeros_behind (x ∷ l) b e (suc p) = zeros_behind l b e p

module _ (d : Display) (v : ScreenValues) (q : ℕ) (memory : List ℕ) where
  -- a panel of more than 1,024 columns is refused
  not_accepted : (old : List ℕ) → 1024 < d.width → line_number memory_size d v q memory (length old) ≡ 0 → ⊥
  unfolding read_rows AllPass panel_ok
  not_accepted old wide e =
      let first = (line_reads memory_size d v q memory old).accepted e 0 (omega arith) in
      let pass = none _ (numbered memory_size d v 0 q (length memory)) (sym (number_is memory_size d v 0 q memory) ∙ first) in
      let panel = not-false (panel_ok d.width d.height) pass.1.1.1.1.0 in
      let narrow = leb-true d.width 1024 (and_left _ _ (and_right (leb 8 d.width) _ (and_right (eqb (d.width % 8) 0) _ panel))) in
      omega arith

  untouched : (old : List ℕ) → 1024 < d.width → line_after memory_size d v q memory old ≡ old
  untouched old wide =
      (line_reads memory_size d v q memory old).kept
      (⊎_elim (λ (h : 0 < line_number memory_size d v q memory (length old)). h) (λ h. absurd (not_accepted old wide (omega arith))) (below_or_not 0 (line_number memory_size d v q memory (length old))))

  -- a buffer of the panel's columns, at most 1,024, holds the line's colours
  columns_read : (k p : ℕ) → k ≡ min d.width 1024 → get_or (line_after memory_size d v q memory (blank k)) p 0 ≡ get_or (line_colours d v q memory) p 0
  unfolding line_colours
  columns_read k p e =
      ⊎_elim
      (λ (wide : 1024 < d.width).
      ap (λ (l : List ℕ). get_or l p 0) (untouched (blank k) wide)
      ∙ zeros k p
      ∙ sym (ap (λ (l : List ℕ). get_or l p 0) (untouched (blank d.width) wide) ∙ zeros d.width p))
      (λ h. let all : k ≡ d.width = omega arith in ap (λ (n : ℕ). get_or (line_after memory_size d v q memory (blank n)) p 0) all)
      (below_or_not 1024 d.width)

  -- so does a longer one with zeros behind them
  module _ (n k : ℕ) (new : List ℕ) (room : n ≡ 1024) (columns : k ≡ min d.width n) (read : new ≡ line_after memory_size d v q memory (take k (blank n))) where
    colour_read : (p : ℕ) → get_or (new ++ drop k (blank n)) p 0 ≡ get_or (line_colours d v q memory) p 0
    colour_read p =
        let first : take k (blank n) ≡ blank k = fewer_zeros k n (omega arith) in
        zeros_behind new (drop k (blank n)) (λ j. get_or-drop k (blank n) j 0 ∙ zeros n (k + j)) p
        ∙ ap (λ (l : List ℕ). get_or l p 0) (read ∙ ap (line_after memory_size d v q memory) first)
        ∙ columns_read k p (omega arith)

    -- and their bytes are the points'
    pub points_stored : (old l : List ℕ) (m : ℕ) → l ≡ sets old 0 (joined (λ p. pixel_bytes d.depth (get_or (new ++ drop k (blank n)) p 0)) m)
        → l ≡ sets old 0 (joined (point_bytes d v q memory) m)
    unfolding point_bytes
    points_stored old l m e = e ∙ (λ i. sets old 0 (joined (λ p. pixel_bytes d.depth (colour_read p i)) m))
