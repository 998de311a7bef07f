-- A whole panel line in one call (02, i): "Fill a lent line of 16-bit colours with what panel line q shows, one for each panel column, equal to
-- the point reader's colour at each of them. A line buffer of another length is 17, checked last, and any refusal leaves it untouched. Lines of a
-- refused point get that point's number, the leftmost first."
use Rattle.std.specs.Prelude.{ℕ, zero, suc, ◌<◌, max, ◌≡◌, List, [], ◌∷◌, ◌++◌, not, cond, length, get_or, eqb}
use Rattle.record.specs.Checks.{Row, row, first_of}
use Rattle.record.specs.Lists.{tabulate}
use Rattle.screen.specs.declared.ScreenValues.{ScreenValues}
use Rattle.reader.specs.Read.{Reading, read_rows, reading}
use Rattle.reader.specs.declared.Display.{Display}

-- the points of panel line q, by their columns
abbrev pub points_of : ℕ → Display → ScreenValues → ℕ → List ℕ → ℕ → Reading
points_of m d values q memory p = reading m d values p q memory

-- the number of the leftmost of n points that is refused; 0 where none is
unfoldable pub leftmost : ℕ → (ℕ → Reading) → ℕ
leftmost zero points = 0
leftmost (suc n) points = cond (eqb (points 0).number 0) (leftmost n (λ p. points (suc p))) (points 0).number

-- the number given, in a memory of m bytes, for a line buffer of so many colours. Column 0 is asked of a panel without a column, too
unfoldable pub line_number : ℕ → Display → ScreenValues → ℕ → List ℕ → ℕ → ℕ
line_number m d values q memory room =
    let n = leftmost (max 1 d.width) (points_of m d values q memory) in
    cond (eqb n 0) (cond (eqb room d.width) 0 17) n

-- the buffer afterwards
unfoldable pub line_after : ℕ → Display → ScreenValues → ℕ → List ℕ → List ℕ → List ℕ
line_after m d values q memory old =
    cond (eqb (line_number m d values q memory (length old)) 0)
    (tabulate d.width (λ p. (points_of m d values q memory p).colour))
    old

-- ---- what is claimed of it
-- the rows of n points, the leftmost's first
unfoldable pub point_rows : ℕ → (ℕ → List Row) → List Row
point_rows zero rows = []
point_rows (suc n) rows = rows 0 ++ point_rows n (λ p. rows (suc p))

-- the table: the rows of the line's points, and last 17; in a memory of m bytes where n are lent
unfoldable pub line_rows : ℕ → Display → ScreenValues → ℕ → ℕ → ℕ → List Row
line_rows m d values q n room = point_rows (max 1 d.width) (λ p. read_rows m d values p q n) ++ (row 17 (not (eqb room d.width)) ∷ [])

-- the number is the first of this table; a refusal leaves the buffer as it was; accepted, it has a colour for each column, which is the point
-- reader's there, and the point reader refuses none
pub record LineReads (m : ℕ) (d : Display) (values : ScreenValues) (q : ℕ) (memory old : List ℕ) : Type 0 where
  pub number : line_number m d values q memory (length old) ≡ first_of (line_rows m d values q (length memory) (length old))
  pub kept : 0 < line_number m d values q memory (length old) → line_after m d values q memory old ≡ old
  pub wide : line_number m d values q memory (length old) ≡ 0 → length (line_after m d values q memory old) ≡ d.width
  pub accepted : line_number m d values q memory (length old) ≡ 0 → (p : ℕ) → p < d.width → (reading m d values p q memory).number ≡ 0
  pub colour : line_number m d values q memory (length old) ≡ 0 → (p : ℕ) → p < d.width
      → get_or (line_after m d values q memory old) p 0 ≡ (reading m d values p q memory).colour
