-- The point reader (01, "Refusal numbers": it is given depth, rotation, flag, panel size, the six screen register values,
-- a panel point and the memory, and checks 18, 1, 2, 3, 4, 5, 21, 24, 25), which says where it looked (02, e).
use Rattle.std.specs.Prelude.{ℕ, ◌+◌, ◌-◌, ◌/◌, ◌≤◌, max, ◌≡◌, List, [], ◌∷◌, Bool, ◌&&◌, not, cond, length, Result, Ok, Err, leb, ltb, eqb}
use Rattle.record.specs.Checks.{Row, row, first_of}
use Rattle.pixel.specs.Depth.{is_depth}
use Rattle.pixel.specs.Pixel.{pixel_byte, dword_pixel, pixel_bit, stored_pixel}
use Rattle.screen.specs.Screen.{panel_ok, view_width, whole_dwords}
use Rattle.screen.specs.Fields.{values_fit}
use Rattle.screen.specs.declared.Screen.{Screen}
use Rattle.screen.specs.declared.ScreenValues.{ScreenValues}
use Rattle.view.specs.Walk.{place_of}
use Rattle.view.specs.declared.Place.{Place}
use Rattle.reader.specs.declared.Display.{Display}
use Rattle.reader.specs.declared.Point.{Point}
use Rattle.refusal.specs.Number as refusals
use Rattle.refusal.specs.declared.Refusal.{Refusal}

-- what a screen sets the panel to
unfoldable pub display_of : Screen → Display
display_of s = record { depth = s.depth; rotation = s.rotation; flag = s.flag; width = s.width; height = s.height }

-- where the chip looks for point (p, q)
abbrev pub looked_at : Display → ScreenValues → ℕ → ℕ → Place
looked_at d values p q = place_of d.depth d.rotation d.flag values p q

-- the dword of a place is one of a memory of m bytes: 0 to 65,535 where m is 262,144
abbrev pub dword_inside : ℕ → Place → Bool
dword_inside m w = leb w.down w.up && ltb (w.up - w.down) (m / 4)

-- the checks in the reader's order, in a memory of m bytes where n are lent
unfoldable pub read_rows : ℕ → Display → ScreenValues → ℕ → ℕ → ℕ → List Row
read_rows m d values p q n =
    row 18 (not (eqb n m))
    ∷ row 1 (ltb 1 d.flag)
    ∷ row 2 (not (is_depth d.depth))
    ∷ row 3 (ltb 3 d.rotation)
    ∷ row 4 (not (panel_ok d.width d.height))
    ∷ row 5 (not (whole_dwords d.depth (view_width d.rotation d.width d.height)))
    ∷ row 21 (not (values_fit values))
    ∷ row 24 (not (ltb p d.width && ltb q d.height))
    ∷ row 25 (not (dword_inside m (looked_at d values p q)))
    ∷ []

-- the colour of the pixel of a place
abbrev pub colour_at : ℕ → List ℕ → Place → ℕ
colour_at depth memory w = dword_pixel depth memory (w.up - w.down) w.pixel

-- the address of its byte, and the place of its highest bit there
abbrev pub address_at : ℕ → Place → ℕ
address_at depth w = pixel_byte depth (w.up - w.down) w.pixel

abbrev pub bit_at : ℕ → Place → ℕ
bit_at depth w = pixel_bit depth w.pixel

-- what the reader gives back: number and place, the pixel's colour, its byte's address, and the place of its highest bit in that byte
pub record Reading : Type 0 where
  pub number : ℕ
  pub place : ℕ
  pub colour : ℕ
  pub address : ℕ
  pub bit : ℕ

-- accepted: of the pixel of a place
unfoldable pub read_at : ℕ → List ℕ → Place → Reading
read_at depth memory w =
    record { number = 0; place = 0; colour = colour_at depth memory w; address = address_at depth w; bit = bit_at depth w }

-- refused: all other numbers are 0
unfoldable pub refused_point : ℕ → Reading
refused_point n = record { number = n; place = 0; colour = 0; address = 0; bit = 0 }

unfoldable pub reading : ℕ → Display → ScreenValues → ℕ → ℕ → List ℕ → Reading
reading m d values p q memory =
    let n = first_of (read_rows m d values p q (length memory)) in
    cond (eqb n 0) (read_at d.depth memory (looked_at d values p q)) (refused_point n)

-- the numbers of an answer, whose refusals have these numbers
unfoldable pub reading_by : {E : Type 0} → (E → ℕ) → Result Point E → Reading
reading_by number_in (Ok p) = record { number = 0; place = 0; colour = p.colour; address = p.address; bit = p.bit }
reading_by number_in (Err r) = record { number = number_in r; place = 0; colour = 0; address = 0; bit = 0 }

-- 01's numbers of an answer
abbrev pub reading_of : Result Point Refusal → Reading
reading_of a = reading_by refusals.number a

-- the answer with these numbers
unfoldable pub answer_of : Reading → Result Point Refusal
answer_of r = refusals.answered r.number (record { colour = r.colour; address = r.address; bit = r.bit })

-- ---- what is claimed of every reading that is accepted, whatever the register values: its bits of memory, from that bit of that byte on,
-- are the colour, and they lie in the memory
pub record Stands (m depth : ℕ) (memory : List ℕ) (r : Reading) : Type 0 where
  pub stored : r.colour ≡ stored_pixel depth memory r.address r.bit
  pub inside : r.address + max 1 (depth / 8) ≤ m
  pub bit : r.bit ≤ 7

abbrev pub Standing : Type 0
Standing = (m : ℕ) (d : Display) (values : ScreenValues) (p q : ℕ) (memory : List ℕ)
    → (reading m d values p q memory).number ≡ 0 → Stands m d.depth memory (reading m d values p q memory)
