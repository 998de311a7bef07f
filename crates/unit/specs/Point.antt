-- What the point reader is to give at a panel point, in terms of the sheet alone (01, "The plain sheet"; 02, e), what is claimed of it, and what a
-- whole panel line is to hold (02, i).
use Rattle.std.specs.Prelude.{ℕ, ◌-◌, ◌/◌, ◌%◌, ◌≡◌, List}
use Rattle.record.specs.Lists.{tabulate}
use Rattle.screen.specs.declared.Screen.{Screen}
use Rattle.view.specs.Shows.{shown_bit}
use Rattle.reader.specs.Read.{Reading, Stands}
use Rattle.unit.specs.Sheet.{sheet_shows, shown_address, shown_place}

-- the colour that the sheet shows, and the byte and bit where that pixel stands
unfoldable pub sheet_point : Screen → List ℕ → ℕ → ℕ → Reading
sheet_point s sheet p q =
    record { number = 0; place = 0; colour = sheet_shows s sheet p q; address = shown_address s p q; bit = shown_place s p q }

-- a reading at panel point (p, q), in a memory of m bytes, tells the truth about memory: address and bit are those of the one image pixel
-- that the rotation names, the bits that stand there are the colour, and they are the sheet's pixel
pub record LooksTruly (m : ℕ) (s : Screen) (memory : List ℕ) (p q : ℕ) (r : Reading) : Type 0 where
  pub accepted : r.number ≡ 0
  pub address : r.address ≡ shown_bit s p q / 8
  pub bit : r.bit ≡ 7 - shown_bit s p q % 8
  pub stands : Stands m s.depth memory r
  pub sheet : r ≡ sheet_point s memory p q

-- the colours that the sheet shows on panel line q, one for each column
unfoldable pub sheet_line : Screen → List ℕ → ℕ → List ℕ
sheet_line s sheet q = tabulate s.width (λ p. sheet_shows s sheet p q)
