-- Fonts (02, f: "8 × 8 glyphs (digits 0 to 9, 8 bytes each, top row first, highest bit left"), and which of two a digit's glyph is lent from.
use Rattle.std.specs.Prelude.{ℕ, zero, suc, ◌+◌, ◌-◌, ◌*◌, ◌/◌, ◌%◌, ◌^◌, Bool, ◌||◌, cond, List, [], ◌∷◌, ◌++◌, length, take, drop, Result, Ok, Err, leb, ltb, eqb}
use Rattle.std.specs.Borrow.{Bor}
use Rattle.record.specs.Bytes.{byte_at}
use Rattle.record.specs.Part.{IsPart}
use Rattle.refusal.specs.Number as refusals
use Rattle.refusal.specs.declared.Refusal.{Refusal}
use Rattle.wear.specs.declared.Glyph.{Glyph}
use Rattle.wear.specs.declared.Glyph.TheVariants.{Site, Factory}

-- 0 or why there is no glyph; whether it is the site font's (1, else 0); where it starts there, and its bytes
pub record Finding : Type 0 where
  pub number : ℕ
  pub site : ℕ
  pub at : ℕ
  pub length : ℕ

-- a factory font has all ten digits
abbrev pub is_factory : ℕ → Bool
is_factory factory = leb 80 factory

-- "the site's where it has that glyph whole, else the factory's"; "A factory font under 80 bytes or a digit above 9 is 27, with an empty part
-- at that font's start". By the fonts' bytes
unfoldable pub finding : ℕ → ℕ → ℕ → Finding
finding site factory digit =
    cond (ltb factory 80 || ltb 9 digit)
    (record { number = 27; site = 0; at = 0; length = 0 })
    (record { number = 0; site = cond (leb (8 * digit + 8) site) 1 0; at = 8 * digit; length = 8 })

-- the font that the glyph is of
module _ {A : Type 0} where
  abbrev pub font_of : A → A → Finding → A
  font_of site factory f = cond (eqb f.site 1) site factory

-- r is the glyph's part of the font it is of: it stands there, and holds those bytes
abbrev pub GlyphPart : Bor (List ℕ) → Bor (List ℕ) → Bor (List ℕ) → Finding → Type 0
GlyphPart site factory r f = IsPart (font_of site factory f) r f.at f.length

-- the bytes of a digit's glyph
unfoldable pub glyph_of : List ℕ → List ℕ → ℕ → List ℕ
glyph_of site factory digit =
    let f = finding (length site) (length factory) digit in take f.length (drop f.at (font_of site factory f))

-- pixel (i, j) of a glyph: bit 7 − i of byte j
unfoldable pub glyph_bit : List ℕ → ℕ → ℕ → ℕ
glyph_bit glyph i j = byte_at glyph j / 2 ^ (7 - i) % 2

-- the numbers of an answer, whose refusals have these numbers
unfoldable pub finding_by : {E : Type 0} → (E → ℕ) → Result Glyph E → Finding
finding_by number_in (Ok (Site at)) = record { number = 0; site = 1; at = at; length = 8 }
finding_by number_in (Ok (Factory at)) = record { number = 0; site = 0; at = at; length = 8 }
finding_by number_in (Err r) = record { number = number_in r; site = 0; at = 0; length = 0 }

-- 01's numbers of an answer
abbrev pub finding_of : Result Glyph Refusal → Finding
finding_of a = finding_by refusals.number a

-- a number's last digits, at most k, without leading zeros; the number 0 is the one digit 0
unfoldable pub last_decimal_digits : ℕ → ℕ → List ℕ
last_decimal_digits zero n = []
last_decimal_digits (suc k) n = cond (ltb n 10) (n ∷ []) (last_decimal_digits k (n / 10) ++ (n % 10 ∷ []))

-- the digits of a 16-bit number, highest first
abbrev pub digits_of : ℕ → List ℕ
digits_of n = last_decimal_digits 5 n
