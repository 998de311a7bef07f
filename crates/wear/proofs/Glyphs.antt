-- Fonts, glyphs and digits, computed: against numbers written by hand from 02, f.
use Prim.Native.Nat.{ℕ, ◌+◌}
use mathlib.Core.Path.{◌≡◌, refl}
use mathlib.Core.Bool.{true, false}
use mathlib.Core.List.{List, [], ◌∷◌}
use Rattle.record.specs.Lists.{tabulate}
use Rattle.wear.specs.Font.{Finding, is_factory, finding, font_of, glyph_of, glyph_bit, finding_of, finding_by, last_decimal_digits, digits_of}
use Rattle.std.specs.Prelude.{Ok, Err}
use Rattle.refusal.specs.Number as refusals
use Rattle.refusal.specs.declared.Refusal.TheVariants.{WearRange}
use Rattle.wear.specs.declared.Glyph.TheVariants.{Site, Factory}

-- the number, whether it is the site font's, its start and its bytes
abbrev numbers : Finding → List ℕ
numbers f = f.number ∷ f.site ∷ f.at ∷ f.length ∷ []

-- so many bytes, counted from a first one
abbrev counted : ℕ → ℕ → List ℕ
counted first n = tabulate n (λ k. first + k)

-- a site font and a factory font of so many bytes, and a digit
findings :
    numbers (finding 0 80 0) ∷ numbers (finding 7 80 0) ∷ numbers (finding 8 80 0) ∷ numbers (finding 8 80 1) ∷ numbers (finding 15 80 1)
    ∷ numbers (finding 16 80 1) ∷ numbers (finding 79 80 8) ∷ numbers (finding 79 80 9) ∷ numbers (finding 80 80 9) ∷ numbers (finding 0 80 9)
    ∷ numbers (finding 80 79 0) ∷ numbers (finding 88 80 10) ∷ numbers (finding 0 0 10) ∷ []
    ≡ (0 ∷ 0 ∷ 0 ∷ 8 ∷ []) ∷ (0 ∷ 0 ∷ 0 ∷ 8 ∷ []) ∷ (0 ∷ 1 ∷ 0 ∷ 8 ∷ []) ∷ (0 ∷ 0 ∷ 8 ∷ 8 ∷ []) ∷ (0 ∷ 0 ∷ 8 ∷ 8 ∷ [])
    ∷ (0 ∷ 1 ∷ 8 ∷ 8 ∷ []) ∷ (0 ∷ 1 ∷ 64 ∷ 8 ∷ []) ∷ (0 ∷ 0 ∷ 72 ∷ 8 ∷ []) ∷ (0 ∷ 1 ∷ 72 ∷ 8 ∷ []) ∷ (0 ∷ 0 ∷ 72 ∷ 8 ∷ [])
    ∷ (27 ∷ 0 ∷ 0 ∷ 0 ∷ []) ∷ (27 ∷ 0 ∷ 0 ∷ 0 ∷ []) ∷ (27 ∷ 0 ∷ 0 ∷ 0 ∷ []) ∷ []
unfolding finding
findings = refl

answers :
    numbers (finding_of (Ok (Site 16))) ∷ numbers (finding_of (Ok (Factory 24))) ∷ numbers (finding_of (Err WearRange)) ∷ []
    ≡ (0 ∷ 1 ∷ 16 ∷ 8 ∷ []) ∷ (0 ∷ 0 ∷ 24 ∷ 8 ∷ []) ∷ (27 ∷ 0 ∷ 0 ∷ 0 ∷ []) ∷ []
unfolding finding_by refusals.number
answers = refl

factories : is_factory 0 ∷ is_factory 79 ∷ is_factory 80 ∷ is_factory 2048 ∷ [] ≡ false ∷ false ∷ true ∷ true ∷ []
factories = refl

-- the site font is 1, the factory font 2
fonts : ◌≡◌ {A = List ℕ} (font_of 1 2 (finding 8 80 0) ∷ font_of 1 2 (finding 7 80 0) ∷ font_of 1 2 (finding 80 79 0) ∷ font_of 1 2 (finding 80 80 10) ∷ []) (1 ∷ 2 ∷ 2 ∷ 2 ∷ [])
unfolding finding
fonts = refl

-- bytes 1 to 16 of a site font, 101 to 180 of a factory font
glyphs :
    glyph_of (counted 1 16) (counted 101 80) 0 ∷ glyph_of (counted 1 16) (counted 101 80) 1 ∷ glyph_of (counted 1 16) (counted 101 80) 2
    ∷ glyph_of (counted 1 15) (counted 101 80) 1 ∷ glyph_of [] (counted 101 80) 9 ∷ glyph_of (counted 1 80) (counted 101 79) 0
    ∷ glyph_of (counted 1 88) (counted 101 80) 10 ∷ []
    ≡ (1 ∷ 2 ∷ 3 ∷ 4 ∷ 5 ∷ 6 ∷ 7 ∷ 8 ∷ []) ∷ (9 ∷ 10 ∷ 11 ∷ 12 ∷ 13 ∷ 14 ∷ 15 ∷ 16 ∷ []) ∷ (117 ∷ 118 ∷ 119 ∷ 120 ∷ 121 ∷ 122 ∷ 123 ∷ 124 ∷ [])
    ∷ (109 ∷ 110 ∷ 111 ∷ 112 ∷ 113 ∷ 114 ∷ 115 ∷ 116 ∷ []) ∷ (173 ∷ 174 ∷ 175 ∷ 176 ∷ 177 ∷ 178 ∷ 179 ∷ 180 ∷ []) ∷ [] ∷ [] ∷ []
unfolding glyph_of finding
glyphs = refl

-- a top row with its left pixel and the one before the last, a second row with its right pixel, a last row with its second
abbrev letter : List ℕ
letter = 0x82 ∷ 0x01 ∷ 0 ∷ 0 ∷ 0 ∷ 0 ∷ 0 ∷ 0x40 ∷ []

bits :
    tabulate 8 (λ i. glyph_bit letter i 0) ∷ tabulate 8 (λ i. glyph_bit letter i 1) ∷ tabulate 8 (λ i. glyph_bit letter i 2)
    ∷ tabulate 8 (λ i. glyph_bit letter i 7) ∷ []
    ≡ (1 ∷ 0 ∷ 0 ∷ 0 ∷ 0 ∷ 0 ∷ 1 ∷ 0 ∷ []) ∷ (0 ∷ 0 ∷ 0 ∷ 0 ∷ 0 ∷ 0 ∷ 0 ∷ 1 ∷ []) ∷ (0 ∷ 0 ∷ 0 ∷ 0 ∷ 0 ∷ 0 ∷ 0 ∷ 0 ∷ [])
    ∷ (0 ∷ 1 ∷ 0 ∷ 0 ∷ 0 ∷ 0 ∷ 0 ∷ 0 ∷ []) ∷ []
unfolding glyph_bit
bits = refl

digits :
    digits_of 0 ∷ digits_of 7 ∷ digits_of 10 ∷ digits_of 100 ∷ digits_of 65535 ∷ digits_of 40302 ∷ []
    ≡ (0 ∷ []) ∷ (7 ∷ []) ∷ (1 ∷ 0 ∷ []) ∷ (1 ∷ 0 ∷ 0 ∷ []) ∷ (6 ∷ 5 ∷ 5 ∷ 3 ∷ 5 ∷ []) ∷ (4 ∷ 0 ∷ 3 ∷ 0 ∷ 2 ∷ []) ∷ []
unfolding last_decimal_digits
digits = refl
