-- Our factory font (02, f: "digits 0 to 9, 8 bytes each, top row first, highest bit left"), drawn: `#` is 1.
use Rattle.std.specs.Prelude.{ℕ, ◌+◌, ◌*◌, cond, List, [], ◌∷◌, map, eqb}
use Prim.Native.String.{String}
use Rattle.text.specs.Text.{letters}

-- the number of a row's letters behind those of a number, the highest bit first; `#` has code 35
abbrev pub bits_behind : ℕ → List ℕ → ℕ
bits_behind n [] = n
bits_behind n (c ∷ s) = bits_behind (2 * n + cond (eqb c 35) 1 0) s

-- the byte of a row
abbrev pub row_of : String → ℕ
row_of s = bits_behind 0 (letters s)

-- the rows of 0 to 9
abbrev pub drawn_font : List String
drawn_font =
    "........"
    ∷ "..####.."
    ∷ ".##..##."
    ∷ ".##.###."
    ∷ ".###.##."
    ∷ ".##..##."
    ∷ ".##..##."
    ∷ "..####.."
    ∷ "........"
    ∷ "...##..."
    ∷ "..###..."
    ∷ "...##..."
    ∷ "...##..."
    ∷ "...##..."
    ∷ "...##..."
    ∷ ".######."
    ∷ "........"
    ∷ "..####.."
    ∷ ".##..##."
    ∷ ".....##."
    ∷ "...###.."
    ∷ "..##...."
    ∷ ".##....."
    ∷ ".######."
    ∷ "........"
    ∷ "..####.."
    ∷ ".##..##."
    ∷ ".....##."
    ∷ "...###.."
    ∷ ".....##."
    ∷ ".##..##."
    ∷ "..####.."
    ∷ "........"
    ∷ "....###."
    ∷ "...####."
    ∷ "..##.##."
    ∷ ".##..##."
    ∷ ".######."
    ∷ ".....##."
    ∷ ".....##."
    ∷ "........"
    ∷ ".######."
    ∷ ".##....."
    ∷ ".#####.."
    ∷ ".....##."
    ∷ ".....##."
    ∷ ".##..##."
    ∷ "..####.."
    ∷ "........"
    ∷ "..####.."
    ∷ ".##....."
    ∷ ".#####.."
    ∷ ".##..##."
    ∷ ".##..##."
    ∷ ".##..##."
    ∷ "..####.."
    ∷ "........"
    ∷ ".######."
    ∷ ".....##."
    ∷ "....##.."
    ∷ "...##..."
    ∷ "..##...."
    ∷ "..##...."
    ∷ "..##...."
    ∷ "........"
    ∷ "..####.."
    ∷ ".##..##."
    ∷ ".##..##."
    ∷ "..####.."
    ∷ ".##..##."
    ∷ ".##..##."
    ∷ "..####.."
    ∷ "........"
    ∷ "..####.."
    ∷ ".##..##."
    ∷ ".##..##."
    ∷ "..#####."
    ∷ ".....##."
    ∷ ".....##."
    ∷ "..####.."
    ∷ []

abbrev pub factory_font : List ℕ
factory_font = map row_of drawn_font
