-- Lines that are samples, nothing and no samples; and a text's samples in their order.
use mathlib.Core.Path.{◌≡◌, refl}
use mathlib.Core.List.{[], ◌∷◌, map}
use Rattle.text.specs.Text.{letters}
use Rattle.text.specs.Numbers.{number_of, digits_behind}
use Rattle.std.specs.Prelude.{Ok, None}
use Rattle.sample.specs.Line.{stops, before, behind, given, bad, sample_with, line_means, lines_of, with_line, samples_of}

-- two words with spaces, tabs or a carriage return around them
samples : map (λ s. line_means (letters s)) ("12 34" ∷ "  7\t100 \r" ∷ "65535 0" ∷ "0 999999999" ∷ "007 08" ∷ [])
    ≡ (given 12 34 ∷ given 7 100 ∷ given 65535 0 ∷ given 0 999999999 ∷ given 7 8 ∷ [])
unfolding line_means sample_with before behind stops number_of digits_behind
samples = refl

nothing : map (λ s. line_means (letters s)) ("" ∷ "  " ∷ "\t\r" ∷ []) ≡ (Ok None ∷ Ok None ∷ Ok None ∷ [])
unfolding line_means behind stops
nothing = refl

-- one word, three, no number, a sequence number or a height that is too long
none : map (λ s. line_means (letters s)) ("12" ∷ "12 " ∷ "1 2 3" ∷ "12,34" ∷ "-1 5" ∷ "1 x" ∷ "65536 1" ∷ "1 1000000000" ∷ [])
    ≡ (bad ∷ bad ∷ bad ∷ bad ∷ bad ∷ bad ∷ bad ∷ bad ∷ [])
unfolding line_means sample_with before behind stops number_of digits_behind
none = refl

lines : lines_of (letters "1 2\n\n3 4") ≡ letters "1 2" ∷ [] ∷ letters "3 4" ∷ []
unfolding lines_of
lines = refl

last_line_lem : lines_of (letters "1 2\n") ≡ letters "1 2" ∷ [] ∷ []
unfolding lines_of
last_line_lem = refl

in_order : samples_of (lines_of (letters "1 2\r\nno\n3 4")) ≡ record { sequence = 1; height = 2 } ∷ record { sequence = 3; height = 4 } ∷ []
unfolding samples_of lines_of with_line line_means sample_with before behind stops number_of digits_behind
in_order = refl
