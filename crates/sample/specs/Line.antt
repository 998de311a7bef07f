-- Samples as text: a line each, sequence number and height in decimal with spaces between them.
use Rattle.std.specs.Prelude.{ℕ, Bool, true, false, not, ◌||◌, cond, Option, Some, None, Result, Ok, Err, List, [], ◌∷◌, leb, eqb}
use Rattle.text.specs.Numbers.{number_of}
use Rattle.ring.specs.Samples.{Sample}
use Rattle.sample.specs.declared.Stop.{Stop}
use Rattle.sample.specs.declared.Stop.TheVariants.{Space, Ink, LineEnd}
use Rattle.sample.specs.declared.Sample.{Sample as Given}
use Rattle.sample.specs.declared.NoSample.{NoSample}

-- a space, a tab or a carriage return
abbrev pub is_space : ℕ → Bool
is_space c = eqb c 32 || (eqb c 9 || eqb c 13)

-- a letter that ends a run
unfoldable pub stops : Stop → ℕ → Bool
stops Space c = is_space c
stops Ink c = not (is_space c)
stops LineEnd c = eqb c 10

-- the letters before the first that ends the run, and those from it on
unfoldable pub before : Stop → List ℕ → List ℕ
before e [] = []
before e (c ∷ s) = cond (stops e c) [] (c ∷ before e s)

unfoldable pub behind : Stop → List ℕ → List ℕ
behind e [] = []
behind e (c ∷ s) = cond (stops e c) (c ∷ s) (behind e s)

abbrev pub is_empty : List ℕ → Bool
is_empty [] = true
is_empty (c ∷ s) = false

-- what a line can mean: a sample, nothing, or no sample
abbrev pub Meaning : Type 0
Meaning = Result (Option Given) NoSample

abbrev pub given : ℕ → ℕ → Meaning
given n h = Ok (Some (record { sequence = n; height = h }))

abbrev pub bad : Meaning
bad = Err (record {})

-- two numbers as a sample: the sequence number is one of 16 bits
unfoldable pub sample_with : Option ℕ → Option ℕ → Meaning
sample_with (Some n) (Some h) = cond (leb n 65535) (given n h) bad
sample_with a b = bad

-- what a line means: two words are a sample, spaces alone are nothing
unfoldable pub line_means : List ℕ → Meaning
line_means line =
    let a = behind Ink line in
    let b = behind Ink (behind Space a) in
    let c = behind Ink (behind Space b) in
    cond (is_empty a) (Ok None) (cond (is_empty c) (sample_with (number_of (before Space a)) (number_of (before Space b))) bad)

-- a letter in front of the first line
abbrev pub in_front : ℕ → List (List ℕ) → List (List ℕ)
in_front c [] = (c ∷ []) ∷ []
in_front c (l ∷ ls) = (c ∷ l) ∷ ls

-- the lines of a text; the last has no line end
unfoldable pub lines_of : List ℕ → List (List ℕ)
lines_of [] = [] ∷ []
lines_of (c ∷ s) = cond (eqb c 10) ([] ∷ lines_of s) (in_front c (lines_of s))

-- samples with that of a line in front, if it is one
unfoldable pub with_line : Meaning → List Sample → List Sample
with_line (Ok (Some g)) ss = record { sequence = g.sequence; height = g.height } ∷ ss
with_line (Ok None) ss = ss
with_line (Err e) ss = ss

-- the samples of lines
unfoldable pub samples_of : List (List ℕ) → List Sample
samples_of [] = []
samples_of (l ∷ ls) = with_line (line_means l) (samples_of ls)
