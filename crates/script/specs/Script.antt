-- What a script is made of: lines, the numbers in a line, and where they are stored.
use Rattle.std.specs.Prelude.{ℕ, suc, ◌+◌, ◌-◌, ◌*◌, ◌/◌, ◌%◌, List, [], ◌∷◌, not, cond, length, drop, replicate, leb, eqb}
use Rattle.std.proofs.lemmas.List.Edits.{sets}
use Rattle.record.specs.Bytes.{u32_at, four_bytes}
use Rattle.script.specs.declared.Scan.{Scan}

-- bytes before the first line end
unfoldable pub line_length : List ℕ → ℕ
line_length [] = 0
line_length (b ∷ bs) = cond (eqb b 10) 0 (suc (line_length bs))

-- where the line that begins at `at` ends
abbrev pub line_end : List ℕ → ℕ → ℕ
line_end text at = at + line_length (drop at text)

-- ---- numbers in bytes
-- the number in four bytes; 0 where they are not all there
unfoldable pub number_at : List ℕ → ℕ → ℕ
number_at s at = cond (leb (at + 4) (length s)) (u32_at s at) 0

-- a number stored in four bytes, if they are all there
unfoldable pub number_put : List ℕ → ℕ → ℕ → List ℕ
number_put s at v = cond (leb (at + 4) (length s)) (sets s at (four_bytes v)) s

-- ---- numbers in a line: from column 8 on, a blank between two, decimal, or hexadecimal with an h behind
-- what a digit counts: its low four bits, and 9 more from A on
abbrev pub digit : ℕ → ℕ
digit b = b % 16 + b / 64 * 9

-- a byte more: a blank is counted; of the bytes behind k blanks an h makes the number the hexadecimal one, and any other is a digit
unfoldable pub scan_byte : ℕ → Scan → ℕ → Scan
scan_byte k s b =
    cond (eqb b 32) (record { value = s.value; hex = s.hex; blanks = s.blanks + 1 })
    (cond (not (eqb s.blanks k)) s
    (cond (eqb b 104) (record { value = s.hex; hex = s.hex; blanks = s.blanks })
    (record {
      value = (s.value * 10 + digit b) % 4294967296;
      hex = (s.hex * 16 + digit b) % 4294967296;
      blanks = s.blanks;
    })))

-- bytes in order
unfoldable pub scan_bytes : ℕ → Scan → List ℕ → Scan
scan_bytes k s [] = s
scan_bytes k s (b ∷ bs) = scan_bytes k (scan_byte k s b) bs

-- number k of a line, from 0 on; 0 where it has none
unfoldable pub number_of : List ℕ → ℕ → ℕ
number_of line k = (scan_bytes k (record { value = 0; hex = 0; blanks = 0 }) (drop 8 line)).value

-- ---- what a line stores
-- its numbers from number k on, at these places
unfoldable pub fields_put : List ℕ → ℕ → List ℕ → List ℕ → List ℕ
fields_put line k [] s = s
fields_put line k (p ∷ ps) s = fields_put line (suc k) ps (number_put s p (number_of line k))

-- its second number, at the address that is its first
abbrev pub stored : List ℕ → List ℕ → List ℕ
stored line s = number_put s (number_of line 0) (number_of line 1)

-- its third number, in each word from the first to the second, as far as there are words
unfoldable pub words_put : List ℕ → List ℕ → List ℕ
words_put line words = sets words (number_of line 0) (replicate (suc (number_of line 1) - number_of line 0) (number_of line 2 % 65536))
