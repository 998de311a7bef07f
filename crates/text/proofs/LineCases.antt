-- Lines, bytes, words and numbers, computed.
use Prim.Native.Nat.{ℕ}
use mathlib.Core.Path.{◌≡◌, refl}
use mathlib.Core.List.{List, [], ◌∷◌}
use Rattle.std.specs.Prelude.{Some, None}
use Rattle.record.specs.Record.{record_at}
use Rattle.text.specs.Text.{letters, last_decimal_digits, decimal}
use Rattle.text.specs.Lines.{joined, record_line, stream_line, point_line, hex_byte, word_of}
use Rattle.text.specs.Numbers.{digits_behind, number_of}

-- two records of a fill
stream : List ℕ
stream = 0x10 ∷ 0x80 ∷ 0 ∷ 0 ∷ 0x0A ∷ 0x19 ∷ 0 ∷ 0 ∷ 0x14 ∷ 0x80 ∷ 0 ∷ 0 ∷ 0xA0 ∷ 0 ∷ 0 ∷ 0 ∷ []

lines : joined (stream_line stream) 2 ≡ letters "00008010 0000190a\n00008014 000000a0\n"
unfolding stream joined stream_line record_line record_at
lines = refl

bytes : joined (hex_byte stream) 6 ≡ letters "10 80 00 00 0a 19 "
unfolding stream joined hex_byte
bytes = refl

words : joined (word_of stream) 3 ≡ 0x8010 ∷ 0 ∷ 0x190A ∷ []
unfolding stream joined word_of
words = refl

-- ---- the line of a point
point : point_line 31 1027 3 ≡ letters "colour 31 address 1027 bit 3\n"
unfolding point_line decimal last_decimal_digits
point = refl

-- colour 31, letter by letter
point_letters : point_line 31 0 7 ≡ 99 ∷ 111 ∷ 108 ∷ 111 ∷ 117 ∷ 114 ∷ 32 ∷ 51 ∷ 49 ∷ 32 ∷ 97 ∷ 100 ∷ 100 ∷ 114 ∷ 101 ∷ 115 ∷ 115 ∷ 32 ∷ 48 ∷ 32 ∷ 98 ∷ 105 ∷ 116 ∷ 32 ∷ 55 ∷ 10 ∷ []
unfolding point_line decimal last_decimal_digits
point_letters = refl

-- ---- numbers
taken : (number_of (letters "1023") ≡ Some 1023)
    × (number_of (letters "0") ≡ Some 0)
    × (number_of (letters "007") ≡ Some 7)
    × (number_of (letters "999999999") ≡ Some 999999999)
unfolding number_of digits_behind
taken = (refl, refl, refl, refl)

-- an empty text, ten digits, a letter, a sign, and the letters before 0 and behind 9
not_taken : (number_of (letters "") ≡ None)
    × (number_of (letters "0000000000") ≡ None)
    × (number_of (letters "1x") ≡ None)
    × (number_of (letters "-1") ≡ None)
    × (number_of (letters "/") ≡ None)
    × (number_of (letters "1:") ≡ None)
unfolding number_of digits_behind
not_taken = (refl, refl, refl, refl, refl, refl)
