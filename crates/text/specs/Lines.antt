-- What the programs write and read: a stream's records as lines of text, bytes in hexadecimal, and host words from bytes.
use Rattle.std.specs.Prelude.{ℕ, zero, suc, ◌*◌, List, [], ◌∷◌, ◌++◌}
use Rattle.io.specs.Digits.{last_digits}
use Rattle.record.specs.Bytes.{byte_at, u16_at}
use Rattle.record.specs.Record.{record_at}
use Rattle.record.specs.declared.Record.{Record}
use Rattle.text.specs.Text.{letters, decimal}

-- f 0, f 1 and so on, n of them, one behind the other
unfoldable pub joined : (ℕ → List ℕ) → ℕ → List ℕ
joined f zero = []
joined f (suc n) = joined f n ++ f n

-- a record's line: number and value, eight hexadecimal digits each, a space between them and a line end
unfoldable pub record_line : Record → List ℕ
record_line r = last_digits 16 8 r.number ++ letters " " ++ last_digits 16 8 r.value ++ letters "\n"

-- the line of record i of a stream
unfoldable pub stream_line : List ℕ → ℕ → List ℕ
stream_line stream i = record_line (record_at stream i)

-- the line of a panel point (02, e): its pixel's colour, its byte's address, and the place of its highest bit in that byte
unfoldable pub point_line : ℕ → ℕ → ℕ → List ℕ
point_line colour address bit =
    letters "colour " ++ decimal colour ++ letters " address " ++ decimal address ++ letters " bit " ++ decimal bit ++ letters "\n"

-- byte i: two hexadecimal digits and a space
unfoldable pub hex_byte : List ℕ → ℕ → List ℕ
hex_byte bytes i = last_digits 16 2 (byte_at bytes i) ++ letters " "

-- word i of bytes, low byte first
unfoldable pub word_of : List ℕ → ℕ → List ℕ
word_of bytes i = u16_at bytes (2 * i) ∷ []
