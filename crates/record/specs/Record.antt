-- The stream's records (01, "Stored records": 8 bytes, 0-3 register number, or 10000h for a host data word; 4-7 value).
use Rattle.std.specs.Prelude.{ℕ, zero, suc, ◌+◌, ◌*◌, ◌/◌, List, [], ◌∷◌, ◌++◌, length}
use Rattle.record.specs.Bytes.{u32_at, four_bytes}
use Rattle.record.specs.declared.Record.{Record}

-- a record of a number and a value
abbrev pub record_with : ℕ → ℕ → Record
record_with n v = record { number = n; value = v }

-- the eight bytes of a record
unfoldable pub record_bytes : Record → List ℕ
record_bytes r = four_bytes r.number ++ four_bytes r.value

-- the bytes of a stream
unfoldable pub stream_bytes : List Record → List ℕ
stream_bytes [] = []
stream_bytes (r ∷ rs) = record_bytes r ++ stream_bytes rs

-- record i of a stream's bytes
unfoldable pub record_at : List ℕ → ℕ → Record
record_at s i = record { number = u32_at s (8 * i); value = u32_at s (8 * i + 4) }

-- n records from record i on
unfoldable pub records_from : List ℕ → ℕ → ℕ → List Record
records_from s i zero = []
records_from s i (suc n) = record_at s i ∷ records_from s (suc i) n

-- the whole records of a stream's bytes
unfoldable pub records_of : List ℕ → List Record
records_of s = records_from s 0 (length s / 8)
