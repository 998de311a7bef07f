-- Some bytes and tables, computed: little-endian numbers, two stream records, and the first of the rows that fail.
use mathlib.Core.Path.{◌≡◌, refl}
use mathlib.Core.Bool.{true, false}
use mathlib.Core.List.{[], ◌∷◌}
use Prim.Native.Nat.{◌+◌, ◌*◌}
use Rattle.record.specs.Bytes.{byte_at, u16_at, u24_at, u32_at, two_bytes, three_bytes, four_bytes, all_zero, over}
use Rattle.record.specs.Lists.{tabulate, parts_from, parts_of}
use Rattle.record.specs.Record.{record_with, record_bytes, stream_bytes, record_at, records_from, records_of}
use Rattle.record.specs.Checks.{row, rows_with, first_of}

pub number_cases : (two_bytes 0x1234 ≡ 0x34 ∷ 0x12 ∷ [])
    × (u16_at (9 ∷ 0x34 ∷ 0x12 ∷ []) 1 ≡ 0x1234)
    × (u24_at (9 ∷ 0x56 ∷ 0x34 ∷ 0x12 ∷ 7 ∷ []) 1 ≡ 0x123456)
    × (three_bytes 0x7123456 ≡ 0x56 ∷ 0x34 ∷ 0x12 ∷ [])
    × (u32_at (9 ∷ 0x78 ∷ 0x56 ∷ 0x34 ∷ 0x12 ∷ []) 1 ≡ 0x12345678)
    × (four_bytes 0x12345678 ≡ 0x78 ∷ 0x56 ∷ 0x34 ∷ 0x12 ∷ [])
    × (byte_at (9 ∷ []) 1 ≡ 0)
number_cases = (refl, refl, refl, refl, refl, refl, refl)

pub byte_cases : (all_zero (0 ∷ 0 ∷ []) ≡ true) × (all_zero (0 ∷ 1 ∷ []) ≡ false) × (over (1 ∷ 2 ∷ []) (7 ∷ 8 ∷ 9 ∷ []) ≡ 1 ∷ 2 ∷ 9 ∷ [])
unfolding all_zero
byte_cases = (refl, refl, refl)

-- the records of main start 0 and a host data word 0201h
pub record_cases : (record_bytes (record_with 0x40 0) ≡ 0x40 ∷ 0 ∷ 0 ∷ 0 ∷ 0 ∷ 0 ∷ 0 ∷ 0 ∷ [])
    × (stream_bytes (record_with 0x40 0 ∷ record_with 0x10000 0x201 ∷ []) ≡ 0x40 ∷ 0 ∷ 0 ∷ 0 ∷ 0 ∷ 0 ∷ 0 ∷ 0 ∷ 0 ∷ 0 ∷ 1 ∷ 0 ∷ 1 ∷ 2 ∷ 0 ∷ 0 ∷ [])
    × (records_of (0x40 ∷ 0 ∷ 0 ∷ 0 ∷ 0 ∷ 0 ∷ 0 ∷ 0 ∷ 0 ∷ 0 ∷ 1 ∷ 0 ∷ 1 ∷ 2 ∷ 0 ∷ 0 ∷ []) ≡ record_with 0x40 0 ∷ record_with 0x10000 0x201 ∷ [])
unfolding record_bytes stream_bytes record_at records_from records_of
record_cases = (refl, refl, refl)

pub first_cases : (first_of (row 1 false ∷ row 2 true ∷ row 3 true ∷ []) ≡ 2)
    × (first_of (row 1 false ∷ row 2 false ∷ []) ≡ 0)
    × (rows_with (1 ∷ 2 ∷ 3 ∷ []) (false ∷ true ∷ []) ≡ row 1 false ∷ row 2 true ∷ [])
unfolding first_of rows_with
first_cases = (refl, refl, refl)

-- five bytes in parts of two: the last one is not whole
pub list_cases : (tabulate 3 (λ k. 2 * k + 1) ≡ 1 ∷ 3 ∷ 5 ∷ [])
    × (parts_of 2 (1 ∷ 2 ∷ 3 ∷ 4 ∷ 5 ∷ []) ≡ (1 ∷ 2 ∷ []) ∷ (3 ∷ 4 ∷ []) ∷ [])
unfolding parts_from parts_of
list_cases = (refl, refl)
