-- The display registers of the older S1D13706: eighteen bytes, and the six values that they make (02, d; 001 sections 7.1 and 8.2).
use Rattle.std.specs.Prelude.{ℕ, ◌/◌, ◌%◌, List, [], ◌∷◌, ◌++◌}
use Rattle.record.specs.Bytes.{u16_at, u24_at, two_bytes, three_bytes}
use Rattle.screen.specs.Values.{edges}
use Rattle.screen.specs.declared.ScreenValues.{ScreenValues}

-- bytes of display memory of the S1D13706
abbrev pub older_memory : ℕ
older_memory = 81920

-- main start 74h-76h, main offset 78h-79h; window start 7Ch-7Eh, offset 80h-81h, X start 84h-85h, Y start 88h-89h, X end 8Ch-8Dh, Y end 90h-91h
abbrev pub older_registers : List ℕ
older_registers =
    0x74 ∷ 0x75 ∷ 0x76
    ∷ 0x78 ∷ 0x79
    ∷ 0x7C ∷ 0x7D ∷ 0x7E
    ∷ 0x80 ∷ 0x81
    ∷ 0x84 ∷ 0x85
    ∷ 0x88 ∷ 0x89
    ∷ 0x8C ∷ 0x8D
    ∷ 0x90 ∷ 0x91
    ∷ []

-- a position's start and end
abbrev pub start_in : ℕ → ℕ
start_in v = v % 65536

abbrev pub end_in : ℕ → ℕ
end_in v = v / 65536

-- the bytes of the six values in these registers, each value's lowest first
unfoldable pub older_bytes : ScreenValues → List ℕ
older_bytes v =
    three_bytes v.main.start
    ++ two_bytes v.main.offset
    ++ three_bytes v.window.start
    ++ two_bytes v.window.offset
    ++ two_bytes (start_in v.x)
    ++ two_bytes (start_in v.y)
    ++ two_bytes (end_in v.x)
    ++ two_bytes (end_in v.y)

-- 01's six values, put together from such bytes
unfoldable pub older_values : List ℕ → ScreenValues
older_values b =
    record {
      main = record { start = u24_at b 0; offset = u16_at b 3 };
      window = record { start = u24_at b 5; offset = u16_at b 8 };
      x = edges (u16_at b 10) (u16_at b 14);
      y = edges (u16_at b 12) (u16_at b 16);
    }
