-- The registers that the model takes, and their fields (01, "Blits", Model; numbers and bit places of 002 sections 7.4, 8.1 and 9.1).
use Rattle.std.specs.Prelude.{ℕ, ◌/◌, ◌%◌, List, [], ◌∷◌, Bool, false, ◌&&◌, ◌||◌, cond, leb, eqb}
use Rattle.screen.specs.Fields.{up_to, edges_fit}
use Rattle.screen.specs.declared.ScreenValues.{ScreenValues}
use Rattle.chip.specs.declared.Registers.{Registers}

-- a register: its number, and whether a value lies in its field
pub record Register : Type 0 where
  pub number : ℕ
  pub field : ℕ → Bool

abbrev register : ℕ → (ℕ → Bool) → Register
register n f = record { number = n; field = f }

-- 8000h: start in bit 0, colour format in bit 18
abbrev pub control_fits : ℕ → Bool
control_fits v = leb (v % 65536) 1 && (eqb (v / 65536) 0 || eqb (v / 65536) 4)

-- 8008h: operation in bits 3-0, raster code in bits 19-16
abbrev pub command_fits : ℕ → Bool
command_fits v = leb (v % 65536) 15 && leb (v / 65536) 15

-- the fifteen registers, and 10000h for host data
abbrev pub registers : List Register
registers =
    register 0x40 (up_to 0xFFFF)
    ∷ register 0x44 (up_to 0x3FF)
    ∷ register 0x50 (up_to 0xFFFF)
    ∷ register 0x54 (up_to 0x3FF)
    ∷ register 0x58 edges_fit
    ∷ register 0x5C edges_fit
    ∷ register 0x8000 control_fits
    ∷ register 0x8008 command_fits
    ∷ register 0x800C (up_to 0x3FFFF)
    ∷ register 0x8010 (up_to 0x3FFFF)
    ∷ register 0x8014 (up_to 0x7FF)
    ∷ register 0x8018 (up_to 0x3FF)
    ∷ register 0x801C (up_to 0x3FF)
    ∷ register 0x8020 (up_to 0xFFFF)
    ∷ register 0x8024 (up_to 0xFFFF)
    ∷ register 0x10000 (up_to 0xFFFF)
    ∷ []

abbrev listed_in : List Register → ℕ → Bool
listed_in [] n = false
listed_in (r ∷ rs) n = eqb n r.number || listed_in rs n

abbrev field_in : List Register → ℕ → ℕ → Bool
field_in [] n v = false
field_in (r ∷ rs) n v = cond (eqb n r.number) (r.field v) (field_in rs n v)

-- n is a listed register or 10000h
unfoldable pub listed : ℕ → Bool
listed n = listed_in registers n

-- the value lies in the field of register n
unfoldable pub fits : ℕ → ℕ → Bool
fits n v = field_in registers n v

-- the screen registers once v is written to number n
unfoldable pub screen_after : ScreenValues → ℕ → ℕ → ScreenValues
screen_after s n v =
    record {
      main = record { start = cond (eqb n 0x40) v s.main.start; offset = cond (eqb n 0x44) v s.main.offset };
      window = record { start = cond (eqb n 0x50) v s.window.start; offset = cond (eqb n 0x54) v s.window.offset };
      x = cond (eqb n 0x58) v s.x;
      y = cond (eqb n 0x5C) v s.y;
    }

-- the blit registers once v is written to number n
unfoldable pub blit_after : Registers → ℕ → ℕ → Registers
blit_after b n v =
    record {
      control = cond (eqb n 0x8000) v b.control;
      command = cond (eqb n 0x8008) v b.command;
      source = cond (eqb n 0x800C) v b.source;
      destination = cond (eqb n 0x8010) v b.destination;
      offset = cond (eqb n 0x8014) v b.offset;
      width = cond (eqb n 0x8018) v b.width;
      height = cond (eqb n 0x801C) v b.height;
      background = cond (eqb n 0x8020) v b.background;
      foreground = cond (eqb n 0x8024) v b.foreground;
    }
