-- The register values of a command, in the stream's order (01, "Blits"; 02, h).
use Rattle.std.specs.Prelude.{ℕ, ◌+◌, ◌-◌, ◌*◌, ◌/◌, List, [], ◌∷◌, ◌++◌, Bool, false, ◌||◌, cond, ltb, eqb}
use Rattle.screen.specs.declared.Screen.{Screen}
use Rattle.command.specs.Command.{by_operation, surface_of, address_of, destination_of, source_of}
use Rattle.command.specs.declared.Command.{Command}

-- "Move goes in negative direction exactly when its destination address is greater than its source address"; "The chip's transparent move is
-- positive only" (02, h)
unfoldable pub is_negative : Screen → Command → Bool
is_negative s c = by_operation c.operation false (ltb (source_of s c) (destination_of s c)) false false false false

-- "both start addresses are then the lower right pixels'": so many pixels to the right and lines down
unfoldable pub last_column : Screen → Command → ℕ
last_column s c = cond (is_negative s c) (c.width - 1) 0

unfoldable pub last_line : Screen → Command → ℕ
last_line s c = cond (is_negative s c) (c.height - 1) 0

-- 8008h: operation in bits 3-0 (fill Ch, move 2, in negative direction 3, write 0, pattern fill with raster code 6, with key colour 7,
-- transparent move 5), raster code in bits 19-16
unfoldable pub command_value : Screen → Command → ℕ
command_value s c = by_operation c.operation 0xC (cond (is_negative s c) 3 2) 0 6 7 5 + 65536 * c.raster

-- a pattern's address and its first pixel in it (002 sections 9.1 and 9.2.9): pattern address + (8 × pattern y + pattern x) × depth ÷ 8
unfoldable pub pattern_value : Screen → Command → ℕ
pattern_value s c = c.pattern + (8 * c.py + c.px) * s.depth / 8

-- 800Ch: a move's start address, "0 for write", where a pattern begins
unfoldable pub source_value : Screen → Command → ℕ
source_value s c =
    let move = address_of s.depth (surface_of s c) (c.sx + last_column s c) (c.sy + last_line s c) in
    by_operation c.operation 0 move 0 (pattern_value s c) (pattern_value s c) (source_of s c)

-- 8010h
unfoldable pub destination_value : Screen → Command → ℕ
destination_value s c = address_of s.depth (surface_of s c) (c.x + last_column s c) (c.y + last_line s c)

-- 8000h: start in bit 0, colour format in bit 18: 0 is depth 8, 1 depth 16
unfoldable pub control_value : ℕ → ℕ
control_value depth = cond (eqb depth 16) 0x40001 1

-- the registers of a command's nine records
abbrev pub blit_registers : List ℕ
blit_registers = 0x8008 ∷ 0x800C ∷ 0x8010 ∷ 0x8014 ∷ 0x8018 ∷ 0x801C ∷ 0x8020 ∷ 0x8024 ∷ 0x8000 ∷ []

-- "Every operation uses 8008h, 8010h, 8014h, 8018h, 801Ch and 8000h; move and write also 800Ch (0 for write), fill also 8024h" (01);
-- "Commands 3 to 5 use 800Ch, 4 and 5 8020h" (02, h)
abbrev pub used_registers : ℕ → List ℕ
used_registers operation =
    (0x8008 ∷ 0x8010 ∷ 0x8014 ∷ 0x8018 ∷ 0x801C ∷ 0x8000 ∷ [])
    ++ by_operation operation (0x8024 ∷ []) (0x800C ∷ []) (0x800C ∷ []) (0x800C ∷ []) (0x800C ∷ 0x8020 ∷ []) (0x800C ∷ 0x8020 ∷ [])

abbrev is_one_of : ℕ → List ℕ → Bool
is_one_of n [] = false
is_one_of n (x ∷ xs) = eqb n x || is_one_of n xs

-- an operation uses register n
abbrev pub uses : ℕ → ℕ → Bool
uses operation n = is_one_of n (used_registers operation)

-- "unused values 0"
abbrev pub used_value : ℕ → ℕ → ℕ → ℕ
used_value operation n v = cond (uses operation n) v 0

-- the values of the registers in their order: memory offset is the line length in 16-bit words, width and height hold one less, 8020h is the
-- key colour
unfoldable pub blit_values : Screen → Command → List ℕ
blit_values s c =
    used_value c.operation 0x8008 (command_value s c)
    ∷ used_value c.operation 0x800C (source_value s c)
    ∷ used_value c.operation 0x8010 (destination_value s c)
    ∷ used_value c.operation 0x8014 ((surface_of s c).line / 2)
    ∷ used_value c.operation 0x8018 (c.width - 1)
    ∷ used_value c.operation 0x801C (c.height - 1)
    ∷ used_value c.operation 0x8020 c.key
    ∷ used_value c.operation 0x8024 c.colour
    ∷ used_value c.operation 0x8000 (control_value s.depth)
    ∷ []
