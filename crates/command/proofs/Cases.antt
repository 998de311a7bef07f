-- Some commands, computed: their fields, nine values, host words and refusals. Among them 01's B1 and B2, a move to a smaller x in a later line, and
-- 002's examples 15 to 17.
use Prim.Native.Nat.{ℕ, ◌/◌, ◌%◌}
use mathlib.Core.Path.{◌≡◌, refl}
use mathlib.Core.List.{List, [], ◌∷◌, ◌++◌, map}
use mathlib.Core.Bool.{true, false}
use lib.ListN.{take, replicate, set}
use Rattle.record.specs.Bytes.{two_bytes, four_bytes, all_zero}
use Rattle.record.specs.Checks.{first_of}
use Rattle.screen.specs.Screen.{memory_size, view_width, view_height, main_image, window_image}
use Rattle.screen.specs.declared.Screen.{Screen}
use Rattle.command.specs.Sharing.{Lines, meet, any_of, share_byte}
use Rattle.command.specs.Command.{command_of, command_bytes, surface_of, address_of, destination_of, source_of, must_be_zero, pattern_fits, formed, inside_image, placed, clashes, line_words, words_taken, command_rows, names_command, refusal, command_answer}
use Rattle.command.specs.Values.{is_negative, last_column, last_line, command_value, pattern_value, source_value, destination_value, control_value, blit_registers, uses, blit_values}
use Rattle.command.specs.declared.Command.{Command}
use Rattle.std.specs.Prelude.{Ok, Err}
use Rattle.refusal.specs.Number as refusals
use Rattle.refusal.specs.declared.Refusal.TheVariants.{FewWords}

-- an upright screen with a window of 8 by 4 at byte 1,024
abbrev screen : ℕ → ℕ → ℕ → Screen
screen depth width height =
    record {
      depth = depth;
      rotation = 0;
      flag = 1;
      width = width;
      height = height;
      base = 0;
      line = 0;
      window = record { base = 1024; x = 0; y = 0; width = 8; height = 4; line = 0 };
    }

abbrev command : ℕ → ℕ → ℕ → ℕ → ℕ → ℕ → ℕ → ℕ → ℕ → ℕ → Command
command operation surface raster x y width height sx sy colour =
    record {
      operation = operation;
      surface = surface;
      raster = raster;
      x = x;
      y = y;
      width = width;
      height = height;
      sx = sx;
      sy = sy;
      colour = colour;
      key = 0;
      px = 0;
      py = 0;
      pattern = 0;
    }

pub values_hold : (blit_values (screen 8 320 240) (command 0 0 0 10 20 100 150 0 0 1) ≡ 0x0C ∷ 0 ∷ 0x190A ∷ 0xA0 ∷ 0x63 ∷ 0x95 ∷ 0 ∷ 1 ∷ 1 ∷ [])
    × (blit_values (screen 8 8 1) (command 1 0 0xC 1 0 7 1 0 0 0) ≡ 0xC0003 ∷ 6 ∷ 7 ∷ 4 ∷ 6 ∷ 0 ∷ 0 ∷ 0 ∷ 1 ∷ [])
    × (blit_values (screen 8 8 4) (command 1 0 6 0 1 4 2 3 0 0) ≡ 0x60003 ∷ 14 ∷ 19 ∷ 4 ∷ 3 ∷ 1 ∷ 0 ∷ 0 ∷ 1 ∷ [])
    × (blit_values (screen 16 8 4) (command 2 1 0xC 2 1 3 2 0 0 0) ≡ 0xC0000 ∷ 0 ∷ 1044 ∷ 8 ∷ 2 ∷ 1 ∷ 0 ∷ 0 ∷ 0x40001 ∷ [])
    × (blit_values (screen 16 8 4) (command 2 1 0xC 2 1 3 2 1 1 9) ≡ 0xC0000 ∷ 0 ∷ 1044 ∷ 8 ∷ 2 ∷ 1 ∷ 0 ∷ 0 ∷ 0x40001 ∷ [])
unfolding view_width view_height main_image window_image surface_of address_of destination_of source_of is_negative last_column last_line command_value pattern_value source_value destination_value control_value blit_values
values_hold = (refl, refl, refl, refl, refl)

-- a command of the long form on the main image: key colour, pattern x, y and address
abbrev long_command_lem : ℕ → ℕ → ℕ → ℕ → ℕ → ℕ → ℕ → ℕ → ℕ → ℕ → ℕ → ℕ → Command
long_command_lem operation raster x y width height sx sy key px py pattern =
    record {
      operation = operation;
      surface = 0;
      raster = raster;
      x = x;
      y = y;
      width = width;
      height = height;
      sx = sx;
      sy = sy;
      colour = 0;
      key = key;
      px = px;
      py = py;
      pattern = pattern;
    }

-- 002's examples 15, 16 and 17, and a pattern at depth 16 from column 1, line 2 on
pub pattern_values : (blit_values (screen 16 320 240) (long_command_lem 5 0 200 20 9 101 100 10 0x1F 0 0 0) ≡ 5 ∷ 0x19C8 ∷ 0x3390 ∷ 0x140 ∷ 8 ∷ 0x64 ∷ 0x1F ∷ 0 ∷ 0x40001 ∷ [])
    × (blit_values (screen 8 320 240) (long_command_lem 3 0xC 10 20 100 150 0 0 0 3 4 0x3C000) ≡ 0xC0006 ∷ 0x3C023 ∷ 0x190A ∷ 0xA0 ∷ 0x63 ∷ 0x95 ∷ 0 ∷ 0 ∷ 1 ∷ [])
    × (blit_values (screen 8 320 240) (long_command_lem 4 0 10 20 100 150 0 0 1 3 4 0x3C000) ≡ 7 ∷ 0x3C023 ∷ 0x190A ∷ 0xA0 ∷ 0x63 ∷ 0x95 ∷ 1 ∷ 0 ∷ 1 ∷ [])
    × (blit_values (screen 16 320 240) (long_command_lem 3 6 0 0 1 1 0 0 0 1 2 0x3C080) ≡ 0x60006 ∷ 0x3C0A2 ∷ 0 ∷ 0x140 ∷ 0 ∷ 0 ∷ 0 ∷ 0 ∷ 0x40001 ∷ [])
unfolding view_width view_height main_image window_image surface_of address_of destination_of source_of is_negative last_column last_line command_value pattern_value source_value destination_value control_value blit_values
pattern_values = (refl, refl, refl, refl)

-- an upright screen of 320 by 240 at depth 8 with lines of 640 pixels, and a window of 8 by 4 at byte 1,024 with lines of 12
abbrev wide : Screen
wide =
    record { depth = 8; rotation = 0; flag = 1; width = 320; height = 240; base = 0; line = 640; window = record { base = 1024; x = 0; y = 0; width = 8; height = 4; line = 12 } }

-- addresses and the memory offset are told by the line length (02, c): B1 on it, 20 × 640 + 10, and a write of 3 by 2 at (2, 1) of the window, 1,024 + 12 + 2
pub wide_values : (blit_values wide (command 0 0 0 10 20 100 150 0 0 1) ≡ 0x0C ∷ 0 ∷ 0x320A ∷ 0x140 ∷ 0x63 ∷ 0x95 ∷ 0 ∷ 1 ∷ 1 ∷ [])
    × (blit_values wide (command 2 1 0xC 2 1 3 2 0 0 0) ≡ 0xC0000 ∷ 0 ∷ 1038 ∷ 6 ∷ 2 ∷ 1 ∷ 0 ∷ 0 ∷ 1 ∷ [])
unfolding view_width view_height main_image window_image surface_of address_of destination_of source_of is_negative last_column last_line command_value pattern_value source_value destination_value control_value blit_values
wide_values = (refl, refl)

-- the nine records of a command, in the stream's order
pub registers_hold : blit_registers ≡ 0x8008 ∷ 0x800C ∷ 0x8010 ∷ 0x8014 ∷ 0x8018 ∷ 0x801C ∷ 0x8020 ∷ 0x8024 ∷ 0x8000 ∷ []
registers_hold = refl

-- which of them a fill, a move, a write, a pattern fill with raster code, one with key colour and a transparent move use
pub used_hold : map (λ (o : ℕ). map (uses o) blit_registers) (0 ∷ 1 ∷ 2 ∷ 3 ∷ 4 ∷ 5 ∷ [])
    ≡ (true ∷ false ∷ true ∷ true ∷ true ∷ true ∷ false ∷ true ∷ true ∷ [])
    ∷ (true ∷ true ∷ true ∷ true ∷ true ∷ true ∷ false ∷ false ∷ true ∷ [])
    ∷ (true ∷ true ∷ true ∷ true ∷ true ∷ true ∷ false ∷ false ∷ true ∷ [])
    ∷ (true ∷ true ∷ true ∷ true ∷ true ∷ true ∷ false ∷ false ∷ true ∷ [])
    ∷ (true ∷ true ∷ true ∷ true ∷ true ∷ true ∷ true ∷ false ∷ true ∷ [])
    ∷ (true ∷ true ∷ true ∷ true ∷ true ∷ true ∷ true ∷ false ∷ true ∷ [])
    ∷ []
used_hold = refl

-- the numbers that name a command
pub names_hold : map names_command (0 ∷ 11 ∷ 12 ∷ 13 ∷ 14 ∷ 15 ∷ 16 ∷ 28 ∷ 29 ∷ 30 ∷ []) ≡ false ∷ false ∷ true ∷ true ∷ true ∷ true ∷ false ∷ false ∷ true ∷ false ∷ []
names_hold = refl

-- a write of 3 by 2 pixels takes two words a line at depth 8, and three at 16; another command takes none
pub words_hold : (words_taken (screen 8 8 4) (command 2 0 0xC 0 0 3 2 0 0 0) ≡ 4)
    × (words_taken (screen 16 8 4) (command 2 0 0xC 0 0 3 2 0 0 0) ≡ 6)
    × (map (λ (o : ℕ). words_taken (screen 8 8 4) (command o 0 0 0 0 3 2 0 0 0)) (0 ∷ 1 ∷ 3 ∷ 4 ∷ 5 ∷ []) ≡ 0 ∷ 0 ∷ 0 ∷ 0 ∷ 0 ∷ [])
unfolding line_words words_taken
words_hold = (refl, refl, refl)

-- a command record on the main image
abbrev bytes : ℕ → ℕ → ℕ → ℕ → ℕ → List ℕ
bytes operation x y width height =
    operation ∷ 0 ∷ 0 ∷ 0 ∷ x ∷ 0 ∷ y ∷ 0 ∷ width ∷ 0 ∷ height ∷ 0 ∷ 0 ∷ 0 ∷ 0 ∷ 0 ∷ 0 ∷ 0
    ∷ 0 ∷ 0 ∷ 0 ∷ 0 ∷ 0 ∷ 0 ∷ 0 ∷ 0 ∷ 0 ∷ 0 ∷ 0 ∷ 0 ∷ 0 ∷ 0 ∷ []

-- refusals on an 8 by 4 screen of depth 8 with three host words left: the lowest number that holds
pub refusals_hold : (refusal memory_size (screen 8 8 4) 3 (bytes 0 0 0 8 4) ≡ 0)
    × (refusal memory_size (screen 8 8 4) 3 (bytes 3 0 0 0 4) ≡ 12)
    × (refusal memory_size (screen 8 8 4) 3 (bytes 0 9 0 0 4) ≡ 13)
    × (refusal memory_size (screen 8 8 4) 3 (bytes 2 1 0 8 4) ≡ 14)
    × (refusal memory_size (screen 8 8 4) 3 (bytes 2 0 0 3 2) ≡ 15)
    × (refusal memory_size (screen 8 8 4) 3 (bytes 2 0 0 6 1) ≡ 0)
unfolding all_zero first_of view_width view_height main_image window_image surface_of address_of destination_of source_of command_of must_be_zero pattern_fits formed inside_image placed any_of share_byte clashes line_words words_taken command_rows refusal
refusals_hold = (refl, refl, refl, refl, refl, refl)

-- the fields of a record whose bytes are their places, short and long
pub fields_hold : command_of (0 ∷ 1 ∷ 2 ∷ 3 ∷ 4 ∷ 5 ∷ 6 ∷ 7 ∷ 8 ∷ 9 ∷ 10 ∷ 11 ∷ 12 ∷ 13 ∷ 14 ∷ 15 ∷ 16 ∷ 17 ∷ [])
    ≡ command 0 1 2 0x0504 0x0706 0x0908 0x0B0A 0x0D0C 0x0F0E 0x1110
unfolding command_of
fields_hold = refl

pub long_fields_hold : command_of (replicate 32 0 ++ (32 ∷ 33 ∷ 34 ∷ 35 ∷ 36 ∷ 37 ∷ 38 ∷ 39 ∷ 40 ∷ 41 ∷ 42 ∷ 43 ∷ 44 ∷ 45 ∷ 46 ∷ 47 ∷ []))
    ≡ record {
      operation = 0;
      surface = 0;
      raster = 0;
      x = 0;
      y = 0;
      width = 0;
      height = 0;
      sx = 0;
      sy = 0;
      colour = 0;
      key = 0x2120;
      px = 0x22;
      py = 0x23;
      pattern = 0x27262524;
    }
unfolding command_of
long_fields_hold = refl

-- and the bytes of these fields
pub bytes_hold : command_bytes (command 0 1 2 0x0504 0x0706 0x0908 0x0B0A 0x0D0C 0x0F0E 0x1110)
    ≡ 0 ∷ 1 ∷ 2 ∷ 0 ∷ 4 ∷ 5 ∷ 6 ∷ 7 ∷ 8 ∷ 9 ∷ 10 ∷ 11 ∷ 12 ∷ 13 ∷ 14 ∷ 15 ∷ 16 ∷ 17 ∷ replicate 14 0
unfolding command_bytes
bytes_hold = refl

-- the number of a record on that screen, with 100 host words left
abbrev number : List ℕ → ℕ
number b = refusal memory_size (screen 8 8 4) 100 b

-- a fill, a move from (1, 1) and a write, of 3 by 2 pixels at (2, 1)
abbrev fill : List ℕ
fill = bytes 0 2 1 3 2

abbrev move : List ℕ
move = set (set (bytes 1 2 1 3 2) 12 1) 14 1

abbrev write : List ℕ
write = bytes 2 2 1 3 2

-- the same in the long form
abbrev long : List ℕ → List ℕ
long b = b ++ replicate 16 0

-- 12: operation 3, surface 2, raster code 16, colour 256 at depth 8, and each byte that must be zero: 3, 18 and 31, a fill's raster code and
-- source, a move's colour, a write's source and colour. What an operation uses may be there.
pub form : map number (
    fill ∷ move ∷ write ∷ set fill 1 1 ∷ set fill 16 255 ∷ set move 2 15 ∷ set write 2 15
    ∷ set fill 0 3 ∷ set fill 1 2 ∷ set move 2 16 ∷ set fill 17 1
    ∷ set fill 3 1 ∷ set fill 18 1 ∷ set fill 31 1
    ∷ set fill 2 1 ∷ set fill 12 1 ∷ set fill 14 1 ∷ set move 16 1 ∷ set write 12 1 ∷ set write 14 1 ∷ set write 16 1
    ∷ [])
    ≡ 0 ∷ 0 ∷ 0 ∷ 0 ∷ 0 ∷ 0 ∷ 0
    ∷ 12 ∷ 12 ∷ 12 ∷ 12
    ∷ 12 ∷ 12 ∷ 12
    ∷ 12 ∷ 12 ∷ 12 ∷ 12 ∷ 12 ∷ 12 ∷ 12
    ∷ []
unfolding all_zero first_of view_width view_height main_image window_image surface_of address_of destination_of source_of command_of must_be_zero pattern_fits formed inside_image placed any_of share_byte clashes line_words words_taken command_rows refusal
form = refl

-- the same of a long record (02, g): bytes 32 to 47, with none and with each of the key colour's, the pattern's and the rest's at either end
pub long_form_lem : map number (
    long fill ∷ long move ∷ long write
    ∷ set (long fill) 32 1 ∷ set (long fill) 33 1 ∷ set (long move) 34 1 ∷ set (long move) 35 1 ∷ set (long write) 36 1 ∷ set (long write) 39 1
    ∷ set (long fill) 40 1 ∷ set (long move) 47 1 ∷ set (long write) 47 1 ∷ set (long fill) 0 6 ∷ set (long fill) 31 1
    ∷ [])
    ≡ 0 ∷ 0 ∷ 0
    ∷ 12 ∷ 12 ∷ 12 ∷ 12 ∷ 12 ∷ 12
    ∷ 12 ∷ 12 ∷ 12 ∷ 12 ∷ 12
    ∷ []
unfolding all_zero first_of view_width view_height main_image window_image surface_of address_of destination_of source_of command_of must_be_zero pattern_fits formed inside_image placed any_of share_byte clashes line_words words_taken command_rows refusal
long_form_lem = refl

-- ---- patterns and key colours (02, h)
-- on the same rectangle: a pattern fill with raster code and one with key colour 7, from column 3, line 4 of the pattern at 3C000h on; a transparent
-- move from (3, 1) with key colour 7
abbrev fields : ℕ → ℕ → ℕ → ℕ → List ℕ
fields key px py pattern = two_bytes key ++ px ∷ py ∷ four_bytes pattern ++ replicate 8 0

abbrev pattern : List ℕ
pattern = set (bytes 3 2 1 3 2) 2 6 ++ fields 0 3 4 0x3C000

abbrev keyed : List ℕ
keyed = bytes 4 2 1 3 2 ++ fields 7 3 4 0x3C000

abbrev see_through : List ℕ
see_through = set (set (bytes 5 2 1 3 2) 12 3) 14 1 ++ fields 7 0 0 0

-- 12, after three that are accepted: in the short form; operation 6; raster code 16; each field that an operation does not use; key colour 256 at
-- depth 8; bytes 3, 18, 31, 40 and 47
pub pattern_form : map number (
    pattern ∷ keyed ∷ see_through
    ∷ take 32 pattern ∷ take 32 keyed ∷ take 32 see_through ∷ set pattern 0 6 ∷ set pattern 2 16
    ∷ set pattern 12 1 ∷ set pattern 14 1 ∷ set pattern 16 1 ∷ set pattern 32 1 ∷ set pattern 33 1
    ∷ set keyed 2 6 ∷ set keyed 12 1 ∷ set keyed 14 1 ∷ set keyed 16 1 ∷ set keyed 33 1
    ∷ set see_through 2 6 ∷ set see_through 16 1 ∷ set see_through 34 1 ∷ set see_through 35 1 ∷ set see_through 36 64 ∷ set see_through 39 1 ∷ set see_through 33 1
    ∷ set pattern 3 1 ∷ set keyed 18 1 ∷ set see_through 31 1 ∷ set pattern 40 1 ∷ set keyed 40 1 ∷ set see_through 40 1 ∷ set pattern 47 1 ∷ set keyed 47 1 ∷ set see_through 47 1
    ∷ [])
    ≡ 0 ∷ 0 ∷ 0
    ∷ 12 ∷ 12 ∷ 12 ∷ 12 ∷ 12
    ∷ 12 ∷ 12 ∷ 12 ∷ 12 ∷ 12
    ∷ 12 ∷ 12 ∷ 12 ∷ 12 ∷ 12
    ∷ 12 ∷ 12 ∷ 12 ∷ 12 ∷ 12 ∷ 12 ∷ 12
    ∷ 12 ∷ 12 ∷ 12 ∷ 12 ∷ 12 ∷ 12 ∷ 12 ∷ 12 ∷ 12
    ∷ []
unfolding all_zero first_of view_width view_height main_image window_image surface_of address_of destination_of source_of command_of must_be_zero pattern_fits formed inside_image placed any_of share_byte clashes line_words words_taken command_rows refusal
pattern_form = refl

-- 12 by the pattern: x and y up to 7; an address that is a multiple of 64, up to the last that lies in the memory, and so with a key colour
pub pattern_places : map number (
    set pattern 34 7 ∷ set pattern 34 8 ∷ set pattern 35 7 ∷ set pattern 35 8 ∷ set keyed 34 8 ∷ set keyed 35 8
    ∷ set pattern 36 0x40 ∷ set pattern 36 0x20 ∷ set pattern 36 1 ∷ set keyed 36 0x40 ∷ set keyed 36 0x20
    ∷ set (set pattern 36 0xC0) 37 0xFF ∷ set pattern 38 4 ∷ set pattern 39 1 ∷ set keyed 38 4
    ∷ [])
    ≡ 0 ∷ 12 ∷ 0 ∷ 12 ∷ 12 ∷ 12
    ∷ 0 ∷ 12 ∷ 12 ∷ 0 ∷ 12
    ∷ 0 ∷ 12 ∷ 12 ∷ 12
    ∷ []
unfolding all_zero first_of view_width view_height main_image window_image surface_of address_of destination_of source_of command_of must_be_zero pattern_fits formed inside_image placed any_of share_byte clashes line_words words_taken command_rows refusal
pattern_places = refl

-- 13, and 14 by the destination and, as a move's, by a transparent move's source
pub pattern_rectangles : map number (
    set pattern 8 0 ∷ set keyed 10 0 ∷ set see_through 8 0
    ∷ set pattern 4 6 ∷ set keyed 6 3 ∷ set see_through 6 3
    ∷ set see_through 12 5 ∷ set see_through 12 6 ∷ set see_through 14 2 ∷ set see_through 14 3
    ∷ [])
    ≡ 13 ∷ 13 ∷ 13
    ∷ 14 ∷ 14 ∷ 14
    ∷ 0 ∷ 14 ∷ 0 ∷ 14
    ∷ []
unfolding all_zero first_of view_width view_height main_image window_image surface_of address_of destination_of source_of command_of must_be_zero pattern_fits formed inside_image placed any_of share_byte clashes line_words words_taken command_rows refusal
pattern_rectangles = refl

-- at depth 16 a colour may have 16 bits; with flag 0 there is no window
abbrev flagless : Screen
flagless =
    record { depth = 16; rotation = 0; flag = 0; width = 8; height = 4; base = 0; line = 0; window = record { base = 0; x = 0; y = 0; width = 0; height = 0; line = 0 } }

pub screens : (refusal memory_size flagless 0 (set fill 17 255) ≡ 0) × (refusal memory_size flagless 0 (set fill 1 1) ≡ 12)
unfolding all_zero first_of view_width view_height main_image window_image surface_of address_of destination_of source_of command_of must_be_zero pattern_fits formed inside_image placed any_of share_byte clashes line_words words_taken command_rows refusal
screens = (refl, refl)

-- 13: no width, no height; 14: the destination or a move's source one past the surface, to the right and below
pub rectangles : map number (
    set fill 8 0 ∷ set fill 10 0
    ∷ set fill 4 5 ∷ set fill 4 6 ∷ set fill 6 2 ∷ set fill 6 3
    ∷ set move 12 5 ∷ set move 12 6 ∷ set move 14 2 ∷ set move 14 3
    ∷ [])
    ≡ 13 ∷ 13
    ∷ 0 ∷ 14 ∷ 0 ∷ 14
    ∷ 0 ∷ 14 ∷ 0 ∷ 14
    ∷ []
unfolding all_zero first_of view_width view_height main_image window_image surface_of address_of destination_of source_of command_of must_be_zero pattern_fits formed inside_image placed any_of share_byte clashes line_words words_taken command_rows refusal
rectangles = refl

-- the surface is the one named: 8 pixels to the right there is room on a main image of 16, and none on the window
pub surfaces : (refusal memory_size (screen 8 16 8) 0 (set (set fill 4 8) 1 0) ≡ 0) × (refusal memory_size (screen 8 16 8) 0 (set (set fill 4 8) 1 1) ≡ 14)
unfolding all_zero first_of view_width view_height main_image window_image surface_of address_of destination_of source_of command_of must_be_zero pattern_fits formed inside_image placed any_of share_byte clashes line_words words_taken command_rows refusal
surfaces = (refl, refl)

-- at depth 16 a pattern's address is a multiple of 128, the last one 128 bytes below the memory's end, and a key colour may have 16 bits
pub deep_patterns : map (refusal memory_size flagless 0) (
    set pattern 36 0x80 ∷ set pattern 36 0x40 ∷ set keyed 36 0x40
    ∷ set (set pattern 36 0x80) 37 0xFF ∷ set (set pattern 36 0xC0) 37 0xFF
    ∷ set keyed 33 255 ∷ set see_through 33 255
    ∷ [])
    ≡ 0 ∷ 12 ∷ 12
    ∷ 0 ∷ 12
    ∷ 0 ∷ 0
    ∷ []
unfolding all_zero first_of view_width view_height main_image window_image surface_of address_of destination_of source_of command_of must_be_zero pattern_fits formed inside_image placed any_of share_byte clashes line_words words_taken command_rows refusal
deep_patterns = refl

-- ---- 29
-- bytes that runs share: side by side none, one, the same the other way round; a run of no bytes shares none
pub runs_meet : meet 0 4 4 4 ∷ meet 0 5 4 4 ∷ meet 4 4 0 5 ∷ meet 0 9 3 2 ∷ meet 2 0 0 4 ∷ meet 0 4 2 0 ∷ [] ≡ false ∷ true ∷ true ∷ true ∷ false ∷ false ∷ []
runs_meet = refl

-- three lines of four bytes, ten apart, and one run of two bytes, or three such, ten apart: before them, at their edges, between them, past the last
abbrev lines : ℕ → ℕ → ℕ → Lines
lines at size count = record { at = at; line = 10; size = size; count = count }

pub lines_share : map (λ (a : ℕ). share_byte (lines 100 4 3) (lines a 2 1)) (98 ∷ 99 ∷ 103 ∷ 104 ∷ 108 ∷ 109 ∷ 119 ∷ 123 ∷ 124 ∷ 130 ∷ []) ≡ false ∷ true ∷ true ∷ false ∷ false ∷ true ∷ true ∷ true ∷ false ∷ false ∷ []
unfolding any_of share_byte
lines_share = refl

pub blocks_share : map (λ (a : ℕ). share_byte (lines a 2 3) (lines 100 4 3)) (78 ∷ 79 ∷ 84 ∷ 94 ∷ 104 ∷ 113 ∷ 114 ∷ 123 ∷ 124 ∷ []) ≡ false ∷ true ∷ false ∷ false ∷ false ∷ true ∷ false ∷ true ∷ false ∷ []
unfolding any_of share_byte
blocks_share = refl

-- a pattern at 0 lies under the rectangle, one at 64 does not; and so with a key colour
pub under_rectangle : map number (set (set pattern 37 0) 38 0 ∷ set (set (set pattern 36 64) 37 0) 38 0 ∷ set (set keyed 37 0) 38 0 ∷ set (set (set keyed 36 64) 37 0) 38 0 ∷ []) ≡ 29 ∷ 0 ∷ 29 ∷ 0 ∷ []
unfolding all_zero first_of view_width view_height main_image window_image surface_of address_of destination_of source_of command_of must_be_zero pattern_fits formed inside_image placed any_of share_byte clashes line_words words_taken command_rows refusal
under_rectangle = refl

-- on lines of 640 bytes, of which 320 are shown: a pattern fill of two lines from x on, so many pixels wide, from the pattern's last pixel on, and patterns in the first line, at
-- its edges, between the lines, in the second and past it
abbrev hatched : ℕ → ℕ → ℕ → ℕ
hatched x width at = refusal memory_size wide 0 (set (set (set (set (bytes 3 0 0 0 2) 4 x) 8 (width % 256)) 9 (width / 256)) 2 12 ++ fields 0 7 7 at)

pub between_lines : map (hatched 0 320) (0 ∷ 256 ∷ 320 ∷ 576 ∷ 640 ∷ 896 ∷ 960 ∷ []) ++ map (hatched 64 192) (0 ∷ 64 ∷ 192 ∷ 256 ∷ 640 ∷ 704 ∷ 896 ∷ []) ≡ 29 ∷ 29 ∷ 0 ∷ 0 ∷ 29 ∷ 29 ∷ 0 ∷ 0 ∷ 29 ∷ 29 ∷ 0 ∷ 0 ∷ 29 ∷ 0 ∷ []
unfolding all_zero first_of view_width view_height main_image window_image surface_of address_of destination_of source_of command_of must_be_zero pattern_fits formed inside_image placed any_of share_byte clashes line_words words_taken command_rows refusal
between_lines = refl

-- a transparent move of 9 by so many pixels from (100, 10) to (x, y), on 320 by 240 at depth 16
abbrev seen : ℕ → ℕ → ℕ → ℕ
seen height x y = refusal memory_size (screen 16 320 240) 0 (set (set (bytes 5 x y 9 height) 12 100) 14 10 ++ fields 0x1F 0 0 0)

-- 002's example 15: the spans of its areas overlap, and no pixel is in both. Then with four lines: to the right, to the left and below, each as far
-- as a pixel is in both and one further; to the same place and upwards, where the destination address is not greater
pub seen_through_lem : seen 101 200 20 ∷ seen 4 108 10 ∷ seen 4 109 10 ∷ seen 4 92 11 ∷ seen 4 91 11 ∷ seen 4 100 13 ∷ seen 4 100 14 ∷ seen 4 108 13
    ∷ seen 4 100 10 ∷ seen 4 99 10 ∷ seen 4 100 9 ∷ seen 4 108 9
    ∷ []
    ≡ 0 ∷ 29 ∷ 0 ∷ 29 ∷ 0 ∷ 29 ∷ 0 ∷ 29
    ∷ 0 ∷ 0 ∷ 0 ∷ 0
    ∷ []
unfolding all_zero first_of view_width view_height main_image window_image surface_of address_of destination_of source_of command_of must_be_zero pattern_fits formed inside_image placed any_of share_byte clashes line_words words_taken command_rows refusal
seen_through_lem = refl

-- 12 before 29; 14 before 29, by a source and by a destination that end past the surface, where the areas share pixels
pub clash_order : (number (set (set (set pattern 37 0) 38 0) 2 16) ≡ 12)
    × (number (set (set (set see_through 4 4) 8 4) 12 5) ≡ 14)
    × (number (set (set see_through 4 6) 12 5) ≡ 14)
    × (number (set (set see_through 4 5) 12 4) ≡ 29)
unfolding all_zero first_of view_width view_height main_image window_image surface_of address_of destination_of source_of command_of must_be_zero pattern_fits formed inside_image placed any_of share_byte clashes line_words words_taken command_rows refusal
clash_order = (refl, refl, refl, refl)

-- an answer and its number
pub answers : (command_answer memory_size (screen 8 8 4) 0 fill ≡ Ok (command 0 0 0 2 1 3 2 0 0 0))
    × (command_answer memory_size (screen 8 8 4) 3 write ≡ Err FewWords)
    × (refusals.number_of {A = Command} (Ok (command 0 0 0 2 1 3 2 0 0 0)) ≡ 0)
    × (refusals.number_of {A = Command} (Err FewWords) ≡ 15)
unfolding all_zero first_of view_width view_height main_image window_image surface_of address_of destination_of source_of command_of must_be_zero pattern_fits formed inside_image placed any_of share_byte clashes line_words words_taken command_rows refusal command_answer refusals.answered refusals.number refusals.refusal refusals.number_by
answers = (refl, refl, refl, refl)
