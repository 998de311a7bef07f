-- The command record (01, "Stored records"; its long form: 02, g), and its refusals 12 to 15 (01, "Refusal numbers") and 29 (02, h).
use Rattle.std.specs.Prelude.{Result, ℕ, ◌+◌, ◌*◌, ◌/◌, ◌%◌, List, [], ◌∷◌, ◌++◌, Bool, true, false, not, ◌&&◌, ◌||◌, cond, length, take, drop, replicate, leb, ltb, eqb}
use Rattle.record.specs.Bytes.{byte_at, u16_at, u32_at, two_bytes, all_zero}
use Rattle.record.specs.Checks.{Row, row, first_of}
use Rattle.screen.specs.Image.{line_bytes}
use Rattle.screen.specs.Screen.{main_image, window_image}
use Rattle.screen.specs.declared.Image.{Image}
use Rattle.screen.specs.declared.Screen.{Screen}
use Rattle.command.specs.Sharing.{Lines, share_byte}
use Rattle.command.specs.declared.Command.{Command}
use Rattle.refusal.specs.Number.{answered}
use Rattle.refusal.specs.declared.Refusal.{Refusal}

-- the record's fields; a record of 32 bytes has none of the last four, and they are 0
unfoldable pub command_of : List ℕ → Command
command_of b =
    record {
      operation = byte_at b 0;
      surface = byte_at b 1;
      raster = byte_at b 2;
      x = u16_at b 4;
      y = u16_at b 6;
      width = u16_at b 8;
      height = u16_at b 10;
      sx = u16_at b 12;
      sy = u16_at b 14;
      colour = u16_at b 16;
      key = u16_at b 32;
      px = byte_at b 34;
      py = byte_at b 35;
      pattern = u32_at b 36;
    }

-- the 32 bytes of a command in the short form
unfoldable pub command_bytes : Command → List ℕ
command_bytes c =
    c.operation ∷ c.surface ∷ c.raster ∷ 0
    ∷ two_bytes c.x ++ two_bytes c.y ++ two_bytes c.width ++ two_bytes c.height ++ two_bytes c.sx ++ two_bytes c.sy ++ two_bytes c.colour
    ++ replicate 14 0

-- a value for each operation: 0 fill, 1 move, 2 write (01), 3 pattern fill with raster code, 4 pattern fill with key colour and, for any other
-- number, 5 transparent move (02, h)
module _ {A : Type 0} where
  abbrev pub by_operation : ℕ → A → A → A → A → A → A → A
  by_operation operation fill move write pattern keyed transparent =
      cond (eqb operation 0) fill
      (cond (eqb operation 1) move
      (cond (eqb operation 2) write
      (cond (eqb operation 3) pattern
      (cond (eqb operation 4) keyed transparent))))

-- surfaces: 0 main, 1 window
unfoldable pub surface_of : Screen → Command → Image
surface_of s c = cond (eqb c.surface 0) (main_image s) (window_image s)

-- address of a surface's pixel: base + y × line length + x × depth ÷ 8 (01, "Blits")
unfoldable pub address_of : ℕ → Image → ℕ → ℕ → ℕ
address_of depth i x y = i.base + y * i.line + x * depth / 8

-- addresses of the upper left pixels
unfoldable pub destination_of : Screen → Command → ℕ
destination_of s c = address_of s.depth (surface_of s c) c.x c.y

unfoldable pub source_of : Screen → Command → ℕ
source_of s c = address_of s.depth (surface_of s c) c.sx c.sy

-- "Over the 48-byte record add operation 3 .., 4 .., and 5": a record of 32 bytes has those up to 2
abbrev pub last_operation : List ℕ → ℕ
last_operation b = cond (ltb (length b) 48) 2 5

-- "Fill: raster code and source zero. Move: colour zero. Write: source and colour zero" (01). "Unused fields are zero" (02, h): a pattern fill
-- with raster code has no source, colour or key, one with key colour no raster code, source or colour, a transparent move no raster code,
-- colour or pattern
unfoldable pub must_be_zero : Command → List ℕ
must_be_zero c =
    by_operation c.operation
    (c.raster ∷ c.sx ∷ c.sy ∷ [])
    (c.colour ∷ [])
    (c.sx ∷ c.sy ∷ c.colour ∷ [])
    (c.sx ∷ c.sy ∷ c.colour ∷ c.key ∷ [])
    (c.raster ∷ c.sx ∷ c.sy ∷ c.colour ∷ [])
    (c.raster ∷ c.colour ∷ c.px ∷ c.py ∷ c.pattern ∷ [])

-- where a long record's zeros begin: "Operations 0 to 2 keep bytes 32-47 zero", the others have fields up to 39 (02, g)
abbrev pub zeros_from : ℕ → ℕ
zeros_from operation = by_operation operation 32 32 32 40 40 40

-- bytes of a pattern, 8 lines of 8 pixels: 64 at depth 8, 128 at depth 16
abbrev pub pattern_size : ℕ → ℕ
pattern_size depth = 8 * depth

-- "pattern x and y (0 to 7, else 12)", "The pattern address is a multiple of 64 at depth 8 and 128 at depth 16, inside memory (else 12)", the
-- memory being m bytes
unfoldable pub pattern_fits : ℕ → Screen → Command → Bool
pattern_fits m s c =
    leb c.px 7
    && (leb c.py 7
    && (eqb (c.pattern % pattern_size s.depth) 0
    && leb (c.pattern + pattern_size s.depth) m))

-- not refused by 12: operation, surface, raster code, colour, key colour and pattern are there, and what must be zero is
unfoldable pub formed : ℕ → Screen → List ℕ → Command → Bool
formed m s b c =
    leb c.operation (last_operation b)
    && (leb c.surface s.flag
    && (leb c.raster 15
    && ((not (eqb s.depth 8) || (leb c.colour 255 && leb c.key 255))
    && (all_zero (must_be_zero c)
    && (eqb (byte_at b 3) 0
    && (all_zero (take 14 (drop 18 b))
    && (all_zero (drop (zeros_from c.operation) b)
    && by_operation c.operation true true true (pattern_fits m s c) (pattern_fits m s c) true)))))))

-- a rectangle at (x, y) inside an image
unfoldable pub inside_image : Image → ℕ → ℕ → ℕ → ℕ → Bool
inside_image i x y width height = leb (x + width) i.width && leb (y + height) i.height

-- not refused by 14: the destination, and a move's source, is inside the surface; "Number 14 takes operation 5's source as a move's" (02, h)
unfoldable pub placed : Screen → Command → Bool
placed s c =
    let source = inside_image (surface_of s c) c.sx c.sy c.width c.height in
    inside_image (surface_of s c) c.x c.y c.width c.height
    && by_operation c.operation true source true true true source

-- the bytes of a command's rectangle, from the address of its upper left pixel on, and those of its pattern, which stand side by side
abbrev pub rectangle_at : Screen → Command → ℕ → Lines
rectangle_at s c a = record { at = a; line = (surface_of s c).line; size = line_bytes s.depth c.width; count = c.height }

abbrev pub pattern_at : Screen → Command → Lines
pattern_at s c = record { at = c.pattern; line = 0; size = pattern_size s.depth; count = 1 }

-- refused by 29: "A pattern sharing a byte with the destination", and operation 5 "when source and destination share a byte and the destination
-- address is greater" (02, h)
unfoldable pub clashes : Screen → Command → Bool
clashes s c =
    let pattern = share_byte (rectangle_at s c (destination_of s c)) (pattern_at s c) in
    let source = share_byte (rectangle_at s c (source_of s c)) (rectangle_at s c (destination_of s c)) in
    by_operation c.operation false false false pattern pattern (ltb (source_of s c) (destination_of s c) && source)

-- host words of a line: (width + 1) ÷ 2 at depth 8, width at 16
unfoldable pub line_words : ℕ → ℕ → ℕ
line_words depth width = cond (eqb depth 8) ((width + 1) / 2) width

-- host words that a command takes
unfoldable pub words_taken : Screen → Command → ℕ
words_taken s c = by_operation c.operation 0 0 (line_words s.depth c.width * c.height) 0 0 0

-- rows 12 to 15 and 29 for a command record, with so many host words left, the memory being m bytes: "Number 29 comes after 14" (02, h)
unfoldable pub command_rows : ℕ → Screen → ℕ → List ℕ → Command → List Row
command_rows m s left b c =
    row 12 (not (formed m s b c))
    ∷ row 13 (eqb c.width 0 || eqb c.height 0)
    ∷ row 14 (not (placed s c))
    ∷ row 29 (clashes s c)
    ∷ row 15 (ltb left (words_taken s c))
    ∷ []

-- a number of these rows: it names the command that is refused
abbrev pub names_command : ℕ → Bool
names_command n = (leb 12 n && leb n 15) || eqb n 29

-- 0, or why the record is refused
unfoldable pub refusal : ℕ → Screen → ℕ → List ℕ → ℕ
refusal m s left b = first_of (command_rows m s left b (command_of b))

-- the answer to a record
unfoldable pub command_answer : ℕ → Screen → ℕ → List ℕ → Result Command Refusal
command_answer m s left b = answered (refusal m s left b) (command_of b)
