-- The nine registers of a command that is not refused: the chip reads back the command's own rectangle, from its upper left pixel in
-- positive and from its lower right pixel in negative direction, and every byte of it lies in the memory.
use mathlib.Core.Path.{◌≡◌, refl, sym, ap, ap₂, ◌∙◌}
use mathlib.Core.Bool.{Bool, true, false, cond}
use mathlib.Core.List.{List}
use mathlib.Core.Logic.{◌⊎◌, ⊎_elim}
use Prim.Native.Nat.{ℕ, ◌+◌, ◌-◌, ◌*◌, ◌/◌, ◌%◌, ◌^◌, ◌≤◌, ◌<◌}
use native.Mathlib.Omega.{arith}
use native.Mathlib.Nat.{mul-le-mul_right, mod-eq_of_lt}
use lib.Dec.{eqb}
use lib.ListN.{length}
use borrow.Author.Tests.{eq-eqb, ne_eqb, le-leb}
use Rattle.screen.specs.declared.Image.{Image}
use Rattle.screen.specs.declared.Screen.{Screen}
use Rattle.blit.specs.Blit.{Blit, Source}
use Rattle.blit.proofs.Painted.{Fits}
use Rattle.chip.specs.Register.{control_fits, command_fits}
use Rattle.chip.proofs.Commands.{InFields}
use Rattle.chip.specs.Start.{operation, raster_code, bytes_of, source_of as chip_source_of, destination_of as chip_destination_of, key_of, line_of, width_of, height_of, whole_at, startable, span, forward, backward, within, started}
use Rattle.chip.specs.declared.Registers.{Registers}
use Rattle.command.specs.Command.{surface_of, address_of, destination_of, source_of, rectangle_at}
use Rattle.command.specs.Sharing.{share_byte}
use Rattle.command.specs.Values.{is_negative, last_column, last_line, command_value, source_value, destination_value, control_value, used_value, uses}
use Rattle.command.specs.declared.Command.{Command}
use Rattle.command.proofs.Operation.{by_move, by_transparent}
use Rattle.command.proofs.Values.{source_is as source_used}
use Rattle.command.proofs.Fine.{Moves, Patterned, PatternIn}
use Rattle.unit.specs.Sheet.{sheet_command}
use Rattle.unit.proofs.Painted.{OneOrTwo, over, corner}

-- what the checks have shown of a command and its surface, in a memory of m bytes with B bytes to a pixel
pub record Drawable (m B : ℕ) (s : Screen) (c : Command) : Type 0 where
  pub deep : s.depth ≡ 8 * B
  pub size : OneOrTwo B
  pub width : 0 < c.width
  pub height : 0 < c.height
  pub right : c.x + c.width ≤ (surface_of s c).width
  pub bottom : c.y + c.height ≤ (surface_of s c).height
  pub source_right : Moves c → c.sx + c.width ≤ (surface_of s c).width
  pub source_bottom : Moves c → c.sy + c.height ≤ (surface_of s c).height
  pub operation : c.operation ≤ 5
  pub raster : c.raster ≤ 15
  pub colour : c.colour ≤ 65535
  pub key : c.key ≤ 65535
  pub low_key : s.depth ≡ 8 → c.key ≤ 255
  pub pattern : Patterned c → PatternIn m s c
  pub source_apart : c.operation ≡ 5
      → (destination_of s c ≤ source_of s c) ⊎ (share_byte (rectangle_at s c (source_of s c)) (rectangle_at s c (destination_of s c)) ≡ false)
  pub narrow : (surface_of s c).width ≤ 1024
  pub low : (surface_of s c).height ≤ 1024
  pub shown : (surface_of s c).width * B ≤ (surface_of s c).line
  pub short : (surface_of s c).line ≤ 4092
  pub whole : (surface_of s c).line % 4 ≡ 0
  pub base : (surface_of s c).base % 4 ≡ 0
  pub ends : (surface_of s c).base + ((surface_of s c).height - 1) * (surface_of s c).line + (surface_of s c).width * B ≤ m
  pub small : m ≤ 262144

-- the blit registers once the nine values are written
unfoldable pub blit_registers_of : Screen → Command → Registers
blit_registers_of s c =
    record {
      control = control_value s.depth;
      command = command_value s c;
      source = used_value c.operation 0x800C (source_value s c);
      destination = destination_value s c;
      offset = (surface_of s c).line / 2;
      width = c.width - 1;
      height = c.height - 1;
      background = used_value c.operation 0x8020 c.key;
      foreground = used_value c.operation 0x8024 c.colour;
    }

-- what playing asks of a command's nine records, which start operation n of the chip, and what the command then does
pub record Starts (m : ℕ) (s : Screen) (c : Command) (n : ℕ) (Does : Type 0) : Type 0 where
  pub fields : InFields (blit_registers_of s c)
  pub operation : operation (blit_registers_of s c) ≡ n
  pub startable : startable (blit_registers_of s c) ≡ true
  pub within : within m (blit_registers_of s c) ≡ true
  pub does : Does

-- a pixel's address
pub address_is : (d B : ℕ) (i : Image) (x y : ℕ) → d ≡ 8 * B → address_of d i x y ≡ i.base + (y * i.line + x * B)
unfolding address_of
address_is d B i x y h = omega (arith, ap (λ (k : ℕ). x * k) h)

-- a value that is used, or 0
used_below : (t : Bool) (v limit : ℕ) → v ≤ limit → cond t v 0 ≤ limit
used_below true v limit h = h
used_below false v limit h = omega arith

module _ (m B : ℕ) (s : Screen) (c : Command) (d : Drawable m B s c) where
  abbrev on : Image
  on = surface_of s c

  abbrev regs : Registers
  regs = blit_registers_of s c

  pub bytes_bound : (0 < B) × (B ≤ 2)
  bytes_bound = ⊎_elim (λ e. omega arith) (λ e. omega arith) d.size

  -- a pixel of the surface lies in the memory, and begins there at an even address where it has two bytes
  pixel_inside : (x y : ℕ) → x < on.width → y < on.height → on.base + (y * on.line + x * B) + B ≤ m
  pixel_inside x y hx hy =
      omega (arith, d.ends, mul-le-mul_right {m = y} {n = on.height - 1} on.line (omega arith), mul-le-mul_right {m = x + 1} {n = on.width} B (omega arith))

  pixel_whole : (x y : ℕ) → (on.base + (y * on.line + x * B)) % B ≡ 0
  pixel_whole x y =
      ⊎_elim
      (λ e. rw e (omega arith))
      (λ e.
      let l : on.line ≡ 2 * (on.line / 2) = omega (arith, d.whole) in
      rw e (omega (arith, d.base, ap (λ (k : ℕ). y * k) l)))
      d.size

  -- ---- the fields read back
  pub bytes_is : bytes_of regs ≡ B
  unfolding blit_registers_of control_value
  bytes_is =
      ⊎_elim
      (λ e. rw (ne_eqb s.depth 16 (λ q. omega (arith, d.deep))) (sym e))
      (λ e. rw (eq-eqb s.depth 16 (omega (arith, d.deep))) (sym e))
      d.size

  pub line_is : line_of regs ≡ on.line
  unfolding blit_registers_of
  line_is =
      let half : on.line / 2 < 2048 = omega (arith, d.short) in
      let kept : on.line / 2 % 2048 ≡ on.line / 2 = mod-eq_of_lt half in
      let even : 2 * (on.line / 2) ≡ on.line = omega (arith, d.whole) in
      ap (λ (k : ℕ). 2 * k) kept ∙ even

  pub width_is : width_of regs ≡ c.width
  unfolding blit_registers_of
  width_is = omega (arith, d.width, d.right, d.narrow)

  pub height_is : height_of regs ≡ c.height
  unfolding blit_registers_of
  height_is = omega (arith, d.height, d.bottom, d.low)

  -- 8020h is the key colour of an operation that uses it
  pub key_is : (c.operation ≡ 4) ⊎ (c.operation ≡ 5) → key_of regs ≡ c.key
  unfolding blit_registers_of
  key_is e =
      (λ t. used t % 256 ^ bytes_is t)
      ∙ ⊎_elim
      (λ z. rw z (mod-eq_of_lt (omega (arith, d.low_key (omega (arith, d.deep))))))
      (λ z. rw z (mod-eq_of_lt (omega (arith, d.key))))
      d.size
    where
      used : used_value c.operation 0x8020 c.key ≡ c.key
      used = ⊎_elim (λ z. rw z refl) (λ z. rw z refl) e

  -- 8008h is an operation and the raster code
  module _ (n : ℕ) (few : n < 16) (value : command_value s c ≡ n + 65536 * c.raster) where
    pub operation_is : operation regs ≡ n
    unfolding blit_registers_of
    operation_is = omega (arith, value, few, d.raster)

    pub code_is : raster_code regs ≡ c.raster
    unfolding blit_registers_of
    code_is = omega (arith, value, few, d.raster)

    command_fits_lem : command_fits (command_value s c) ≡ true
    command_fits_lem =
        let low : command_value s c % 65536 ≤ 15 = omega (arith, value, few, d.raster) in
        let high : command_value s c / 65536 ≤ 15 = omega (arith, value, few, d.raster) in
        rw (le-leb _ _ low, le-leb _ _ high) refl

  -- ---- where it starts
  abbrev pub source_corner : ℕ
  source_corner = on.base + (c.sy * on.line + c.sx * B)

  -- from the upper left pixel to the lower right one
  abbrev pub last : ℕ
  last = (c.height - 1) * on.line + (c.width - 1) * B

  last_inside : (x y : ℕ) → x + c.width ≤ on.width → y + c.height ≤ on.height → on.base + (y * on.line + x * B) + last + B ≤ m
  last_inside x y hx hy =
      let e : on.base + ((y + (c.height - 1)) * on.line + (x + (c.width - 1)) * B) ≡ on.base + (y * on.line + x * B) + last = omega arith in
      omega (arith, e, pixel_inside (x + (c.width - 1)) (y + (c.height - 1)) (omega (arith, d.width)) (omega (arith, d.height)))

  corner_inside : corner s c B + last + B ≤ m
  corner_inside = last_inside c.x c.y d.right d.bottom

  pub source_inside : Moves c → source_corner + last + B ≤ m
  source_inside e = last_inside c.sx c.sy (d.source_right e) (d.source_bottom e)

  span_is : span regs ≡ last
  unfolding span blit_registers_of
  span_is =
      let w : (c.width - 1) % 1024 ≡ c.width - 1 = mod-eq_of_lt (omega (arith, d.right, d.narrow)) in
      let h : (c.height - 1) % 1024 ≡ c.height - 1 = mod-eq_of_lt (omega (arith, d.bottom, d.low)) in
      λ t. h t * line_is t + w t * bytes_is t

  -- the part of a line that the rectangle takes
  pub room : (c.x + c.width) * B ≤ on.line
  room = omega (arith, d.shown, mul-le-mul_right B d.right)

  pub fits_over : (f : ℕ → ℕ → ℕ) (source : Source) (old : List ℕ) → length old ≡ m → Fits (over s c B f source) old
  fits_over f source old len =
      record {
        some_bytes = bytes_bound.0;
        in_line = omega (arith, room);
        in_memory = λ j h.
            omega
            (arith, len, corner_inside, d.width, d.height, mul-le-mul_right {m = j} {n = c.height - 1} on.line (omega arith), width_whole);
      }
    where
      width_whole : (c.width - 1) * B + B ≡ c.width * B
      width_whole =
          let e : c.width - 1 + 1 ≡ c.width = omega (arith, d.width) in
          omega (arith, ap (λ (k : ℕ). k * B) e)

  -- ---- in a direction: t says whether it is negative
  -- from the upper left pixel to the one that the command starts at
  abbrev pub shift : Bool → ℕ
  shift t = cond t last 0

  shift_below : (t : Bool) → shift t ≤ last
  shift_below t = used_below t last last (omega arith)

  -- the address of a pixel that a command starts at, (x, y) being the upper left one
  start_at : (t : Bool) (x y : ℕ) → address_of s.depth on (x + cond t (c.width - 1) 0) (y + cond t (c.height - 1) 0) ≡ on.base + (y * on.line + x * B) + shift t
  start_at true x y = address_is s.depth B on (x + (c.width - 1)) (y + (c.height - 1)) d.deep ∙ omega arith
  start_at false x y = address_is s.depth B on (x + 0) (y + 0) d.deep ∙ omega arith

  -- it is that of whole pixels
  start_whole : (t : Bool) (v x y : ℕ) → v ≡ on.base + (y * on.line + x * B) + shift t → whole_at regs v ≡ true
  start_whole t v x y e =
      eq-eqb (v % bytes_of regs) 0
      (ap₂ (λ (a b : ℕ). a % b) (e ∙ sym (start_at t x y) ∙ address_is s.depth B on (x + cond t (c.width - 1) 0) (y + cond t (c.height - 1) 0) d.deep) bytes_is
      ∙ pixel_whole (x + cond t (c.width - 1) 0) (y + cond t (c.height - 1) 0))

  -- it reads back from 18 bits
  start_read : (t : Bool) (v a : ℕ) → v ≡ a + shift t → a + last + B ≤ m → (v % 262144 ≡ a + shift t) × (v ≤ 0x3FFFF)
  start_read t v a e h =
      let fits : a + shift t < 262144 = omega (arith, shift_below t, h, d.small, bytes_bound) in
      (ap (λ (k : ℕ). k % 262144) e ∙ mod-eq_of_lt fits, omega (arith, e, fits))

  -- and all bytes of the rectangle on from it, or back from it, lie in the memory
  pub start_reaches : (t : Bool) (v a : ℕ) → v ≡ a + shift t → a + last + B ≤ m → cond t (backward m regs v) (forward m regs v) ≡ true
  start_reaches true v a e h =
      rw (le-leb (span regs) v (omega (arith, e, span_is)), le-leb (v + bytes_of regs) m (omega (arith, e, h, bytes_is))) refl
  start_reaches false v a e h = le-leb (v + span regs + bytes_of regs) m (omega (arith, e, h, span_is, bytes_is))

  module _ (t : Bool) (way : is_negative s c ≡ t) where
    destination_value_lem : destination_value s c ≡ corner s c B + shift t
    unfolding destination_value last_column last_line
    destination_value_lem = rw way (start_at t c.x c.y)

    pub destination_is : chip_destination_of regs ≡ corner s c B + shift t
    unfolding blit_registers_of
    destination_is = (start_read t (destination_value s c) (corner s c B) destination_value_lem corner_inside).0

    pub destination_whole : whole_at regs (chip_destination_of regs) ≡ true
    destination_whole = start_whole t (chip_destination_of regs) c.x c.y destination_is

    pub destination_reaches : cond t (backward m regs (chip_destination_of regs)) (forward m regs (chip_destination_of regs)) ≡ true
    destination_reaches = start_reaches t (chip_destination_of regs) (corner s c B) destination_is corner_inside

    -- a move's source; a transparent move goes in positive direction
    module _ (e : Moves c) where
      no_shift : c.operation ≡ 5 → shift t ≡ 0
      unfolding is_negative
      no_shift z = ap shift (sym way ∙ by_transparent c.operation _ _ _ _ _ _ z)

      source_value_lem : source_value s c ≡ source_corner + shift t
      unfolding source_value source_of last_column last_line
      source_value_lem =
          ⊎_elim
          (λ z. by_move c.operation _ _ _ _ _ _ z ∙ rw way (start_at t c.sx c.sy))
          (λ z. by_transparent c.operation _ _ _ _ _ _ z ∙ address_is s.depth B on c.sx c.sy d.deep ∙ omega (arith, no_shift z))
          e

      pub source_is : chip_source_of regs ≡ source_corner + shift t
      unfolding blit_registers_of
      source_is = (start_read t (used_value c.operation 0x800C (source_value s c)) source_corner (source_used s c ∙ source_value_lem) (source_inside e)).0

      pub source_whole : whole_at regs (chip_source_of regs) ≡ true
      source_whole = start_whole t (chip_source_of regs) c.sx c.sy source_is

      pub source_reaches : cond t (backward m regs (chip_source_of regs)) (forward m regs (chip_source_of regs)) ≡ true
      source_reaches = start_reaches t (chip_source_of regs) source_corner source_is (source_inside e)

      pub source_fits_lem : source_value s c ≤ 0x3FFFF
      source_fits_lem = (start_read t (source_value s c) source_corner source_value_lem (source_inside e)).1

    -- ---- the nine values are in their fields
    pub fields_of_lem : (n : ℕ) → n < 16 → command_value s c ≡ n + 65536 * c.raster → source_value s c ≤ 0x3FFFF → InFields regs
    unfolding blit_registers_of control_value
    fields_of_lem n few value source =
        record {
          command = command_fits_lem n few value;
          source = used_below (uses c.operation 0x800C) (source_value s c) 0x3FFFF source;
          destination = (start_read t (destination_value s c) (corner s c B) destination_value_lem corner_inside).1;
          offset = omega (arith, d.short);
          width = omega (arith, d.right, d.narrow);
          height = omega (arith, d.bottom, d.low);
          background = used_below (uses c.operation 0x8020) c.key 0xFFFF d.key;
          foreground = used_below (uses c.operation 0x8024) c.colour 0xFFFF d.colour;
          control = control_ok (eqb s.depth 16);
          starts = control_odd (eqb s.depth 16);
        }
      where
        control_ok : (t : Bool) → control_fits (cond t 0x40001 1) ≡ true
        control_ok true = refl
        control_ok false = refl

        control_odd : (t : Bool) → cond t 0x40001 1 % 2 ≡ 1
        control_odd true = refl
        control_odd false = refl

  -- the blit that the registers say is one of the command's size and line length
  pub read_back : (f g : ℕ → ℕ → ℕ) (p q : Source) (a : ℕ) → f ≡ g → p ≡ q → chip_destination_of regs ≡ a
      → ◌≡◌ {A = Blit}
      (record { bytes = bytes_of regs; line = line_of regs; width = width_of regs; height = height_of regs; combine = f; source = p; destination = chip_destination_of regs })
      (record { bytes = B; line = on.line; width = c.width; height = c.height; combine = g; source = q; destination = a })
  read_back f g p q a ef ep ea =
      λ t. record {
        bytes = bytes_is t;
        line = line_is t;
        width = width_is t;
        height = height_is t;
        combine = ef t;
        source = ep t;
        destination = ea t;
      }

  -- what a command does at once, when it is started
  abbrev pub AtOnce : Type 0
  AtOnce = (words old : List ℕ) → length old ≡ m → started regs old ≡ sheet_command s c words old
