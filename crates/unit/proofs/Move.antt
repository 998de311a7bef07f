-- A move that is not refused, in either direction: the chip starts it, and does to the memory what the sheet says.
use mathlib.Core.Path.{◌≡◌, refl, sym, ap, ap₂, ◌∙◌}
use mathlib.Core.Bool.{Bool, true, false, ◌&&◌, cond}
use mathlib.Core.Logic.{inl}
use mathlib.Core.List.{List}
use Prim.Native.Nat.{ℕ, ◌+◌, ◌*◌, ◌<◌}
use native.Mathlib.Omega.{arith}
use lib.Dec.{eqb, ltb, lit<}
use Rattle.screen.specs.declared.Image.{Image}
use Rattle.screen.specs.declared.Screen.{Screen}
use Rattle.blit.specs.Blit.{Blit, memory, chip_blit, towards, starting}
use Rattle.blit.specs.Job.{mix_of, source_of as blit_source_of, blit_of, performed}
use Rattle.blit.specs.declared.From.{From}
use Rattle.blit.specs.declared.Mix.{Mix}
use Rattle.blit.specs.declared.Mix.TheVariants.{Raster}
use Rattle.blit.proofs.Direction.{chip_is_painted}
use Rattle.chip.specs.Start.{by_blit, operation, bytes_of, source_fits, startable, within, mix_by, from_by, job_of, started}
use Rattle.chip.specs.declared.Registers.{Registers}
use Rattle.command.specs.Command.{surface_of, destination_of, source_of}
use Rattle.command.specs.Values.{is_negative, command_value}
use Rattle.command.specs.declared.Command.{Command}
use Rattle.command.proofs.Operation.{by_move}
use Rattle.unit.proofs.Painted.{over, corner, moved}
use Rattle.unit.proofs.Registers.{Drawable, blit_registers_of, Starts, AtOnce, address_is, bytes_is, operation_is, code_is, source_corner, shift, room, fits_over, destination_is, destination_whole, destination_reaches, source_is, source_whole, source_reaches, source_fits_lem, fields_of_lem, read_back}

-- the chip's operation of a move, negative or not, and its cell of a table
abbrev pub move_number : Bool → ℕ
move_number t = cond t 3 2

move_number_lem : (t : Bool) → move_number t < 16
move_number_lem true = lit< tt
move_number_lem false = lit< tt

at_move : {A : Type 0} (t : Bool) (write up down transparent pattern keyed fill other : A) → by_blit (move_number t) write up down transparent pattern keyed fill other ≡ cond t down up
at_move true write up down transparent pattern keyed fill other = refl
at_move false write up down transparent pattern keyed fill other = refl

is_down : (t : Bool) → eqb (move_number t) 3 ≡ t
is_down true = refl
is_down false = refl

pub same : {A : Type 0} (t : Bool) (x : A) → cond t x x ≡ x
same true x = refl
same false x = refl

both_reach : (t a b a' b' : Bool) → cond t a a' ≡ true → cond t b b' ≡ true → cond t (a && b) (a' && b') ≡ true
both_reach true a b a' b' p q = rw (p, q) refl
both_reach false a b a' b' p q = rw (p, q) refl

module _ (m B : ℕ) (s : Screen) (c : Command) (d : Drawable m B s c) (e : c.operation ≡ 1) (t : Bool) (way : is_negative s c ≡ t) where
  abbrev on : Image
  on = surface_of s c

  abbrev regs : Registers
  regs = blit_registers_of s c

  value : command_value s c ≡ move_number t + 65536 * c.raster
  unfolding command_value
  value = ap (λ (k : ℕ). k + 65536 * c.raster) (by_move c.operation _ _ _ _ _ _ e ∙ ap (λ (u : Bool). cond u 3 2) way)

  op : operation regs ≡ move_number t
  op = operation_is m B s c d (move_number t) (move_number_lem t) value

  -- the cell of a table of the chip's operations
  cell : {A : Type 0} (write up down transparent pattern keyed fill other : A) → by_blit (operation regs) write up down transparent pattern keyed fill other ≡ cond t down up
  cell write up down transparent pattern keyed fill other =
      ap (λ (n : ℕ). by_blit n write up down transparent pattern keyed fill other) op ∙ at_move t write up down transparent pattern keyed fill other

  either_way : {A : Type 0} (write move transparent pattern keyed fill other : A) → by_blit (operation regs) write move move transparent pattern keyed fill other ≡ move
  either_way write move transparent pattern keyed fill other = cell write move move transparent pattern keyed fill other ∙ same t move

  can : startable regs ≡ true
  unfolding startable source_fits
  can = rw (either_way, source_whole m B s c d t way (inl e), destination_whole m B s c d t way) refl

  inside : within m regs ≡ true
  unfolding within
  inside = cell _ _ _ _ _ _ _ _ ∙ both_reach t _ _ _ _ (destination_reaches m B s c d t way) (source_reaches m B s c d t way (inl e))

  -- the move from the upper left pixels
  abbrev move : Blit
  move = over s c B (mix_of (Raster c.raster) B) (memory (source_corner m B s c d))

  order : ltb (source_corner m B s c d) (corner s c B) ≡ t
  unfolding is_negative source_of destination_of
  order =
      ap₂ ltb (sym (address_is s.depth B on c.sx c.sy d.deep)) (sym (address_is s.depth B on c.x c.y d.deep))
      ∙ sym (by_move c.operation _ _ _ _ _ _ e)
      ∙ way

  -- the registers' blit is the move as the chip is given it in its direction
  started_at : (u : Bool) → starting (towards u) move ≡ record { bytes = move.bytes; line = move.line; width = move.width; height = move.height; combine = move.combine; source = memory (source_corner m B s c d + shift m B s c d u); destination = corner s c B + shift m B s c d u }
  started_at true = refl
  started_at false =
      λ k. record { bytes = move.bytes; line = move.line; width = move.width; height = move.height; combine = move.combine; source = memory (none (source_corner m B s c d) k); destination = none (corner s c B) k }
    where
      none : (a : ℕ) → a ≡ a + 0
      none a = omega arith

  mix_is : mix_of (mix_by regs) (bytes_of regs) ≡ mix_of (Raster c.raster) B
  unfolding mix_by
  mix_is =
      ap (λ (x : Mix). mix_of x (bytes_of regs)) (either_way _ _ _ _ _ _ _)
      ∙ (λ k. mix_of (Raster (code_is m B s c d (move_number t) (move_number_lem t) value k)) (bytes_is m B s c d k))

  from_is : (bytes : ℕ) (old : List ℕ) → blit_source_of (from_by regs) bytes old ≡ memory (source_corner m B s c d + shift m B s c d t)
  unfolding from_by
  from_is bytes old = ap (λ (f : From). blit_source_of f bytes old) (either_way _ _ _ _ _ _ _) ∙ ap memory (source_is m B s c d t way (inl e))

  job_is : (old : List ℕ) → blit_of (job_of regs) (blit_source_of (job_of regs).from (job_of regs).bytes old) ≡ starting (towards t) move
  unfolding job_of blit_of
  job_is old =
      read_back m B s c d (mix_of (mix_by regs) (bytes_of regs)) (mix_of (Raster c.raster) B) (blit_source_of (from_by regs) (bytes_of regs) old) (memory (source_corner m B s c d + shift m B s c d t))
      (corner s c B + shift m B s c d t) mix_is (from_is (bytes_of regs) old) (destination_is m B s c d t way)
      ∙ sym (started_at t)

  down_is : (job_of regs).down ≡ t
  unfolding job_of
  down_is = ap (λ (n : ℕ). eqb n 3) op ∙ is_down t

  drawn : AtOnce m B s c d
  unfolding started
  drawn words old len =
      either_way old (performed (job_of regs) old) (performed (job_of regs) old) (performed (job_of regs) old) (performed (job_of regs) old) (performed (job_of regs) old) old
      ∙ ap₂ (λ (b : Blit) (u : Bool). chip_blit b (towards u) old) (job_is old) down_is
      ∙ ap (λ (u : Bool). chip_blit (starting (towards u) move) (towards u) old) (sym order)
      ∙ chip_is_painted move old (fits_over m B s c d (mix_of (Raster c.raster) B) (memory (source_corner m B s c d)) old len) (source_corner m B s c d) refl
      ∙ moved s c words old B d.deep d.size (room m B s c d) e

  pub move_starts : Starts m s c (move_number t) (AtOnce m B s c d)
  move_starts =
      record {
        fields = fields_of_lem m B s c d t way (move_number t) (move_number_lem t) value (source_fits_lem m B s c d t way (inl e));
        operation = op;
        startable = can;
        within = inside;
        does = drawn;
      }
