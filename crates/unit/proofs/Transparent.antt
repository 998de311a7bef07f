-- A transparent move that is not refused: the chip starts it, and does to the memory what the sheet says. It goes in positive direction, so that
-- its source is read in time where the destination address is not greater, and where the two share no byte.
use mathlib.Core.Path.{◌≡◌, refl, sym, ap, ap₂, ◌∙◌}
use mathlib.Core.Bool.{Bool, true, false, true≢false}
use mathlib.Core.List.{List}
use mathlib.Core.Logic.{inr, ⊎_elim}
use Prim.Native.Nat.{ℕ, ◌+◌, ◌*◌}
use native.Mathlib.Omega.{arith}
use lib.Dec.{eqb, lit<}
use Rattle.screen.specs.Image.{line_bytes}
use Rattle.screen.specs.declared.Image.{Image}
use Rattle.screen.specs.declared.Screen.{Screen}
use Rattle.blit.specs.Blit.{Blit, memory, chip_blit, towards}
use Rattle.blit.specs.Job.{mix_of, source_of as blit_source_of, blit_of}
use Rattle.blit.specs.Rectangle.{inside}
use Rattle.blit.specs.declared.Mix.TheVariants.{Key}
use Rattle.blit.proofs.Direction.{OfSource, Ahead, ahead_of, apart, positive_is_painted}
use Rattle.blit.proofs.Runs.{step_fits}
use Rattle.chip.specs.Start.{operation, bytes_of, key_of, source_fits, startable, within, mix_by, from_by, job_of, started}
use Rattle.chip.specs.declared.Registers.{Registers}
use Rattle.command.specs.Command.{surface_of, destination_of, source_of, rectangle_at}
use Rattle.command.specs.Sharing.{share_byte, Holds}
use Rattle.command.specs.Values.{is_negative, command_value}
use Rattle.command.specs.declared.Command.{Command}
use Rattle.command.proofs.Operation.{by_transparent}
use Rattle.command.proofs.Sharing.{shares_exactly}
use Rattle.unit.proofs.Rectangles.{Frame, At, from_own}
use Rattle.unit.proofs.Painted.{over, corner, seen}
use Rattle.unit.proofs.Registers.{Drawable, blit_registers_of, Starts, AtOnce, address_is, bytes_bound, bytes_is, operation_is, key_is, source_corner, room, fits_over, destination_is, destination_whole, destination_reaches, source_is, source_whole, source_reaches, source_fits_lem, fields_of_lem, read_back}

module _ (m B : ℕ) (s : Screen) (c : Command) (d : Drawable m B s c) (e : c.operation ≡ 5) where
  abbrev on : Image
  on = surface_of s c

  abbrev regs : Registers
  regs = blit_registers_of s c

  abbrev from : ℕ
  from = source_corner m B s c d

  abbrev move : Blit
  move = over s c B (mix_of (Key c.key) B) (memory from)

  up : is_negative s c ≡ false
  unfolding is_negative
  up = by_transparent c.operation _ _ _ _ _ _ e

  value : command_value s c ≡ 5 + 65536 * c.raster
  unfolding command_value
  value = ap (λ (n : ℕ). n + 65536 * c.raster) (by_transparent c.operation _ _ _ _ _ _ e)

  op : operation regs ≡ 5
  op = operation_is m B s c d 5 (lit< tt) value

  can : startable regs ≡ true
  unfolding startable source_fits
  can = rw (op, source_whole m B s c d false up (inr e), destination_whole m B s c d false up) refl

  in_memory : within m regs ≡ true
  unfolding within
  in_memory = rw op (rw (destination_reaches m B s c d false up, source_reaches m B s c d false up (inr e)) refl)

  -- ---- the source is read in time
  abbrev frame : Frame
  frame = record { base = on.base; line = on.line; bytes = B; x = c.x; y = c.y; width = c.width; height = c.height }

  destination_at : destination_of s c ≡ corner s c B
  unfolding destination_of
  destination_at = address_is s.depth B on c.x c.y d.deep

  source_at : source_of s c ≡ from
  unfolding source_of
  source_at = address_is s.depth B on c.sx c.sy d.deep

  line_size : line_bytes s.depth c.width ≡ c.width * B
  line_size = omega (arith, ap (λ (n : ℕ). c.width * n) d.deep)

  -- a byte of the destination, and one of a source pixel
  to_holds : (a : ℕ) → At frame a → Holds (rectangle_at s c (destination_of s c)) a
  to_holds a p =
      record {
        j = p.j;
        in_lines = p.line;
        from = omega (arith, p.is, destination_at);
        below = omega (arith, p.is, destination_at, line_size, p.lane, step_fits B p.i c.width p.column);
      }

  from_holds : (i j a : ℕ) → OfSource move from i j a → Holds (rectangle_at s c (source_of s c)) a
  from_holds i j a o =
      record {
        j = j;
        in_lines = o.1;
        from = omega (arith, o.2, source_at);
        below = omega (arith, o.3, source_at, line_size, step_fits B i c.width o.0);
      }

  unshared : share_byte (rectangle_at s c (source_of s c)) (rectangle_at s c (destination_of s c)) ≡ false → (i j a : ℕ) → OfSource move from i j a → inside move a ≡ false
  unfolding inside
  unshared none i j a o = by_test (inside move a) refl
    where
      by_test : (t : Bool) → inside move a ≡ t → t ≡ false
      by_test true h =
          absurd
          (true≢false
          (sym ((shares_exactly (rectangle_at s c (source_of s c)) (rectangle_at s c (destination_of s c))).1
          (record { a = a; first = from_holds i j a o; second = to_holds a (from_own frame a (bytes_bound m B s c d).0 (room m B s c d) h) }))
          ∙ none))
      by_test false h = refl

  in_time : Ahead move (memory from)
  in_time =
      ⊎_elim
      (λ p. ahead_of move from (omega (arith, p, destination_at, source_at)))
      (λ p. apart move from (unshared p))
      (d.source_apart e)

  -- ---- what it does
  job_is : (old : List ℕ) → blit_of (job_of regs) (blit_source_of (job_of regs).from (job_of regs).bytes old) ≡ move
  unfolding job_of blit_of mix_by from_by
  job_is old =
      rw op
      (read_back m B s c d (mix_of (Key (key_of regs)) (bytes_of regs)) (mix_of (Key c.key) B) (memory _) (memory from) (corner s c B)
      (λ t. mix_of (Key (key_is m B s c d (inr e) t)) (bytes_is m B s c d t)) (ap memory (source_is m B s c d false up (inr e) ∙ omega arith))
      (destination_is m B s c d false up ∙ omega arith))

  down_is : (job_of regs).down ≡ false
  unfolding job_of
  down_is = ap (λ (n : ℕ). eqb n 3) op

  drawn : AtOnce m B s c d
  unfolding started
  drawn words old len =
      rw op
      (ap₂ (λ (b : Blit) (t : Bool). chip_blit b (towards t) old) (job_is old) down_is
      ∙ positive_is_painted move old (fits_over m B s c d (mix_of (Key c.key) B) (memory from) old len) in_time
      ∙ seen s c words old B d.deep d.size (room m B s c d) e)

  pub transparent_starts : Starts m s c 5 (AtOnce m B s c d)
  transparent_starts =
      record {
        fields = fields_of_lem m B s c d false up 5 (lit< tt) value (source_fits_lem m B s c d false up (inr e));
        operation = op;
        startable = can;
        within = in_memory;
        does = drawn;
      }
