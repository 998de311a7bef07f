-- A write that is not refused: the chip starts it, and its words do to the memory what the sheet says.
use mathlib.Core.Path.{◌≡◌, refl, ap, ◌∙◌}
use mathlib.Core.Bool.{true, false}
use mathlib.Core.List.{List}
use Prim.Native.Nat.{ℕ, ◌+◌, ◌*◌}
use native.Mathlib.Omega.{arith}
use lib.Dec.{lit<}
use lib.ListN.{length}
use borrow.Author.Tests.{eq-eqb}
use Rattle.record.specs.Lists.{AllBelow}
use Rattle.screen.specs.declared.Screen.{Screen}
use Rattle.blit.specs.Blit.{Blit, given, positive, chip_blit}
use Rattle.blit.specs.Words.{host_pixel}
use Rattle.blit.specs.Job.{mix_of}
use Rattle.blit.specs.declared.Mix.TheVariants.{Raster}
use Rattle.blit.proofs.Direction.{given_is_painted}
use Rattle.chip.specs.Start.{operation, bytes_of, source_of, width_of, source_fits, startable, within, raster_code, write_of}
use Rattle.chip.specs.declared.Registers.{Registers}
use Rattle.command.specs.Values.{is_negative, command_value, source_value}
use Rattle.command.specs.declared.Command.{Command}
use Rattle.command.proofs.Operation.{by_write}
use Rattle.command.proofs.Values.{source_is as source_used}
use Rattle.unit.specs.Sheet.{sheet_command}
use Rattle.unit.proofs.Painted.{over, corner, written}
use Rattle.unit.proofs.Registers.{Drawable, blit_registers_of, Starts, bytes_is, width_is, operation_is, code_is, room, fits_over, destination_is, destination_whole, destination_reaches, fields_of_lem, read_back}

module _ (m B : ℕ) (s : Screen) (c : Command) (d : Drawable m B s c) (e : c.operation ≡ 2) where
  abbrev regs : Registers
  regs = blit_registers_of s c

  up : is_negative s c ≡ false
  unfolding is_negative
  up = by_write c.operation _ _ _ _ _ _ e

  value : command_value s c ≡ 0 + 65536 * c.raster
  unfolding command_value
  value = ap (λ (k : ℕ). k + 65536 * c.raster) (by_write c.operation _ _ _ _ _ _ e)

  no_source : source_value s c ≡ 0
  unfolding source_value
  no_source = by_write c.operation _ _ _ _ _ _ e

  op : operation regs ≡ 0
  op = operation_is m B s c d 0 (lit< tt) value

  from_none : source_of regs ≡ 0
  unfolding blit_registers_of
  from_none = rw (source_used s c, no_source) refl

  can : startable regs ≡ true
  unfolding startable source_fits
  can = rw (op, eq-eqb (source_of regs) 0 from_none, destination_whole m B s c d false up) refl

  inside : within m regs ≡ true
  unfolding within
  inside = rw op (destination_reaches m B s c d false up)

  mix_is : mix_of (Raster (raster_code regs)) (bytes_of regs) ≡ mix_of (Raster c.raster) B
  mix_is = λ t. mix_of (Raster (code_is m B s c d 0 (lit< tt) value t)) (bytes_is m B s c d t)

  -- what its words do, once they have all come
  abbrev pub ByWords : Type 0
  ByWords = (words old : List ℕ) → length old ≡ m → AllBelow 65536 words
      → chip_blit (write_of regs (host_pixel (bytes_of regs) (width_of regs) words)) positive old ≡ sheet_command s c words old

  drawn : ByWords
  unfolding write_of
  drawn words old len few =
      let mix = mix_of (Raster c.raster) B in
      let pixel = host_pixel B c.width words in
      ap (λ (b : Blit). chip_blit b positive old)
      (read_back m B s c d (mix_of (Raster (raster_code regs)) (bytes_of regs)) mix (given (host_pixel (bytes_of regs) (width_of regs) words)) (given pixel) (corner s c B) mix_is
      (λ t. given (host_pixel (bytes_is m B s c d t) (width_is m B s c d t) words))
      (destination_is m B s c d false up ∙ omega arith))
      ∙ given_is_painted (over s c B mix (given pixel)) old (fits_over m B s c d mix (given pixel) old len) pixel refl
      ∙ written s c words old B d.deep d.size (room m B s c d) e few

  pub write_starts : Starts m s c 0 ByWords
  write_starts =
      record { fields = fields_of_lem m B s c d false up 0 (lit< tt) value (rw no_source (omega arith)); operation = op; startable = can; within = inside; does = drawn }
