-- A fill that is not refused: the chip starts it, and does to the memory what the sheet says.
use mathlib.Core.Path.{◌≡◌, refl, ap, ◌∙◌}
use mathlib.Core.Bool.{true, false}
use Prim.Native.Nat.{ℕ, ◌+◌, ◌*◌, ◌≤◌}
use native.Mathlib.Omega.{arith}
use lib.Dec.{lit<}
use borrow.Author.Tests.{eq-eqb}
use Rattle.screen.specs.declared.Screen.{Screen}
use Rattle.blit.specs.Blit.{Blit, given, positive, chip_blit}
use Rattle.blit.specs.Job.{mix_of, blit_of}
use Rattle.blit.specs.declared.Mix.TheVariants.{Store}
use Rattle.blit.proofs.Direction.{given_is_painted}
use Rattle.chip.specs.Start.{operation, bytes_of, foreground_of, source_fits, startable, within, mix_by, from_by, job_of, started}
use Rattle.chip.specs.declared.Registers.{Registers}
use Rattle.command.specs.Command.{surface_of, address_of, source_of}
use Rattle.command.specs.Values.{is_negative, pattern_value, last_column, last_line, command_value, source_value}
use Rattle.command.specs.declared.Command.{Command}
use Rattle.command.proofs.Operation.{by_fill}
use Rattle.unit.proofs.Painted.{over, corner, filled}
use Rattle.unit.proofs.Registers.{Drawable, blit_registers_of, Starts, AtOnce, operation_is, room, fits_over, destination_is, destination_whole, destination_reaches, fields_of_lem, read_back}

module _ (m B : ℕ) (s : Screen) (c : Command) (d : Drawable m B s c) (e : c.operation ≡ 0) where
  abbrev regs : Registers
  regs = blit_registers_of s c

  up : is_negative s c ≡ false
  unfolding is_negative
  up = by_fill c.operation _ _ _ _ _ _ e

  value : command_value s c ≡ 12 + 65536 * c.raster
  unfolding command_value
  value = ap (λ (k : ℕ). k + 65536 * c.raster) (by_fill c.operation _ _ _ _ _ _ e)

  no_source : source_value s c ≤ 0x3FFFF
  unfolding source_value
  no_source = rw (by_fill c.operation 0 (address_of s.depth (surface_of s c) (c.sx + last_column s c) (c.sy + last_line s c)) 0 (pattern_value s c) (pattern_value s c) (source_of s c) e) (omega arith)

  op : operation regs ≡ 12
  op = operation_is m B s c d 12 (lit< tt) value

  foreground_is : foreground_of regs ≡ c.colour
  unfolding blit_registers_of
  foreground_is = rw (eq-eqb c.operation 0 e) (omega (arith, d.colour))

  can : startable regs ≡ true
  unfolding startable source_fits
  can = rw (op, destination_whole m B s c d false up) refl

  inside : within m regs ≡ true
  unfolding within
  inside = rw op (destination_reaches m B s c d false up)

  drawn : AtOnce m B s c d
  unfolding started job_of blit_of mix_by from_by
  drawn words old len =
      let colour : ℕ → ℕ → ℕ = λ i j. c.colour in
      rw op
      (ap (λ (b : Blit). chip_blit b positive old)
      (read_back m B s c d (mix_of Store (bytes_of regs)) (mix_of Store B) (given (λ i j. foreground_of regs)) (given colour) (corner s c B) refl (λ t. given (λ i j. foreground_is t))
      (destination_is m B s c d false up ∙ omega arith))
      ∙ given_is_painted (over s c B (mix_of Store B) (given colour)) old (fits_over m B s c d (mix_of Store B) (given colour) old len) colour refl
      ∙ filled s c words old B d.deep d.size (room m B s c d) e)

  pub fill_starts : Starts m s c 12 (AtOnce m B s c d)
  fill_starts = record { fields = fields_of_lem m B s c d false up 12 (lit< tt) value no_source; operation = op; startable = can; within = inside; does = drawn }
