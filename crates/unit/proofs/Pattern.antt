-- A pattern fill that is not refused, with raster code or with key colour: the chip starts it, and does to the memory what the sheet says.
use mathlib.Core.Path.{◌≡◌, refl, sym, ap, ap₂, ◌∙◌}
use mathlib.Core.Bool.{Bool, true, false, cond}
use mathlib.Core.List.{List}
use mathlib.Core.Logic.{inl, inr}
use Prim.Native.Nat.{ℕ, zero, suc, ◌+◌, ◌*◌, ◌/◌, ◌%◌, ◌≤◌, ◌<◌}
use native.Mathlib.Omega.{arith}
use native.Mathlib.Nat.{mod-eq_of_lt}
use lib.Dec.{eqb, lit<}
use borrow.Author.Tests.{eq-eqb, le-leb}
use Rattle.screen.specs.declared.Screen.{Screen}
use Rattle.blit.specs.Blit.{Blit, given, chip_blit, towards}
use Rattle.blit.specs.Job.{mix_of, pattern_pixel, source_of as blit_source_of, blit_of, performed}
use Rattle.blit.specs.Rectangle.{painted}
use Rattle.blit.specs.declared.From.TheVariants.{Pattern}
use Rattle.blit.specs.declared.Mix.{Mix}
use Rattle.blit.specs.declared.Mix.TheVariants.{Raster, Key}
use Rattle.blit.proofs.Direction.{given_is_painted}
use Rattle.chip.specs.Start.{by_blit, operation, bytes_of, source_of, key_of, pattern_base, pattern_line, pattern_column, pattern_within, whole_at, source_fits, startable, within, raster_code, mix_by, from_by, job_of, started}
use Rattle.chip.specs.declared.Registers.{Registers}
use Rattle.command.specs.Command.{by_operation, pattern_size}
use Rattle.command.specs.Values.{is_negative, command_value, pattern_value, source_value}
use Rattle.command.specs.declared.Command.{Command}
use Rattle.command.proofs.Operation.{by_pattern, by_keyed}
use Rattle.command.proofs.Values.{source_is as source_used}
use Rattle.command.proofs.Fine.{Patterned, PatternIn}
use Rattle.unit.specs.Sheet.{sheet_command}
use Rattle.unit.proofs.Painted.{over, corner, pattern, hatched, keyed}
use Rattle.unit.proofs.Move.{same}
use Rattle.unit.proofs.Registers.{Drawable, blit_registers_of, Starts, AtOnce, bytes_bound, bytes_is, operation_is, key_is, code_is, room, fits_over, destination_is, destination_whole, destination_reaches, fields_of_lem, read_back}

-- without a key colour, or with one: the command's operation, and the chip's
abbrev pub pattern_operation : Bool → ℕ
pattern_operation k = cond k 4 3

abbrev pub pattern_number_lem : Bool → ℕ
pattern_number_lem k = cond k 7 6

pattern_number : (k : Bool) → pattern_number_lem k < 16
pattern_number true = lit< tt
pattern_number false = lit< tt

-- their cells of the tables
at_command : {A : Type 0} (n : ℕ) (k : Bool) (fill move write pattern keyed transparent : A) → n ≡ pattern_operation k
    → by_operation n fill move write pattern keyed transparent ≡ cond k keyed pattern
at_command n true fill move write pattern keyed transparent e = by_keyed n fill move write pattern keyed transparent e
at_command n false fill move write pattern keyed transparent e = by_pattern n fill move write pattern keyed transparent e

at_chip : {A : Type 0} (k : Bool) (write up down transparent pattern keyed fill other : A)
    → by_blit (pattern_number_lem k) write up down transparent pattern keyed fill other ≡ cond k keyed pattern
at_chip true write up down transparent pattern keyed fill other = refl
at_chip false write up down transparent pattern keyed fill other = refl

not_down : (k : Bool) → eqb (pattern_number_lem k) 3 ≡ false
not_down true = refl
not_down false = refl

-- 800Ch by its bits: the pattern's address, line v and column u, with B bytes to a pixel
pub record Bits (B p u v a : ℕ) : Type 0 where
  pub base : a / (64 * B) * (64 * B) ≡ p
  pub line : a / (8 * B) % 8 ≡ v
  pub column : a / B % 8 ≡ u
  pub whole : a % B ≡ 0

bits : (B p u v a : ℕ) → 0 < B → B ≤ 2 → p % (64 * B) ≡ 0 → u ≤ 7 → v ≤ 7 → a ≡ p + (8 * v + u) * B → Bits B p u v a
bits zero p u v a some few w hu hv e = absurd (omega arith)
bits (suc zero) p u v a some few w hu hv e = record { base = omega arith; line = omega arith; column = omega arith; whole = omega arith }
bits (suc (suc zero)) p u v a some few w hu hv e = record { base = omega arith; line = omega arith; column = omega arith; whole = omega arith }
bits (suc (suc (suc n))) p u v a some few w hu hv e = absurd (omega arith)

-- the last pixel of a pattern ends with it
last_pixel : (B u v : ℕ) → 0 < B → B ≤ 2 → u ≤ 7 → v ≤ 7 → (8 * v + u) * B + B ≤ 64 * B
last_pixel zero u v some few hu hv = absurd (omega arith)
last_pixel (suc zero) u v some few hu hv = omega arith
last_pixel (suc (suc zero)) u v some few hu hv = omega arith
last_pixel (suc (suc (suc n))) u v some few hu hv = absurd (omega arith)

module _ (m B : ℕ) (s : Screen) (c : Command) (d : Drawable m B s c) (k : Bool) (e : c.operation ≡ pattern_operation k) where
  abbrev regs : Registers
  regs = blit_registers_of s c

  patterned : Patterned c
  patterned = either k e
    where
      either : (t : Bool) → c.operation ≡ pattern_operation t → Patterned c
      either true h = inr h
      either false h = inl h

  fits : PatternIn m s c
  fits = d.pattern patterned

  size_is : pattern_size s.depth ≡ 64 * B
  size_is = omega (arith, d.deep)

  up : is_negative s c ≡ false
  unfolding is_negative
  up = at_command c.operation k _ _ _ _ _ _ e ∙ same k false

  value : command_value s c ≡ pattern_number_lem k + 65536 * c.raster
  unfolding command_value
  value = ap (λ (n : ℕ). n + 65536 * c.raster) (at_command c.operation k _ _ _ _ _ _ e)

  op : operation regs ≡ pattern_number_lem k
  op = operation_is m B s c d (pattern_number_lem k) (pattern_number k) value

  -- the cell of a table of the chip's operations
  cell : {A : Type 0} (write up down transparent pattern keyed fill other : A) → by_blit (operation regs) write up down transparent pattern keyed fill other ≡ cond k keyed pattern
  cell write up down transparent pattern keyed fill other =
      ap (λ (n : ℕ). by_blit n write up down transparent pattern keyed fill other) op ∙ at_chip k write up down transparent pattern keyed fill other

  either_way : {A : Type 0} (write up down transparent x fill other : A) → by_blit (operation regs) write up down transparent x x fill other ≡ x
  either_way write up down transparent x fill other = cell write up down transparent x x fill other ∙ same k x

  -- ---- 800Ch
  source_value_lem : source_value s c ≡ c.pattern + (8 * c.py + c.px) * B
  unfolding source_value pattern_value
  source_value_lem = at_command c.operation k _ _ _ _ _ _ e ∙ same k _ ∙ omega (arith, ap (λ (n : ℕ). (8 * c.py + c.px) * n) d.deep)

  source_fits_lem : source_value s c ≤ 0x3FFFF
  source_fits_lem =
      omega (arith, source_value_lem, last_pixel B c.px c.py (bytes_bound m B s c d).0 (bytes_bound m B s c d).1 fits.column fits.line, fits.ends, size_is, d.small, (bytes_bound m B s c d).0)

  source_is : source_of regs ≡ c.pattern + (8 * c.py + c.px) * B
  unfolding blit_registers_of
  source_is = ap (λ (n : ℕ). n % 262144) (source_used s c) ∙ mod-eq_of_lt (omega (arith, source_fits_lem)) ∙ source_value_lem

  read : Bits B c.pattern c.px c.py (source_of regs)
  read =
      bits B c.pattern c.px c.py (source_of regs) (bytes_bound m B s c d).0 (bytes_bound m B s c d).1
      (sym (ap (λ (n : ℕ). c.pattern % n) size_is) ∙ fits.whole) fits.column fits.line source_is

  base_is : pattern_base regs ≡ c.pattern
  base_is = ap (λ (n : ℕ). source_of regs / (64 * n) * (64 * n)) (bytes_is m B s c d) ∙ read.base

  line_is : pattern_line regs ≡ c.py
  line_is = ap (λ (n : ℕ). source_of regs / (8 * n) % 8) (bytes_is m B s c d) ∙ read.line

  column_is : pattern_column regs ≡ c.px
  column_is = ap (λ (n : ℕ). source_of regs / n % 8) (bytes_is m B s c d) ∙ read.column

  source_whole : whole_at regs (source_of regs) ≡ true
  source_whole = eq-eqb (source_of regs % bytes_of regs) 0 (ap (λ (n : ℕ). source_of regs % n) (bytes_is m B s c d) ∙ read.whole)

  pattern_reaches : pattern_within m regs ≡ true
  pattern_reaches = le-leb (pattern_base regs + 64 * bytes_of regs) m (omega (arith, base_is, bytes_is m B s c d, fits.ends, size_is))

  can : startable regs ≡ true
  unfolding startable source_fits
  can = rw (either_way, source_whole, destination_whole m B s c d false up) refl

  inside : within m regs ≡ true
  unfolding within
  inside = either_way _ _ _ _ _ _ _ ∙ rw (destination_reaches m B s c d false up, pattern_reaches) refl

  -- ---- the blit
  abbrev pub mixed : Bool → Mix
  mixed t = cond t (Key c.key) (Raster c.raster)

  mix_is : mix_by regs ≡ mixed k
  unfolding mix_by
  mix_is = cell _ _ _ _ _ _ _ _ ∙ either k refl
    where
      either : (t : Bool) → k ≡ t → cond t (Key (key_of regs)) (Raster (raster_code regs)) ≡ mixed t
      either true h = ap (λ (n : ℕ). Key n) (key_is m B s c d (inl (e ∙ ap pattern_operation h)))
      either false h = ap (λ (n : ℕ). Raster n) (code_is m B s c d (pattern_number_lem k) (pattern_number k) value)

  from_is : from_by regs ≡ Pattern c.pattern c.px c.py
  unfolding from_by
  from_is = either_way _ _ _ _ _ _ _ ∙ (λ t. Pattern (base_is t) (column_is t) (line_is t))

  down_is : (job_of regs).down ≡ false
  unfolding job_of
  down_is = ap (λ (n : ℕ). eqb n 3) op ∙ not_down k

  job_is : (old : List ℕ) → blit_of (job_of regs) (blit_source_of (job_of regs).from (job_of regs).bytes old)
      ≡ over s c B (mix_of (mixed k) B) (given (λ i j. pattern_pixel B old c.pattern (c.px + i) (c.py + j)))
  unfolding job_of blit_of
  job_is old =
      read_back m B s c d (mix_of (mix_by regs) (bytes_of regs)) (mix_of (mixed k) B) (blit_source_of (from_by regs) (bytes_of regs) old)
      (given (λ i j. pattern_pixel B old c.pattern (c.px + i) (c.py + j))) (corner s c B)
      (λ t. mix_of (mix_is t) (bytes_is m B s c d t)) (λ t. blit_source_of (from_is t) (bytes_is m B s c d t) old)
      (destination_is m B s c d false up ∙ omega arith)

  drawn : AtOnce m B s c d
  unfolding started
  drawn words old len =
      let f = mix_of (mixed k) B in
      let source = given (λ i j. pattern_pixel B old c.pattern (c.px + i) (c.py + j)) in
      either_way old (performed (job_of regs) old) (performed (job_of regs) old) (performed (job_of regs) old) (performed (job_of regs) old) (performed (job_of regs) old) old
      ∙ ap₂ (λ (b : Blit) (t : Bool). chip_blit b (towards t) old) (job_is old) down_is
      ∙ given_is_painted (over s c B f source) old (fits_over m B s c d f source old len) (λ i j. pattern_pixel B old c.pattern (c.px + i) (c.py + j)) refl
      ∙ either k e
    where
      either : (t : Bool) → c.operation ≡ pattern_operation t
          → painted (over s c B (mix_of (mixed t) B) (given (λ i j. pattern_pixel B old c.pattern (c.px + i) (c.py + j)))) old ≡ sheet_command s c words old
      either true h = keyed s c words old B d.deep d.size (room m B s c d) h
      either false h = hatched s c words old B d.deep d.size (room m B s c d) h

  pub pattern_starts : Starts m s c (pattern_number_lem k) (AtOnce m B s c d)
  pattern_starts =
      record { fields = fields_of_lem m B s c d false up (pattern_number_lem k) (pattern_number k) value source_fits_lem; operation = op; startable = can; within = inside; does = drawn }
