-- The screen values that playing and drawing give lie in their fields, and so fit 32 bits; a reading's address lies in the memory.
use Prim.Native.Nat.{ℕ, ◌/◌, ◌%◌, ◌^◌, ◌<◌, ◌≤◌}
use mathlib.Core.Path.{◌≡◌, sym, ap, subst}
use mathlib.Core.List.{List}
use mathlib.Core.Bool.{not}
use native.Mathlib.Omega.{arith}
use lib.Dec.{eqb}
use lib.ListN.{length}
use borrow.Author.Tests.{eqb-true, leb-true}
use Rattle.record.specs.Record.{records_of}
use Rattle.record.proofs.Choice.{both_ways}
use Rattle.record.specs.declared.Record.{Record}
use Rattle.screen.specs.Screen.{memory_size}
use Rattle.screen.specs.declared.ScreenValues.{ScreenValues}
use Rattle.screen.specs.Narrow.{Narrow}
use Rattle.screen.proofs.Fits.{EdgesFit, InFields, edges_say, values_fit_lem}
use Rattle.chip.specs.Register.{fits}
use Rattle.chip.specs.Play.{no_values, new_chip, run, Playing, Running, ending, playing, playing_of}
use Rattle.chip.specs.declared.Chip.{Chip}
use Rattle.std.specs.Prelude.{Result}
use Rattle.refusal.specs.declared.Refusal.{Refusal}
use Rattle.refusal.specs.declared.Refused.{Refused}
use Rattle.chip.proofs.Screens.{Each, each_run}
use Rattle.reader.specs.Read.{Reading, reading, reading_of}
use Rattle.reader.specs.declared.Display.{Display}
use Rattle.reader.specs.declared.Point.{Point}
use Rattle.reader.proofs.Answer.{address_within}
use Rattle.command.specs.Task.{Task, screen_in}
use Rattle.compiler.specs.Compile.{compiling}
use Rattle.compiler.proofs.Accepted.{compiled_says}
use Rattle.unit.specs.Draw.{Drawing, drawing, drawing_of}
use Rattle.unit.specs.declared.Drawn.{Drawn}

narrow : (v : ScreenValues) → InFields v → Narrow v
narrow v f =
    record {
      main_start = omega (arith, f.main.start);
      main_offset = omega (arith, f.main.offset);
      window_start = omega (arith, f.window.start);
      window_offset = omega (arith, f.window.offset);
      x = omega (arith, f.x.end);
      y = omega (arith, f.y.end);
    }

nothing_fits : InFields no_values
nothing_fits =
    record {
      main = record { start = omega arith; offset = omega arith };
      window = record { start = omega arith; offset = omega arith };
      x = record { start = omega arith; end = omega arith };
      y = record { start = omega arith; end = omega arith };
    }

-- ---- a stream
abbrev FieldsFit : ScreenValues → Type 0
FieldsFit = Each (λ (v : ℕ). v < 65536) (λ (v : ℕ). v < 1024) EdgesFit

each_fits : (v : ScreenValues) → InFields v → FieldsFit v
each_fits v f =
    record {
      main_start = f.main.start;
      main_offset = f.main.offset;
      window_start = f.window.start;
      window_offset = f.window.offset;
      x = f.x;
      y = f.y;
    }

run_fits : (m : ℕ) (c : Chip) (i : ℕ) (rs : List Record) → InFields c.screen → InFields (run m c i rs).chip.screen
unfolding fits
run_fits m c i rs f =
    let e : FieldsFit (run m c i rs).chip.screen =
    each_run (λ (v : ℕ). v < 65536) (λ (v : ℕ). v < 1024) EdgesFit (λ v e. omega (arith, leb-true v 0xFFFF e)) (λ v e. omega (arith, leb-true v 0x3FF e)) edges_say m c i rs
    (each_fits c.screen f) in
    record {
      main = record { start = e.main_start; offset = e.main_offset };
      window = record { start = e.window_start; offset = e.window_offset };
      x = e.x;
      y = e.y;
    }

new_fits : InFields new_chip.screen
unfolding new_chip
new_fits = nothing_fits

abbrev Fine : Playing → Type 0
Fine p = InFields p.values

ending_fits : (r : Running) (n : ℕ) → InFields r.chip.screen → Fine (ending r n)
unfolding ending
ending_fits r n f =
    both_ways Fine (not (eqb r.number 0)) _ _ (λ t. nothing_fits)
    (λ t. both_ways Fine r.chip.due.any _ _ (λ u. nothing_fits) (λ u. f))

playing_fits : (m : ℕ) (stream memory : List ℕ) → InFields (playing m stream memory).values
unfolding playing
playing_fits m stream memory =
    both_ways Fine (not (eqb (length memory) m)) _ _ (λ t. nothing_fits)
    (λ t. both_ways Fine (not (eqb (length stream % 8) 0)) _ _ (λ u. nothing_fits)
    (λ u. ending_fits (run m new_chip 0 (records_of stream)) (length stream / 8) (run_fits m new_chip 0 (records_of stream) new_fits)))

pub play_narrow : (a : Result ScreenValues Refused) (m : ℕ) (stream memory : List ℕ) → playing_of a ≡ playing m stream memory → Narrow (playing_of a).values
play_narrow a m stream memory e = narrow (playing_of a).values (subst Fine (sym e) (playing_fits m stream memory))

-- ---- a point
pub read_narrow : (a : Result Point Refusal) (m : ℕ) (d : Display) (v : ScreenValues) (p q : ℕ) (memory : List ℕ) → m < 2 ^ 32
    → reading_of a ≡ reading m d v p q memory → (reading_of a).address < 2 ^ 32
read_narrow a m d v p q memory small e =
    omega (arith, ap (λ (r : Reading). r.address) e, address_within m d v p q memory)

-- ---- drawing
abbrev FineDrawn : Drawing → Type 0
FineDrawn d = InFields d.values

drawing_fits : (m : ℕ) → m ≤ 262144 → (t : Task) (room : ℕ) (memory : List ℕ) → InFields (drawing m t room memory).values
unfolding drawing
drawing_fits m small t room memory =
    both_ways FineDrawn (not (eqb (length memory) m)) _ _ (λ e. nothing_fits)
    (λ e. both_ways FineDrawn (eqb (compiling m t room).number 0) _ _
    (λ u.
    let a = (compiled_says m t room (eqb-true _ 0 u)).task in
    values_fit_lem m (screen_in t) small a.fields a.flag)
    (λ u. nothing_fits))

pub draw_narrow : (a : Result Drawn Refused) (t : Task) (room : ℕ) (memory : List ℕ) → drawing_of a ≡ drawing memory_size t room memory → Narrow (drawing_of a).values
draw_narrow a t room memory e = narrow (drawing_of a).values (subst FineDrawn (sym e) (drawing_fits memory_size (omega arith) t room memory))
