-- A whole panel line: demand 1's part of it, and what it shows beside demand 3 and, for the S1D13706, demand 2.
use Prim.Native.Nat.{ℕ, zero, suc, ◌<◌, max}
use mathlib.Core.Path.{◌≡◌, refl, sym, ap, ◌∙◌}
use mathlib.Core.List.{List, [], ◌∷◌}
use mathlib.Core.Bool.{not}
use lib.Dec.{eqb}
use lib.ListN.{length}
use Rattle.record.specs.Checks.{Row, row}
use Rattle.record.specs.Lists.{tabulate}
use Rattle.record.proofs.Checks.{Placeless, placeless, placeless_append}
use Rattle.record.proofs.Lists.{tabulate_below}
use Rattle.screen.specs.Screen.{memory_size}
use Rattle.screen.specs.declared.Screen.{Screen}
use Rattle.screen.specs.declared.ScreenValues.{ScreenValues}
use Rattle.screen.proofs.Accepted.{accepted}
use Rattle.reader.specs.Read.{Reading, read_rows, reading}
use Rattle.reader.specs.Line.{point_rows, line_rows}
use Rattle.reader.specs.declared.Display.{Display}
use Rattle.reader.proofs.Line.{number_line, numbered_line, line_reads, line_accepted}
use Rattle.command.specs.Task.{screen_in}
use Rattle.compiler.proofs.Accepted.{compiled_says}
use Rattle.chip.specs.Play.{playing, played}
use Rattle.older.specs.Bytes.{older_memory}
use Rattle.unit.specs.Sheet.{sheet_shows, sheet_after}
use Rattle.unit.specs.Point.{sheet_point, sheet_line}
use Rattle.unit.specs.Demands.{LineDemand1, LineShown, Demand3Line, OlderDemand2Line, stream_given, display_given, values_given, older_display}
use Rattle.unit.proofs.Tables.{read_placeless, decided}
use Rattle.unit.proofs.Demands.{demand_3, fine, older_demand_2}

-- ---- demand 1
points_placeless : (n : ℕ) (rows : ℕ → List Row) → ((p : ℕ) → Placeless (rows p)) → Placeless (point_rows n rows)
unfolding point_rows Placeless
points_placeless zero rows f = tt
points_placeless (suc n) rows f = placeless_append (rows 0) _ (f 0) (points_placeless n (λ p. rows (suc p)) (λ p. f (suc p)))

line_placeless : (m : ℕ) (d : Display) (v : ScreenValues) (q : ℕ) (memory : List ℕ) (room : ℕ) → Placeless (line_rows m d v q (length memory) room)
unfolding line_rows Placeless
line_placeless m d v q memory room =
    let rows : ℕ → List Row = λ p. read_rows m d v p q (length memory) in
    placeless_append (point_rows (max 1 d.width) rows) (row 17 (not (eqb room d.width)) ∷ [])
    (points_placeless (max 1 d.width) rows (λ p. read_placeless m d v p q memory)) (refl, tt)

pub line_demand_1 : (m : ℕ) → LineDemand1 m
line_demand_1 m =
    record {
      decided = λ d v q memory room.
          decided (number_line m d v q memory room)
          (sym (placeless (line_rows m d v q (length memory) room) (line_placeless m d v q memory room)))
          (numbered_line m d v q (length memory) room);
      reads = line_reads m;
    }

-- ---- what a line shows, in a memory of any size, where each point is the sheet's
module _ (m : ℕ) (d : Display) (v : ScreenValues) (memory : List ℕ) (s : Screen) (sheet : List ℕ) (q : ℕ) (line : List ℕ)
    (some : 0 < s.width) (wide : d.width ≡ s.width) (same : (p : ℕ) → p < s.width → reading m d v p q memory ≡ sheet_point s sheet p q)
    (len : length line ≡ s.width) where
  line_shown : LineShown m d v memory s sheet q line
  unfolding sheet_point sheet_line
  line_shown =
      let colour : (p : ℕ) → p < s.width → (reading m d v p q memory).colour ≡ sheet_shows s sheet p q = λ p h. ap (λ (r : Reading). r.colour) (same p h) in
      let r = line_accepted m d v q memory line (rw wide some) (λ p h. ap (λ (r : Reading). r.number) (same p (rw wide at h))) (len ∙ sym wide) in
      record {
        accepted = r.0;
        colours = r.1 ∙ ap (λ (n : ℕ). tabulate n (λ p. (reading m d v p q memory).colour)) wide ∙ tabulate_below s.width _ _ colour;
      }

pub demand_3_line : Demand3Line
demand_3_line t buffer memory line q below bytes len e hq hl =
    let known = (compiled_says memory_size t (length buffer) e).task in
    line_shown memory_size (display_given t buffer) (playing memory_size (stream_given t buffer) memory).values
    (played memory_size (stream_given t buffer) memory) (screen_in t) (sheet_after memory_size t memory) q line
    (accepted memory_size (screen_in t) known.fields).width refl
    (λ p hp. (demand_3 t buffer memory below bytes len e).same_points p q hp hq)
    hl

pub older_demand_2_line : OlderDemand2Line
older_demand_2_line t buffer memory line q bytes len e hq hl =
    line_shown older_memory (older_display t buffer) (values_given t buffer) memory (screen_in t) memory q line
    (accepted older_memory (screen_in t) (fine t buffer e).0).width refl
    (λ p hp. ((older_demand_2 t buffer e).reads memory bytes len p q hp hq).sheet)
    hl
