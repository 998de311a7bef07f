-- Records as the code takes them: one after another, and words alone. Only contracts of functions that a caller does not see cite it.
use Rattle.std.specs.Prelude.{ℕ, ◌/◌, ◌%◌, List, [], ◌∷◌, Bool, ◌&&◌, cond, eqb, leb, ltb, length}
use Rattle.record.specs.Record.{records_of}
use Rattle.record.specs.declared.Record.{Record}
use Rattle.chip.specs.Words.{words_ahead, due_in_line}
use Rattle.chip.specs.declared.Chip.{Chip}
use Rattle.serial.specs.State.{between, held_by, chip_of}
use Rattle.serial.specs.Serial.{Stage, record_taken}
use Rattle.serial.specs.declared.Player.{Player}
use Rattle.serial.specs.declared.Taking.{Taking}

-- no record is half read, and none was refused
abbrev pub stage_at : Chip → ℕ → List ℕ → Stage
stage_at c n memory = record { state = between c n; memory = memory }

-- what records on the way are, with the memory
abbrev pub stage_of : Taking → List ℕ → Stage
stage_of t memory = record { state = record { chip = t.chip; half = []; count = t.count; number = t.number }; memory = memory }

-- records, up to the first that is refused
unfoldable pub records_taken : ℕ → Stage → List Record → Stage
records_taken m g [] = g
records_taken m g (r ∷ rs) = cond (eqb g.state.number 0) (records_taken m (record_taken m g r) rs) g

-- nothing is half read, and a block is whole records, all of them due words of one line
unfoldable pub words_alone : Player → List ℕ → Bool
words_alone p block =
    let n = length block / 8 in
    eqb (held_by p) 0
    && ((chip_of p).due.any
    && (eqb (length block % 8) 0
    && (ltb 0 n
    && (leb n (due_in_line p.blit (chip_of p).due)
    && eqb (words_ahead (records_of block)) n))))
