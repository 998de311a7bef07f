-- A stream in small blocks, and its end (02, request a).
use Rattle.std.specs.Prelude.{ℕ, List, [], ◌∷◌, ◌++◌, not, cond, eqb, ltb, length}
use Rattle.record.specs.Checks.{Row, row, rows_at, first_of, first_place}
use Rattle.record.specs.Record.{record_at}
use Rattle.record.specs.declared.Record.{Record}
use Rattle.screen.specs.Values.{six_values, values_with}
use Rattle.chip.specs.Admit.{refusal, chip_after, effect}
use Rattle.chip.specs.Play.{Playing, refused_by}
use Rattle.serial.specs.State.{State, counted, between, held_by, state_of, place_by, player_of}
use Rattle.serial.specs.declared.Player.{Player}
use Rattle.serial.specs.declared.Answer.{Answer}
use Rattle.serial.specs.declared.Fed.{Fed}

-- a state, and the memory
pub record Stage : Type 0 where
  pub state : State
  pub memory : List ℕ

-- a whole record, in a memory of m bytes: it is taken, with its effect on the memory, or refused, and "memory keeps the work of all
-- records before the refused one"
unfoldable pub record_taken : ℕ → Stage → Record → Stage
record_taken m g r =
    let c = g.state.chip in
    let n = g.state.count in
    cond (eqb (refusal m c r) 0)
    (record { state = between (chip_after c r) (counted n); memory = effect c r g.memory })
    (record { state = record { chip = c; half = []; count = n; number = refusal m c r }; memory = g.memory })

-- a byte: once a record was refused it is dropped; else it goes to the half-read record, and the eighth makes that whole
unfoldable pub byte_taken : ℕ → Stage → ℕ → Stage
byte_taken m g b =
    let s = g.state in
    cond (not (eqb s.number 0)) g
    (cond (ltb (length s.half) 7)
    (record { state = record { chip = s.chip; half = s.half ++ (b ∷ []); count = s.count; number = 0 }; memory = g.memory })
    (record_taken m g (record_at (s.half ++ (b ∷ [])) 0)))

-- bytes, one after another
unfoldable pub bytes_taken : ℕ → Stage → List ℕ → Stage
bytes_taken m g [] = g
bytes_taken m g (b ∷ bs) = bytes_taken m (byte_taken m g b) bs

-- "memory of another size is 18, then a block over 64 bytes 32"
unfoldable pub block_rows : ℕ → List ℕ → List ℕ → List Row
block_rows m block memory = row 18 (not (eqb (length memory) m)) ∷ row 32 (ltb 64 (length block)) ∷ []

-- the player that keeps an answer with this number and place
unfoldable pub keeping : Player → ℕ → ℕ → Player
keeping p n i =
    record {
      values = p.values;
      blit = p.blit;
      due = p.due;
      line = p.line;
      word = p.word;
      half = p.half;
      held = p.held;
      count = p.count;
      kept = 1;
      number = n;
      place = i;
    }

-- the answer that a player keeps: of the end its six values, of a refusal number and place
unfoldable pub kept_by : Player → Playing
kept_by p =
    cond (eqb p.number 0) (record { number = 0; place = 0; values = values_with p.values })
    (refused_by p.number p.place)

-- what a call gives: its answer, and player and memory afterwards
pub record Feeding : Type 0 where
  pub answer : Playing
  pub player : Player
  pub memory : List ℕ

-- once the bytes of a block are taken: "a taken block is 0, other numbers 0"; a refused record gives its number and place
unfoldable pub fed_with : Stage → Feeding
fed_with g = record { answer = refused_by g.state.number (place_by g.state); player = player_of g.state; memory = g.memory }

-- a block: what is kept is repeated; 18 and 32 change nothing and are not kept; else its bytes are taken
unfoldable pub feeding : ℕ → Player → List ℕ → List ℕ → Feeding
feeding m p block memory =
    let n = first_of (block_rows m block memory) in
    cond (not (eqb p.kept 0)) (record { answer = kept_by p; player = p; memory = memory })
    (cond (not (eqb n 0)) (record { answer = refused_by n 0; player = p; memory = memory })
    (fed_with (bytes_taken m (record { state = state_of p; memory = memory }) block)))

-- "End of stream is its own call and gives 19 or 23, first that holds, else 0": 19 with a half-read record, 23 while data is due,
-- at the record count
unfoldable pub end_rows : Player → List Row
end_rows p = row 19 (not (eqb (held_by p) 0)) ∷ rows_at p.count (row 23 (not (eqb p.due 0)) ∷ [])

-- the player after the end: "calls after it repeat its answer", and so does an end after a refusal
unfoldable pub ended_player : Player → Player
ended_player p = cond (not (eqb p.kept 0)) p (keeping p (first_of (end_rows p)) (first_place (end_rows p)))

-- the end's answer is what the player then keeps
abbrev pub end_answer : Player → Playing
end_answer p = kept_by (ended_player p)

-- an answer's numbers, the six values in the stream's order
unfoldable pub answer_of : Playing → Answer
answer_of p = record { number = p.number; place = p.place; values = six_values p.values }

-- a player and an answer
unfoldable pub fed_of : Player → Playing → Fed
fed_of p a = record { player = p; answer = answer_of a }
