-- What request a) of 02 claims of a stream that is cut into blocks.
use Rattle.std.specs.Prelude.{ℕ, ◌/◌, ◌%◌, ◌≤◌, min, ◌≡◌, List, [], ◌∷◌, ◌++◌, cond, eqb, length}
use Rattle.record.specs.Checks.{first_of}
use Rattle.record.specs.Record.{records_of}
use Rattle.record.specs.declared.Record.{Record}
use Rattle.screen.specs.Screen.{memory_size}
use Rattle.chip.specs.Admit.{refusal, chip_after}
use Rattle.chip.specs.Play.{new_chip, run, applied, playing, played}
use Rattle.chip.specs.declared.Chip.{Chip}
use Rattle.serial.specs.State.{most_records, chip_of, new_player}
use Rattle.serial.specs.Serial.{block_rows, kept_by, feeding, ended_player, end_answer}
use Rattle.serial.specs.declared.Player.{Player}

-- the stream that blocks are cut from
unfoldable pub joined : List (List ℕ) → List ℕ
joined [] = []
joined (b ∷ bs) = b ++ joined bs

-- blocks of at most 64 bytes
unfoldable pub Small : List (List ℕ) → Type 0
Small [] = Unit {0}
Small (b ∷ bs) = (length b ≤ 64) × Small bs

-- a player and a memory
pub record Lent : Type 0 where
  pub player : Player
  pub memory : List ℕ

-- fed one block after another, "with memory lent on as each block left it"
unfoldable pub fed_all : ℕ → Player → List ℕ → List (List ℕ) → Lent
fed_all m p memory [] = record { player = p; memory = memory }
fed_all m p memory (b ∷ bs) = fed_all m (feeding m p b memory).player (feeding m p b memory).memory bs

-- the same from a new player
abbrev pub fed_new : List (List ℕ) → List ℕ → Lent
fed_new blocks memory = fed_all memory_size new_player memory blocks

-- the end's answer is the whole player's, with its number and place; and if that accepts, so are memory and registers
pub record AsWhole (blocks : List (List ℕ)) (memory : List ℕ) : Type 0 where
  pub answer : end_answer (fed_new blocks memory).player ≡ playing memory_size (joined blocks) memory
  pub same_memory : (playing memory_size (joined blocks) memory).number ≡ 0 → (fed_new blocks memory).memory ≡ played memory_size (joined blocks) memory
  pub same_registers : (playing memory_size (joined blocks) memory).number ≡ 0
      → chip_of (ended_player (fed_new blocks memory).player) ≡ (run memory_size new_chip 0 (records_of (joined blocks))).chip

-- "From a new state, with memory of 262,144 bytes lent on as each block left it, any cutting of whole records ends with the whole player's
-- number and place and, if that accepts, the same memory, registers and final answer"
abbrev pub Cutting : Type 0
Cutting =
    (blocks : List (List ℕ)) (memory : List ℕ) → length memory ≡ memory_size → Small blocks
    → length (joined blocks) % 8 ≡ 0 → length (joined blocks) / 8 ≤ most_records → AsWhole blocks memory

-- of more records than the count goes to: the number is still the whole player's, and the place the smaller of its place and the count's limit
abbrev pub CuttingPast : Type 0
CuttingPast =
    (blocks : List (List ℕ)) (memory : List ℕ) → length memory ≡ memory_size → Small blocks → length (joined blocks) % 8 ≡ 0
    → let whole = playing memory_size (joined blocks) memory in
    end_answer (fed_new blocks memory).player ≡ record { number = whole.number; place = min whole.place most_records; values = whole.values }

-- the records before the first that is refused
unfoldable pub before_refused : ℕ → Chip → List Record → List Record
before_refused m c [] = []
before_refused m c (r ∷ rs) = cond (eqb (refusal m c r) 0) (r ∷ before_refused m (chip_after c r) rs) []

-- "memory keeps the work of all records before the refused one", after any blocks
abbrev pub Work : Type 0
Work =
    (blocks : List (List ℕ)) (memory : List ℕ) → length memory ≡ memory_size → Small blocks
    → (fed_new blocks memory).memory ≡ applied new_chip (before_refused memory_size new_chip (records_of (joined blocks))) memory

-- "every later call repeats the same number and place", "calls after it repeat its answer": a player that keeps an answer gives it and stays as
-- it is, whatever it is given, and so does the memory; a refused record's answer, and the end's, are kept
pub record Repeats : Type 0 where
  pub block : (m : ℕ) (p : Player) (b memory : List ℕ) → (p.kept ≡ 0 → ⊥) → feeding m p b memory ≡ record { answer = kept_by p; player = p; memory = memory }
  pub end : (p : Player) → (p.kept ≡ 0 → ⊥) → (ended_player p ≡ p) × (end_answer p ≡ kept_by p)
  pub refused : (m : ℕ) (p : Player) (b memory : List ℕ) → first_of (block_rows m b memory) ≡ 0 → ((feeding m p b memory).answer.number ≡ 0 → ⊥)
      → ((feeding m p b memory).player.kept ≡ 0 → ⊥) × (kept_by (feeding m p b memory).player ≡ (feeding m p b memory).answer)
  pub ended : (p : Player) → ((ended_player p).kept ≡ 0 → ⊥)
