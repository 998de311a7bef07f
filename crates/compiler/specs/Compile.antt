-- Compiling (01, "Refusal numbers": compiling checks 1 to 11, then 12 to 15 command by command, then 16, 17).
use Rattle.std.specs.Prelude.{ℕ, ◌*◌, List, [], ◌∷◌, cond, length, Result, Ok, Err, ltb, eqb}
use Rattle.record.specs.Bytes.{over}
use Rattle.record.specs.Record.{stream_bytes}
use Rattle.record.specs.Checks.{Row, row, first_of, Refusal}
use Rattle.screen.specs.declared.Screen.{Screen}
use Rattle.command.specs.Task.{Task, screen_in, task_refusal, is_accepted}
use Rattle.compiler.specs.Stream.{records_in}
use Rattle.compiler.specs.declared.Compiled.{Compiled}
use Rattle.refusal.specs.Number as refusals
use Rattle.refusal.specs.declared.Refused.{Refused}

-- row 17: a stream buffer of `room` bytes that is shorter than the stream
unfoldable pub room_rows : Task → ℕ → List Row
room_rows t room = row 17 (ltb room (8 * length (records_in t))) ∷ []

-- the first refusal of a task with a stream buffer of `room` bytes, the memory being m bytes
unfoldable pub refusal_of : ℕ → Task → ℕ → Refusal
refusal_of m t room = cond (is_accepted m t) (record { number = first_of (room_rows t room); place = 0 }) (task_refusal m t)

-- what compiling gives back: number, place, the stream's length in bytes, depth, rotation and flag
pub record Compiling : Type 0 where
  pub number : ℕ
  pub place : ℕ
  pub length : ℕ
  pub depth : ℕ
  pub rotation : ℕ
  pub flag : ℕ

-- all other numbers of a refusal are 0
abbrev pub refused_by : ℕ → ℕ → Compiling
refused_by n i = record { number = n; place = i; length = 0; depth = 0; rotation = 0; flag = 0 }

-- the answer of a first refusal, or of a screen and its stream of so many bytes where there is none
abbrev pub answered : Refusal → Screen → ℕ → Compiling
answered r s size =
    cond (eqb r.number 0)
    (record { number = 0; place = 0; length = size; depth = s.depth; rotation = s.rotation; flag = s.flag })
    (refused_by r.number r.place)

unfoldable pub compiling : ℕ → Task → ℕ → Compiling
compiling m t room = answered (refusal_of m t room) (screen_in t) (8 * length (records_in t))

-- the stream's bytes
unfoldable pub stream_of : Task → List ℕ
stream_of t = stream_bytes (records_in t)

-- the buffer after an answer: the stream, and past it its old bytes; on refusal what it held
abbrev pub buffer_with : Compiling → List ℕ → List ℕ → List ℕ
buffer_with c stream old = cond (eqb c.number 0) (over stream old) old

unfoldable pub buffer_after : ℕ → Task → List ℕ → List ℕ
buffer_after m t old = buffer_with (compiling m t (length old)) (stream_of t) old

-- the numbers of an answer, whose refusals have these numbers and places: of a refusal all but number and place are 0
unfoldable pub compiling_by : {E : Type 0} → (E → ℕ) → (E → ℕ) → Result Compiled E → Compiling
compiling_by number_in place_in (Ok c) = record { number = 0; place = 0; length = c.length; depth = c.depth; rotation = c.rotation; flag = c.flag }
compiling_by number_in place_in (Err r) = record { number = number_in r; place = place_in r; length = 0; depth = 0; rotation = 0; flag = 0 }

-- 01's numbers of an answer
abbrev pub compiling_of : Result Compiled Refused → Compiling
compiling_of c = compiling_by refusals.refused_number refusals.refused_place c

-- the answer with these numbers
unfoldable pub answer_of : Compiling → Result Compiled Refused
answer_of c = refusals.answered_at c.number c.place (record { length = c.length; depth = c.depth; rotation = c.rotation; flag = c.flag })

-- the numbers in 01's order
unfoldable pub numbers_of : Compiling → List ℕ
numbers_of c = c.number ∷ c.place ∷ c.length ∷ c.depth ∷ c.rotation ∷ c.flag ∷ []
