-- One law for each way out.
use mathlib.Core.Path.{◌≡◌, sym, ap, ◌∙◌}
use Prim.Native.Nat.{ℕ, ◌%◌, ◌/◌}
use native.Mathlib.Omega.{arith}
use mathlib.Core.List.{List}
use lib.ListN.{length}
use Rattle.std.specs.Prelude.{None, Some}
use Rattle.record.specs.Record.{records_of}
use Rattle.refusal.specs.Number.{number, number_at, place_at, Nowhere}
use Rattle.refusal.specs.declared.Refusal.{Refusal}
use Rattle.refusal.specs.declared.Refusal.TheVariants.{DataWord}
use Rattle.refusal.specs.declared.Refused.{Refused}
use Rattle.refusal.proofs.Numbers.{number_positive}
use Rattle.screen.specs.Screen.{memory_size}
use Rattle.chip.specs.Play.{new_chip, Running, run, running_of, applied, refused_by, ending, playing}
use Rattle.chip.specs.declared.Chip.{Chip}
use Rattle.chip.specs.declared.Run.{Run}
use Rattle.chip.proofs.Answers.{other_size, broken, whole, refuses, accepts, end_refused, end_due, end_accepted}
use Rattle.chip_code.proofs.play.Goals as goal

-- the answer is that of the run that `check` gives
ends :
    (s m : List ℕ) (r : Run) {x : Chip} → (length m ≡ memory_size) → (length s % 8 ≡ 0) → running_of r ≡ run memory_size x 0 (records_of s) → x ≡ new_chip
    → playing memory_size s m ≡ ending (running_of r) (length s / 8)
ends s m r p q e n = whole memory_size s m p q (running_of r) (e ∙ ap (λ (x : Chip). run memory_size x 0 (records_of s)) n)

-- number and place of a refusal that names no place
no_place : (e : Refusal) (r : Refused) → Nowhere e r → refused_by (number e) 0 ≡ refused_by (number r.refusal) r.place
no_place e r h = ap (λ (x : Refused). refused_by (number x.refusal) x.place) (sym h)

-- a run with a refusal, and without
refused_run : (r : Run) (e : Refused) (n : ℕ) → r.refused ≡ Some e → ending (running_of r) n ≡ refused_by (number e.refusal) e.place
unfolding running_of number_at place_at
refused_run r e n h =
    let p = number_positive e.refusal in
    let k : number_at r.refused ≡ number e.refusal = ap number_at h in
    end_refused (running_of r) n (λ z. omega (arith, p, k, z))
    ∙ (λ t. refused_by (k t) (ap place_at h t))

none_refused : (r : Run) → r.refused ≡ None → (running_of r).number ≡ 0
unfolding running_of number_at
none_refused r h = ap number_at h

pub returns-then-memory-ne-MEMORY_SIZE : goal.returns-then-memory-ne-MEMORY_SIZE
unfolding number
returns-then-memory-ne-MEMORY_SIZE c = let a = c.args in
    let t = refuses memory_size a.stream.now a.memory.now c.into.result
    (other_size memory_size a.stream.now a.memory.now c.if-memory-ne-MEMORY_SIZE.true ∙ no_place _ c.into.result c.into.ensures) in
    record { result_value = t.0; value = t.1.0; memory_after = t.1.1 }

pub returns-then-stream-ne0 : goal.returns-then-stream-ne0
unfolding number
returns-then-stream-ne0 c = let a = c.args in
    let t = refuses memory_size a.stream.now a.memory.now c.into-then-stream-ne0.result
    (broken memory_size a.stream.now a.memory.now c.if-memory-ne-MEMORY_SIZE.false c.if-stream-ne0.true ∙ no_place _ c.into-then-stream-ne0.result c.into-then-stream-ne0.ensures) in
    record { result_value = t.0; value = t.1.0; memory_after = t.1.1 }

pub returns-in-Some : goal.returns-in-Some
returns-in-Some c = let a = c.args in
    let t = refuses memory_size a.stream.now a.memory.now c.in-Some.refused
    (ends a.stream.now a.memory.now c.check-run.result c.if-memory-ne-MEMORY_SIZE.false c.if-stream-ne0.false c.check-run.ensures c.new_chip-start.ensures
    ∙ refused_run c.check-run.result c.in-Some.refused (length a.stream.now / 8) c.in-Some.is) in
    record { result_value = t.0; value = t.1.0; memory_after = t.1.1 }

pub returns-then-chip : goal.returns-then-chip
unfolding number running_of
returns-then-chip c = let a = c.args in
    let t = refuses memory_size a.stream.now a.memory.now (record { refusal = DataWord; place = length a.stream.now / 8 })
    (ends a.stream.now a.memory.now c.check-run.result c.if-memory-ne-MEMORY_SIZE.false c.if-stream-ne0.false c.check-run.ensures c.new_chip-start.ensures
    ∙ end_due (running_of c.check-run.result) (length a.stream.now / 8) (none_refused c.check-run.result c.in_default.is) c.if-chip.true) in
    record { result_value = t.0; value = t.1.0; memory_after = t.1.1 }

pub perform_all-requires : goal.perform_all-requires
unfolding records_of
perform_all-requires c =
    (omega arith, sym (ap (λ (r : Running). r.number) c.check-run.ensures) ∙ none_refused c.check-run.result c.in_default.is, c.if-memory-ne-MEMORY_SIZE.false)

pub returns : goal.returns
unfolding records_of running_of
returns c = let a = c.args in
    let drawn = c.perform_all.ensures ∙ ap (λ (x : Chip). applied x (records_of a.stream.now) a.memory.now) c.new_chip-start.ensures in
    let t = accepts memory_size a.stream.now a.memory.now c.check-run.result.chip.screen _ drawn
    (ends a.stream.now a.memory.now c.check-run.result c.if-memory-ne-MEMORY_SIZE.false c.if-stream-ne0.false c.check-run.ensures c.new_chip-start.ensures
    ∙ end_accepted (running_of c.check-run.result) (length a.stream.now / 8) (none_refused c.check-run.result c.in_default.is) c.if-chip.false) in
    record { result_value = t.0; value = t.1.0; memory_after = t.1.1 }
