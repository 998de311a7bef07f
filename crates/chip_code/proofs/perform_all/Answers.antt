use mathlib.Core.Path.{◌≡◌, refl, sym, ap, ◌∙◌}
use mathlib.Core.List.{List}
use Prim.Native.Nat.{ℕ, ◌+◌, ◌-◌, ◌≤◌}
use native.Mathlib.Nat.{sub-zero}
use native.Mathlib.Omega.{arith}
use Rattle.record.specs.Record.{record_at, records_from}
use Rattle.record.specs.declared.Record.{Record}
use Rattle.record.proofs.Records.{records_end}
use Rattle.screen.specs.Screen.{memory_size}
use Rattle.chip.specs.Admit.{is_data, refusal, chip_after, effect}
use Rattle.chip.specs.Play.{run, applied}
use Rattle.chip.specs.Words.{due_in_line}
use Rattle.chip.specs.declared.Chip.{Chip}
use Rattle.chip.specs.declared.Registers.{Registers}
use Rattle.chip.specs.declared.Due.{Due}
use Rattle.chip.specs.Play.{Running}
use Rattle.chip.proofs.Dues.{due_at}
use Rattle.chip.proofs.Runs.{applied_end, applied_next, admitted_next}
use Rattle.chip.proofs.Words.{Taken, admitted_data, admitted_run, run_words, applied_words}
use mathlib.Core.Bool.{true}
use borrow.Author.Tests.{eq-eqb, ne_eqb}
use Rattle.chip_code.proofs.perform_all.Goals as goal

-- as many as are due of the line, which does not look at whether any is
few_due : (b : Registers) (d : Due) {k : ℕ} → k ≤ due_in_line b (due_at d.line d.word) → k ≤ due_in_line b d
unfolding due_in_line
few_due b d h = h

pub loop-i-init : goal.loop-i-init
loop-i-init c = let a = c.args in (
  omega arith,
  (λ t. applied a.start (records_from a.stream.now 0 (sym (sub-zero a.count) t)) a.memory.now),
  (λ t. (run memory_size a.start 0 (records_from a.stream.now 0 (sub-zero a.count t))).number) ∙ c.requires.1,
  refl,
)

pub record_at-r-requires : goal.record_at-r-requires
record_at-r-requires c = omega (arith, c.requires.0)

pub overflow_sub-count : goal.overflow_sub-count
overflow_sub-count c = omega arith

pub write_line-requires : goal.write_line-requires
write_line-requires c = (omega arith, omega arith)

pub line_after-chip-requires : goal.line_after-chip-requires
line_after-chip-requires c = (omega arith, few_due _ _ (omega arith))

pub overflow_add-i : goal.overflow_add-i
overflow_add-i c = omega arith

pub loop-i-smaller-then-r-eq65536 : goal.loop-i-smaller-then-r-eq65536
loop-i-smaller-then-r-eq65536 c = omega arith

pub loop-i-preserved-then-r-eq65536 : goal.loop-i-preserved-then-r-eq65536
loop-i-preserved-then-r-eq65536 c = let a = c.args in
    let s = a.stream.now in
    let n = a.count in
    let l = c.loop-i in
    let k = c.min-n.result in
    let any : l.chip.due.any ≡ true =
    admitted_data memory_size l.chip (record_at s l.i) (ap is_data (sym c.record_at-r.ensures) ∙ eq-eqb _ _ c.if-r-eq65536.true)
    (admitted_next memory_size l.chip s l.i n (omega arith) l.invariant.2).0 in
    let few : k ≤ due_in_line l.chip.blit l.chip.due = few_due _ _ (omega arith) in
    let w : Taken l.chip s l.i n k = admitted_run memory_size l.chip s l.i n k any (omega arith) few l.invariant.2 in (
      omega arith,
      l.invariant.1 ∙ applied_words l.chip s l.i n k l.memory w few
          ∙ (λ t. applied (sym c.line_after-chip.ensures t) (records_from s (l.i + k) (n - (l.i + k))) (sym c.write_line.ensures t)),
      ap (λ (x : Chip). (run memory_size x (l.i + k) (records_from s (l.i + k) (n - (l.i + k)))).number) c.line_after-chip.ensures
          ∙ ap (λ (x : Running). x.number) (sym (run_words memory_size l.chip s l.i n k w)) ∙ l.invariant.2,
      c.write_line.auto.memory ∙ l.invariant.3,
    )

pub apply-requires : goal.apply-requires
apply-requires c = let l = c.loop-i in
    let e = admitted_next memory_size l.chip c.args.stream.now l.i c.args.count (omega arith) l.invariant.2 in
    (ap (refusal memory_size c.loop-i.chip) c.record_at-r.ensures ∙ e.0, ne_eqb _ _ c.if-r-eq65536.false, c.loop-i.invariant.3 ∙ c.requires.2)

pub register_after-chip-requires : goal.register_after-chip-requires
register_after-chip-requires c = ne_eqb _ _ c.if-r-eq65536.false

pub overflow_add-i-else-r-eq65536 : goal.overflow_add-i-else-r-eq65536
overflow_add-i-else-r-eq65536 c = omega arith

pub loop-i-smaller : goal.loop-i-smaller
loop-i-smaller c = omega arith

pub loop-i-preserved : goal.loop-i-preserved
loop-i-preserved c = let a = c.args in
    let s = a.stream.now in
    let n = a.count in
    let l = c.loop-i in
    let e = admitted_next memory_size l.chip s l.i n (omega arith) l.invariant.2 in
    let after = c.register_after-chip.ensures ∙ ap (chip_after l.chip) c.record_at-r.ensures in
    let done = c.apply.ensures ∙ ap (λ (x : Record). effect l.chip x l.memory) c.record_at-r.ensures in (
      omega arith,
      l.invariant.1 ∙ applied_next l.chip s l.i n l.memory (omega arith)
          ∙ (λ t. applied (sym after t) (records_from s (l.i + 1) (n - (l.i + 1))) (sym done t)),
      ap (λ (x : Chip). (run memory_size x (l.i + 1) (records_from s (l.i + 1) (n - (l.i + 1)))).number) after ∙ e.1,
      c.apply.auto.memory ∙ l.invariant.3,
    )

pub shape_of-memory : goal.shape_of-memory
shape_of-memory c = c.loop-i.invariant.3

pub returns : goal.returns
returns c = let a = c.args in
    let s = a.stream.now in
    let n = a.count in
    let l = c.loop-i in
    let e : l.i ≡ n = omega arith in
    sym (l.invariant.1 ∙ ap (λ (k : ℕ). applied l.chip (records_from s k (n - k)) l.memory) e
    ∙ ap (λ (rs : List Record). applied l.chip rs l.memory) (records_end s n) ∙ applied_end l.chip l.memory)
