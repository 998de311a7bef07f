use native.Mathlib.Nat.{sub-zero}
use mathlib.Core.Path.{◌≡◌, sym, ap, ◌∙◌}
use Prim.Native.Nat.{ℕ, ◌+◌, ◌-◌, ◌/◌}
use native.Mathlib.Omega.{arith}
use lib.ListN.{length}
use Rattle.record.specs.Record.{records_from, records_of}
use Rattle.record.proofs.Records.{records_end}
use Rattle.chip.specs.Admit.{is_data, refusal, chip_after}
use Rattle.refusal.specs.Number.{number_by, number_at, place_at}
use Rattle.refusal.proofs.Numbers.{number_positive}
use Rattle.chip.specs.Play.{run, running_of}
use Rattle.chip.specs.declared.Chip.{Chip}
use Rattle.record.specs.declared.Record.{Record}
use Rattle.chip.proofs.Runs.{run_end, run_next, run_last}
use Rattle.chip.proofs.Words.{Taken, taken, none_taken, run_words}
use Rattle.chip_admit.proofs.check.Goals as goal

-- what `refusal_of` said of record i
is :
    {x y : Record} (m : ℕ) (p : Chip) {n : ℕ} → n ≡ refusal m p x → x ≡ y → n ≡ refusal m p y
is m p e r = e ∙ ap (refusal m p) r

pub loop-i-init : goal.loop-i-init
unfolding records_of
loop-i-init c = let s = c.args.stream.now in
    (omega arith, λ t. run c.args.memory c.args.start 0 (records_from s 0 (sym (sub-zero (length s / 8)) t)))

pub returns-in-Err : goal.returns-in-Err
unfolding number_by number_at place_at running_of
returns-in-Err c = let a = c.args in
    let l = c.loop-i in
    let s = a.stream.now in
    let e = is a.memory l.chip c.in-Err.ensures c.record_at-r.ensures in
    let p = number_positive c.in-Err.refusal in
    sym (l.invariant.1 ∙ run_last a.memory l.chip s l.i (length s / 8) (omega arith) (λ q. omega (arith, p, e, q))
    ∙ (λ t. record { number = sym e t; place = l.i; chip = l.chip }))

pub register_after-chip-requires : goal.register_after-chip-requires
unfolding number_by
register_after-chip-requires c = let a = c.args in
    let l = c.loop-i in
    let s = a.stream.now in
    ap is_data c.record_at-r.ensures
    ∙ none_taken a.memory l.chip s l.i (length s / 8) (omega arith) (sym c.words_taken-n.ensures ∙ c.if-n-eq0.true) (sym (is a.memory l.chip c.in_default.ensures c.record_at-r.ensures))

pub loop-i-preserved-then-n-eq0 : goal.loop-i-preserved-then-n-eq0
unfolding number_by
loop-i-preserved-then-n-eq0 c = let a = c.args in
    let l = c.loop-i in
    let s = a.stream.now in
    let n : ℕ = length s / 8 in (
      omega arith,
      l.invariant.1 ∙ run_next a.memory l.chip s l.i n (omega arith) (sym (is a.memory l.chip c.in_default.ensures c.record_at-r.ensures))
          ∙ ap (λ (x : Chip). run a.memory x (l.i + 1) (records_from s (l.i + 1) (n - (l.i + 1)))) (sym (c.register_after-chip.ensures ∙ ap (chip_after l.chip) c.record_at-r.ensures)),
    )

pub words_after-chip-requires : goal.words_after-chip-requires
words_after-chip-requires c =
    let l = c.loop-i in
    let s = c.args.stream.now in
    let due : Taken l.chip s l.i (length s / 8) c.words_taken-n.result =
    taken l.chip s l.i (length s / 8) c.words_taken-n.result (omega arith) c.words_taken-n.ensures (omega (arith, c.if-n-eq0.false)) in
    (omega (arith, c.if-n-eq0.false), due.due)

pub overflow_add-i-else-n-eq0 : goal.overflow_add-i-else-n-eq0
overflow_add-i-else-n-eq0 c =
    let l = c.loop-i in
    let s = c.args.stream.now in
    let due : Taken l.chip s l.i (length s / 8) c.words_taken-n.result =
    taken l.chip s l.i (length s / 8) c.words_taken-n.result (omega arith) c.words_taken-n.ensures (omega (arith, c.if-n-eq0.false)) in
    omega (arith, due.fits)

pub loop-i-preserved : goal.loop-i-preserved
loop-i-preserved c = let a = c.args in
    let l = c.loop-i in
    let s = a.stream.now in
    let due : Taken l.chip s l.i (length s / 8) c.words_taken-n.result =
    taken l.chip s l.i (length s / 8) c.words_taken-n.result (omega arith) c.words_taken-n.ensures (omega (arith, c.if-n-eq0.false)) in
    let n : ℕ = length s / 8 in
    let k = c.words_taken-n.result in (
      omega (arith, due.fits),
      l.invariant.1 ∙ run_words a.memory l.chip s l.i n k due
          ∙ ap (λ (x : Chip). run a.memory x (l.i + k) (records_from s (l.i + k) (n - (l.i + k)))) (sym c.words_after-chip.ensures),
    )

pub returns : goal.returns
unfolding number_at place_at running_of
returns c = let a = c.args in
    let l = c.loop-i in
    let s = a.stream.now in
    let n : ℕ = length s / 8 in
    let e : l.i ≡ n = omega arith in
    sym (l.invariant.1 ∙ ap (λ (k : ℕ). run a.memory l.chip k (records_from s k (n - k))) e
    ∙ ap (run a.memory l.chip n) (records_end s n) ∙ run_end a.memory l.chip n)
