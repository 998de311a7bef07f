-- Request a) of 02: a stream in blocks ends as the whole stream does.
use Prim.Native.Nat.{ℕ, ◌+◌, ◌*◌, ◌/◌, ◌%◌, ◌≤◌}
use mathlib.Core.Path.{◌≡◌, refl, sym, ap, ◌∙◌, subst}
use mathlib.Core.Bool.{Bool, true, false, not, cond}
use mathlib.Core.List.{List, []}
use native.Mathlib.Omega.{arith}
use lib.Dec.{eqb}
use lib.ListN.{length, drop_of_length-le}
use borrow.Author.Tests.{eqb-true, eqb-false}
use Rattle.record.specs.Checks.{first_of}
use Rattle.record.specs.Record.{records_from, records_of}
use Rattle.record.specs.declared.Record.{Record}
use Rattle.record.proofs.Records.{records_count}
use Rattle.screen.specs.Screen.{memory_size}
use Rattle.chip.specs.Play.{new_chip, run, applied, Playing, refused_by, ending, playing, played}
use Rattle.chip.specs.Play.{Running}
use Rattle.chip.proofs.Answers.{accepted_by_lem, whole, end_refused}
use Rattle.serial.specs.State.{most_records, chip_of, state_of, new_player}
use Rattle.serial.specs.Serial.{Stage, bytes_taken, block_rows, kept_by, Feeding, fed_with, feeding, keeping, ended_player, end_answer}
use Rattle.serial.specs.Taking.{stage_at, stage_of}
use Rattle.serial.specs.declared.Taking.{Taking}
use Rattle.serial.specs.Cutting.{joined, Small, Lent, fed_new, AsWhole, Cutting, CuttingPast, before_refused, Work, Repeats}
use Rattle.serial.specs.declared.Player.{Player}
use Rattle.serial.proofs.Bytes.{left_over, with_half, rest_taken}
use Rattle.serial.proofs.Follows.{up_to, ran_to, follows, Reached, reached, before_first, before_few}
use Rattle.serial.proofs.Players.{chip_back, block_repeats, block_passes, keeps_answer, kept_some, end_repeats, end_chip, end_keeps, ends}
use Rattle.serial.proofs.Blocks.{lent, all_blocks}

-- ---- after any blocks

module _ (blocks : List (List ℕ)) (memory : List ℕ) (sized : length memory ≡ memory_size) (few : Small blocks) where
  abbrev stream : List ℕ
  stream = joined blocks

  abbrev work : List ℕ
  work = applied new_chip (before_refused memory_size new_chip (records_of stream)) memory

  -- the stage once the whole records are taken
  abbrev after : Stage
  after = ran_to memory_size new_chip 0 0 (records_of stream) memory

  -- player and memory: what is left of the bytes is half read
  pub fed_is : fed_new blocks memory ≡ lent (with_half after (left_over stream))
  unfolding new_player
  fed_is =
      all_blocks memory_size blocks (stage_at new_chip 0 memory) (record { memory = sized; half = omega arith }) few
      ∙ ap lent (rest_taken memory_size new_chip 0 memory stream ∙ ap (λ (g : Stage). with_half g (left_over stream)) (follows memory_size new_chip 0 0 (records_of stream) memory (omega arith)))

  half_memory : (g : Stage) (h : List ℕ) → (with_half g h).memory ≡ g.memory
  unfolding with_half
  half_memory g h = by_test (eqb g.state.number 0)
    where
      by_test : (t : Bool) → (cond t (record { state = record { chip = g.state.chip; half = h; count = g.state.count; number = 0 }; memory = g.memory }) g).memory ≡ g.memory
      by_test true = refl
      by_test false = refl

  pub memory_is : (fed_new blocks memory).memory ≡ work
  memory_is = ap (λ (l : Lent). l.memory) fed_is ∙ half_memory after (left_over stream)

-- ---- after whole records

-- nothing is left
none_left : (s : List ℕ) → length s % 8 ≡ 0 → left_over s ≡ []
none_left s e = drop_of_length-le s {i = length s / 8 * 8} (omega arith)

with_nothing : (t : Taking) (memory : List ℕ) → with_half (stage_of t memory) [] ≡ stage_of t memory
unfolding with_half
with_nothing t memory = by_test (eqb t.number 0) refl
  where
    by_test : (b : Bool) → eqb t.number 0 ≡ b
        → cond b (stage_of (record { chip = t.chip; count = t.count; number = 0 }) memory) (stage_of t memory) ≡ stage_of t memory
    by_test true q = λ u. stage_of (record { chip = t.chip; count = t.count; number = sym (eqb-true t.number 0 q) u }) memory
    by_test false q = refl

-- the end of a run, its place as far as the count goes
abbrev limited : Playing → Playing
limited p = record { number = p.number; place = up_to p.place; values = p.values }

-- k records were taken of n
module _ (r : Running) (n k : ℕ) (reach : Reached r 0 n k) where
  abbrev near : ℕ → Playing
  near i = ending (record { number = r.number; place = i; chip = r.chip }) i

  end_limited : near (up_to (0 + k)) ≡ limited (ending r n)
  unfolding ending
  end_limited = by_test (eqb r.number 0) r.chip.due.any refl
    where
      by_test : (t d : Bool) → eqb r.number 0 ≡ t
          → cond (not t) (refused_by r.number (up_to (0 + k))) (cond d (refused_by 23 (up_to (0 + k))) (accepted_by_lem r.chip.screen))
          ≡ limited (cond (not t) (refused_by r.number r.place) (cond d (refused_by 23 n) (accepted_by_lem r.chip.screen)))
      by_test true true q = let e : up_to (0 + k) ≡ up_to n = omega (arith, reach.0 (eqb-true r.number 0 q)) in ap (refused_by 23) e
      by_test true false q = refl
      by_test false d q = let e : up_to (0 + k) ≡ up_to r.place = omega (arith, reach.1 (eqb-false r.number 0 q)) in ap (refused_by r.number) e

  -- a place that is within the count
  end_within : n ≤ most_records → k ≤ n → limited (ending r n) ≡ ending r n
  unfolding ending
  end_within h few = by_test (eqb r.number 0) r.chip.due.any refl
    where
      by_test : (t d : Bool) → eqb r.number 0 ≡ t
          → limited (cond (not t) (refused_by r.number r.place) (cond d (refused_by 23 n) (accepted_by_lem r.chip.screen)))
          ≡ cond (not t) (refused_by r.number r.place) (cond d (refused_by 23 n) (accepted_by_lem r.chip.screen))
      by_test true true q = let e : up_to n ≡ n = omega arith in ap (refused_by 23) e
      by_test true false q = refl
      by_test false d q = let e : up_to r.place ≡ r.place = omega (arith, reach.1 (eqb-false r.number 0 q)) in ap (refused_by r.number) e

  -- the end accepts only what the run has not refused
  end_zero : (ending r n).number ≡ 0 → r.number ≡ 0
  unfolding ending
  end_zero e = by_test (eqb r.number 0) refl
    where
      by_test : (t : Bool) → eqb r.number 0 ≡ t → r.number ≡ 0
      by_test true q = eqb-true r.number 0 q
      by_test false q = sym (ap (λ (x : Playing). x.number) (end_refused r n (eqb-false r.number 0 q))) ∙ e

module _ (blocks : List (List ℕ)) (memory : List ℕ) (sized : length memory ≡ memory_size) (few : Small blocks) (cut : length (joined blocks) % 8 ≡ 0) where
  abbrev bytes : List ℕ
  bytes = joined blocks

  abbrev records : ℕ
  records = length bytes / 8

  abbrev end_run : Running
  end_run = run memory_size new_chip 0 (records_of bytes)

  abbrev before : List Record
  before = before_refused memory_size new_chip (records_of bytes)

  abbrev at_end : Stage
  at_end = ran_to memory_size new_chip 0 0 (records_of bytes) memory

  fed_whole : fed_new blocks memory ≡ lent at_end
  fed_whole =
      fed_is blocks memory sized few
      ∙ ap (λ (l : List ℕ). lent (with_half at_end l)) (none_left bytes cut)
      ∙ ap lent (with_nothing _ _)

  plays : playing memory_size bytes memory ≡ ending end_run records
  plays = whole memory_size bytes memory sized cut end_run refl

  reach : Reached end_run 0 records (length before)
  reach = subst (λ (n : ℕ). Reached end_run 0 n (length before)) (records_count bytes) (reached memory_size new_chip 0 (records_of bytes))

  answers : end_answer (fed_new blocks memory).player ≡ limited (ending end_run records)
  answers = ap (λ (l : Lent). end_answer l.player) fed_whole ∙ ends at_end.state refl ∙ end_limited end_run records (length before) reach

  pub past : end_answer (fed_new blocks memory).player ≡ limited (playing memory_size bytes memory)
  past = answers ∙ ap limited (sym plays)

  module _ (within : records ≤ most_records) where
    few_before : length before ≤ records
    few_before = omega (arith, before_few memory_size new_chip (records_of bytes), records_count bytes)

    not_refused : (playing memory_size bytes memory).number ≡ 0 → end_run.number ≡ 0
    not_refused e = end_zero end_run records (length before) reach (sym (ap (λ (p : Playing). p.number) plays) ∙ e)

    -- where none is refused, all records are before the end
    all_before : end_run.number ≡ 0 → before ≡ records_of bytes
    unfolding records_of
    all_before e = before_first memory_size new_chip bytes 0 records ∙ ap (records_from bytes 0) (reach.0 e)

    -- an accepted stream's memory has the work of all its records
    same_work : (playing memory_size bytes memory).number ≡ 0 → at_end.memory ≡ played memory_size bytes memory
    unfolding played
    same_work e = rw e (ap (λ (rs : List Record). applied new_chip rs memory) (all_before (not_refused e)))

    pub as_whole : AsWhole blocks memory
    as_whole =
        record {
          answer = answers ∙ end_within end_run records (length before) reach within few_before ∙ sym plays;
          same_memory = λ e. ap (λ (l : Lent). l.memory) fed_whole ∙ same_work e;
          same_registers = λ e. end_chip (fed_new blocks memory).player ∙ ap (λ (l : Lent). chip_of l.player) fed_whole ∙ chip_back at_end.state;
        }

pub cutting : Cutting
cutting blocks memory sized few cut within = as_whole blocks memory sized few cut within

pub cutting_past : CuttingPast
cutting_past blocks memory sized few cut = past blocks memory sized few cut

pub works : Work
works blocks memory sized few = memory_is blocks memory sized few

-- ---- what is kept is repeated

end_again : (p : Player) → (p.kept ≡ 0 → ⊥) → (ended_player p ≡ p) × (end_answer p ≡ kept_by p)
end_again p h = (end_repeats p h, ap kept_by (end_repeats p h))

module _ (m : ℕ) (p : Player) (b memory : List ℕ) (rows : first_of (block_rows m b memory) ≡ 0) (some : (feeding m p b memory).answer.number ≡ 0 → ⊥) where
  abbrev Kept : Feeding → Type 0
  Kept f = (f.player.kept ≡ 0 → ⊥) × (kept_by f.player ≡ f.answer)

  fed_again : (p.kept ≡ 0 → ⊥) → Kept (feeding m p b memory)
  fed_again h = subst Kept (sym (block_repeats m p b memory h)) (h, refl)

  fed_refused : p.kept ≡ 0 → Kept (feeding m p b memory)
  unfolding fed_with
  fed_refused k =
      let g = bytes_taken m (record { state = state_of p; memory = memory }) b in
      let e = block_passes m p b memory k rows in
      let h : g.state.number ≡ 0 → ⊥ = λ z. some (ap (λ (f : Feeding). f.answer.number) e ∙ z) in
      subst Kept (sym e) (kept_some g.state h, keeps_answer g.state h)

  pub refusal_kept : Kept (feeding m p b memory)
  refusal_kept = by_test (eqb p.kept 0) refl
    where
      by_test : (t : Bool) → eqb p.kept 0 ≡ t → Kept (feeding m p b memory)
      by_test true q = fed_refused (eqb-true p.kept 0 q)
      by_test false q = fed_again (eqb-false p.kept 0 q)

end_kept : (p : Player) → (ended_player p).kept ≡ 0 → ⊥
unfolding keeping
end_kept p = by_test (eqb p.kept 0) refl
  where
    by_test : (t : Bool) → eqb p.kept 0 ≡ t → (ended_player p).kept ≡ 0 → ⊥
    by_test true q z = absurd (eqb-false 1 0 refl (sym (ap (λ (x : Player). x.kept) (end_keeps p (eqb-true p.kept 0 q))) ∙ z))
    by_test false q z = eqb-false p.kept 0 q (sym (ap (λ (x : Player). x.kept) (end_repeats p (eqb-false p.kept 0 q))) ∙ z)

pub repeats : Repeats
repeats = record { block = block_repeats; end = end_again; refused = refusal_kept; ended = end_kept }
