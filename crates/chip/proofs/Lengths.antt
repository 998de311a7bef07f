-- A record's effect keeps the length of the memory.
use Prim.Native.Nat.{ℕ}
use mathlib.Core.Path.{◌≡◌, refl}
use mathlib.Core.List.{List}
use lib.Dec.{eqb}
use lib.ListN.{length}
use Rattle.record.specs.declared.Record.{Record}
use Rattle.record.proofs.Choice.{both_ways}
use Rattle.blit.specs.Blit.{towards}
use Rattle.blit.specs.Job.{source_of, blit_of, performed}
use Rattle.blit.proofs.Direction.{length_blit}
use Rattle.blit.proofs.Words.{length_word}
use Rattle.chip.specs.Start.{operation, job_of, write_of, started}
use Rattle.chip.specs.Admit.{is_data, starts, written, effect}
use Rattle.chip.specs.declared.Registers.{Registers}
use Rattle.chip.specs.declared.Chip.{Chip}

-- of so many bytes
abbrev Of : ℕ → List ℕ → Type 0
Of n l = length l ≡ n

length_started : (b : Registers) (old : List ℕ) → length (started b old) ≡ length old
unfolding started
length_started b old =
    let p : length (performed (job_of b) old) ≡ length old = length_blit (blit_of (job_of b) (source_of (job_of b).from (job_of b).bytes old)) (towards (job_of b).down) old in
    both_ways (Of (length old)) (eqb (operation b) 0) _ _ (λ e. refl)
    (λ e. both_ways (Of (length old)) (eqb (operation b) 2) _ _ (λ e. p)
    (λ e. both_ways (Of (length old)) (eqb (operation b) 3) _ _ (λ e. p)
    (λ e. both_ways (Of (length old)) (eqb (operation b) 5) _ _ (λ e. p)
    (λ e. both_ways (Of (length old)) (eqb (operation b) 6) _ _ (λ e. p)
    (λ e. both_ways (Of (length old)) (eqb (operation b) 7) _ _ (λ e. p)
    (λ e. both_ways (Of (length old)) (eqb (operation b) 0xC) _ _ (λ e. p) (λ e. refl)))))))

pub length_effect : (c : Chip) (r : Record) (old : List ℕ) → length (effect c r old) ≡ length old
unfolding effect
length_effect c r old =
    both_ways (Of (length old)) (is_data r) _ _ (λ e. length_word (write_of c.blit (λ i j. 0)) c.due.line c.due.word r.value old)
    (λ e. both_ways (Of (length old)) (starts r) _ _ (λ e. length_started (written c r) old) (λ e. refl))
