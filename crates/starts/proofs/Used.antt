-- A blit, and whether it may start, depend on the registers that its operation uses alone.
use Prim.Native.Nat.{ℕ}
use mathlib.Core.Path.{◌≡◌, ap, ◌∙◌}
use mathlib.Core.Bool.{Bool, true, cond}
use mathlib.Core.List.{List}
use borrow.Author.Tests.{ne_eqb}
use Rattle.blit.specs.Job.{performed}
use Rattle.command.proofs.Operation.{is_or_not}
use Rattle.chip.specs.Start.{operation, by_blit, source_fits, startable, span, within, mix_by, from_by, job_of, write_of, started}
use Rattle.chip.specs.Admit.{due_after}
use Rattle.chip.specs.declared.Registers.{Registers}
use Rattle.chip.specs.declared.Due.{Due}
use Rattle.starts.specs.Starts.{uses_blit, used_of}

-- each operation of the model in turn, and any other number
pub each_blit : {P : Type 0} (n : ℕ) → (n ≡ 0 → P) → (n ≡ 2 → P) → (n ≡ 3 → P) → (n ≡ 5 → P) → (n ≡ 6 → P) → (n ≡ 7 → P) → (n ≡ 0xC → P)
    → ((n ≡ 0 → ⊥) → (n ≡ 2 → ⊥) → (n ≡ 3 → ⊥) → (n ≡ 5 → ⊥) → (n ≡ 6 → ⊥) → (n ≡ 7 → ⊥) → (n ≡ 0xC → ⊥) → P) → P
each_blit n write up down transparent pattern keyed fill other =
    is_or_not n 0 write
    (λ p0. is_or_not n 2 up
    (λ p2. is_or_not n 3 down
    (λ p3. is_or_not n 5 transparent
    (λ p5. is_or_not n 6 pattern
    (λ p6. is_or_not n 7 keyed
    (λ p7. is_or_not n 0xC fill
    (λ pc. other p0 p2 p3 p5 p6 p7 pc)))))))

-- a table with one value for all operations
same : {A : Type 0} (n : ℕ) (x : A) → by_blit n x x x x x x x x ≡ x
same n x =
    each_blit n (λ e. rw e) (λ e. rw e) (λ e. rw e) (λ e. rw e) (λ e. rw e) (λ e. rw e) (λ e. rw e)
    (λ p0 p2 p3 p5 p6 p7 pc. rw (ne_eqb n 0 p0, ne_eqb n 2 p2, ne_eqb n 3 p3, ne_eqb n 5 p5, ne_eqb n 6 p6, ne_eqb n 7 p7, ne_eqb n 0xC pc))

-- the six registers that every operation uses, and the other three where they are used
abbrev keeping : Registers → Bool → Bool → Bool → Registers
keeping b source background foreground =
    record {
      control = b.control;
      command = b.command;
      source = cond source b.source 0;
      destination = b.destination;
      offset = b.offset;
      width = b.width;
      height = b.height;
      background = cond background b.background 0;
      foreground = cond foreground b.foreground 0;
    }

module _ (b : Registers) where
  abbrev op : ℕ
  op = operation b

  always : (v : ℕ) → cond (by_blit op true true true true true true true true) v 0 ≡ v
  always v = ap (λ (t : Bool). cond t v 0) (same op true)

  pub used_is : used_of b ≡ keeping b (uses_blit op 0x800C) (uses_blit op 0x8020) (uses_blit op 0x8024)
  unfolding used_of
  used_is =
      λ t. record {
        control = always b.control t;
        command = always b.command t;
        source = cond (uses_blit op 0x800C) b.source 0;
        destination = always b.destination t;
        offset = always b.offset t;
        width = always b.width t;
        height = always b.height t;
        background = cond (uses_blit op 0x8020) b.background 0;
        foreground = cond (uses_blit op 0x8024) b.foreground 0;
      }

  pub same_operation : operation (used_of b) ≡ operation b
  same_operation = ap operation used_is

  kept_job : job_of (keeping b (uses_blit op 0x800C) (uses_blit op 0x8020) (uses_blit op 0x8024)) ≡ job_of b
  unfolding job_of mix_by from_by
  kept_job =
      each_blit op (λ e. rw e) (λ e. rw e) (λ e. rw e) (λ e. rw e) (λ e. rw e) (λ e. rw e) (λ e. rw e)
      (λ p0 p2 p3 p5 p6 p7 pc. rw (ne_eqb op 0 p0, ne_eqb op 2 p2, ne_eqb op 3 p3, ne_eqb op 5 p5, ne_eqb op 6 p6, ne_eqb op 7 p7, ne_eqb op 0xC pc))

  kept_startable : startable (keeping b (uses_blit op 0x800C) (uses_blit op 0x8020) (uses_blit op 0x8024)) ≡ startable b
  unfolding startable source_fits
  kept_startable =
      each_blit op (λ e. rw e) (λ e. rw e) (λ e. rw e) (λ e. rw e) (λ e. rw e) (λ e. rw e) (λ e. rw e)
      (λ p0 p2 p3 p5 p6 p7 pc. rw (ne_eqb op 0 p0, ne_eqb op 2 p2, ne_eqb op 3 p3, ne_eqb op 5 p5, ne_eqb op 6 p6, ne_eqb op 7 p7, ne_eqb op 0xC pc))

  kept_within : (m : ℕ) → within m (keeping b (uses_blit op 0x800C) (uses_blit op 0x8020) (uses_blit op 0x8024)) ≡ within m b
  unfolding within span
  kept_within m =
      each_blit op (λ e. rw e) (λ e. rw e) (λ e. rw e) (λ e. rw e) (λ e. rw e) (λ e. rw e) (λ e. rw e)
      (λ p0 p2 p3 p5 p6 p7 pc. rw (ne_eqb op 0 p0, ne_eqb op 2 p2, ne_eqb op 3 p3, ne_eqb op 5 p5, ne_eqb op 6 p6, ne_eqb op 7 p7, ne_eqb op 0xC pc))

  pub same_job : job_of (used_of b) ≡ job_of b
  same_job = ap job_of used_is ∙ kept_job

  pub same_startable : startable (used_of b) ≡ startable b
  same_startable = ap startable used_is ∙ kept_startable

  pub same_within : (m : ℕ) → within m (used_of b) ≡ within m b
  same_within m = ap (within m) used_is ∙ kept_within m

  pub same_started : (old : List ℕ) → started (used_of b) old ≡ started b old
  unfolding started
  same_started old =
      λ t. by_blit (same_operation t) old (performed (same_job t) old) (performed (same_job t) old) (performed (same_job t) old)
      (performed (same_job t) old) (performed (same_job t) old) (performed (same_job t) old) old

  pub same_write : (pixel : ℕ → ℕ → ℕ) → write_of (used_of b) pixel ≡ write_of b pixel
  unfolding write_of
  same_write pixel = ap (λ (x : Registers). write_of x pixel) used_is

  pub same_due : (d : Due) → due_after (used_of b) d ≡ due_after b d
  unfolding due_after
  same_due d = ap (λ (x : Registers). due_after x d) used_is
