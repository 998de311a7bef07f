-- What holds of every value in a register's field, and of the screen registers at first, holds of them throughout.
use Prim.Native.Nat.{ℕ, suc}
use mathlib.Core.Path.{◌≡◌, subst}
use mathlib.Core.Bool.{true, cond}
use mathlib.Core.List.{List, [], ◌∷◌}
use lib.Dec.{eqb}
use borrow.Author.Tests.{eqb-true}
use Rattle.record.specs.declared.Record.{Record}
use Rattle.record.proofs.Choice.{both_ways}
use Rattle.screen.specs.declared.ScreenValues.{ScreenValues}
use Rattle.chip.specs.Register.{fits, screen_after}
use Rattle.chip.specs.Admit.{refusal, chip_after}
use Rattle.chip.specs.Play.{run}
use Rattle.chip.specs.declared.Chip.{Chip}
use Rattle.chip.specs.Play.{Running}
use Rattle.chip.proofs.Admits.{admits}

-- of the starts, the offsets and the edges
pub record Each (P Q E : ℕ → Type 0) (s : ScreenValues) : Type 0 where
  pub main_start : P s.main.start
  pub main_offset : Q s.main.offset
  pub window_start : P s.window.start
  pub window_offset : Q s.window.offset
  pub x : E s.x
  pub y : E s.y

-- a register that is written, or kept
written : (P : ℕ → Type 0) (n k v old : ℕ) → fits n v ≡ true → (fits k v ≡ true → P v) → P old → P (cond (eqb n k) v old)
written P n k v old h f g = both_ways P (eqb n k) v old (λ e. f (subst (λ (x : ℕ). fits x v ≡ true) (eqb-true n k e) h)) (λ e. g)

module _ (P Q E : ℕ → Type 0) (start : (v : ℕ) → fits 0x40 v ≡ true → P v) (offset : (v : ℕ) → fits 0x44 v ≡ true → Q v) (edges : (v : ℕ) → fits 0x58 v ≡ true → E v) where
  after : (s : ScreenValues) (n v : ℕ) → Each P Q E s → fits n v ≡ true → Each P Q E (screen_after s n v)
  unfolding screen_after fits
  after s n v f h =
      record {
        main_start = written P n 0x40 v s.main.start h (start v) f.main_start;
        main_offset = written Q n 0x44 v s.main.offset h (offset v) f.main_offset;
        window_start = written P n 0x50 v s.window.start h (start v) f.window_start;
        window_offset = written Q n 0x54 v s.window.offset h (offset v) f.window_offset;
        x = written E n 0x58 v s.x h (edges v) f.x;
        y = written E n 0x5C v s.y h (edges v) f.y;
      }

  after_record : (c : Chip) (r : Record) → Each P Q E c.screen → fits r.number r.value ≡ true → Each P Q E (chip_after c r).screen
  unfolding chip_after
  after_record c r f h = after c.screen r.number r.value f h

  -- after records, up to the first that is refused
  pub each_run : (m : ℕ) (c : Chip) (i : ℕ) (rs : List Record) → Each P Q E c.screen → Each P Q E (run m c i rs).chip.screen
  unfolding run
  each_run m c i [] f = f
  each_run m c i (r ∷ rs) f =
      both_ways (λ (x : Running). Each P Q E x.chip.screen) (eqb (refusal m c r) 0) _ _
      (λ e. each_run m (chip_after c r) (suc i) rs (after_record c r f (admits m c r (eqb-true (refusal m c r) 0 e)).field)) (λ e. f)
