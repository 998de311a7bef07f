-- The answer to a command record, and its number.
use Prim.Native.Nat.{ℕ, ◌<◌}
use mathlib.Core.Path.{◌≡◌, refl, sym, ap, ◌∙◌}
use mathlib.Core.List.{List, [], ◌∷◌}
use mathlib.Core.Bool.{Bool, not, ◌&&◌, ◌||◌, and-true}
use lib.Dec.{eqb, ltb, lit<}
use Rattle.record.specs.Bytes.{all_zero}
use Rattle.record.specs.Checks.{rows_with, Numbered}
use Rattle.screen.specs.declared.Screen.{Screen}
use Rattle.command.specs.Command.{command_of, must_be_zero, formed, placed, clashes, words_taken, command_rows, refusal, command_answer}
use Rattle.command.specs.declared.Command.{Command}
use Rattle.std.specs.Prelude.{Ok, Err}
use Rattle.refusal.specs.Number as refusals
use Rattle.refusal.specs.Number.{number_of}
use Rattle.refusal.specs.declared.Refusal.{Refusal}
use Rattle.refusal.proofs.Numbers.{Listed, accepted, refused_with, accepted_by, refused_first, number_answered}
use Rattle.command.proofs.Operation.{by_fill, by_move, by_write, by_pattern, by_keyed, by_other}

-- 0 is the number of no row
pub command_numbered : (m : ℕ) (s : Screen) (left : ℕ) (b : List ℕ) (c : Command) → Numbered (command_rows m s left b c)
unfolding command_rows Numbered
command_numbered m s left b c = (lit< tt, (lit< tt, (lit< tt, (lit< tt, (lit< tt, tt)))))

-- ---- the rows from what the checks found
-- row 12: the fields that must be zero
module _ (c : Command) where
  pub fill_zero : c.operation ≡ 0 → (eqb c.raster 0 && (eqb c.sx 0 && eqb c.sy 0)) ≡ all_zero (must_be_zero c)
  unfolding must_be_zero all_zero
  fill_zero e = sym (ap all_zero (by_fill c.operation _ _ _ _ _ _ e) ∙ (rw and-true))

  pub move_zero : c.operation ≡ 1 → eqb c.colour 0 ≡ all_zero (must_be_zero c)
  unfolding must_be_zero all_zero
  move_zero e = sym (ap all_zero (by_move c.operation _ _ _ _ _ _ e) ∙ (rw and-true))

  pub write_zero : c.operation ≡ 2 → (eqb c.sx 0 && (eqb c.sy 0 && eqb c.colour 0)) ≡ all_zero (must_be_zero c)
  unfolding must_be_zero all_zero
  write_zero e = sym (ap all_zero (by_write c.operation _ _ _ _ _ _ e) ∙ (rw and-true))

  pub pattern_zero : c.operation ≡ 3 → (eqb c.sx 0 && (eqb c.sy 0 && (eqb c.colour 0 && eqb c.key 0))) ≡ all_zero (must_be_zero c)
  unfolding must_be_zero all_zero
  pattern_zero e = sym (ap all_zero (by_pattern c.operation _ _ _ _ _ _ e) ∙ (rw and-true))

  pub keyed_zero : c.operation ≡ 4 → (eqb c.raster 0 && (eqb c.sx 0 && (eqb c.sy 0 && eqb c.colour 0))) ≡ all_zero (must_be_zero c)
  unfolding must_be_zero all_zero
  keyed_zero e = sym (ap all_zero (by_keyed c.operation _ _ _ _ _ _ e) ∙ (rw and-true))

  pub other_zero : (c.operation ≡ 0 → ⊥) → (c.operation ≡ 1 → ⊥) → (c.operation ≡ 2 → ⊥) → (c.operation ≡ 3 → ⊥) → (c.operation ≡ 4 → ⊥)
      → (eqb c.raster 0 && (eqb c.colour 0 && (eqb c.px 0 && (eqb c.py 0 && eqb c.pattern 0)))) ≡ all_zero (must_be_zero c)
  unfolding must_be_zero all_zero
  other_zero p0 p1 p2 p3 p4 = sym (ap all_zero (by_other c.operation _ _ _ _ _ _ p0 p1 p2 p3 p4) ∙ (rw and-true))

-- all rows
pub rows_are : (m : ℕ) (s : Screen) (left : ℕ) (b : List ℕ) (c : Command) (f p k : Bool) (w : ℕ) → f ≡ formed m s b c → p ≡ placed s c → k ≡ clashes s c → w ≡ words_taken s c
    → rows_with (12 ∷ 13 ∷ 14 ∷ 29 ∷ 15 ∷ []) (not f ∷ (eqb c.width 0 || eqb c.height 0) ∷ not p ∷ k ∷ ltb left w ∷ []) ≡ command_rows m s left b c
unfolding command_rows rows_with
rows_are m s left b c f p k w e g h i = rw (e, g, h, i)

-- every row's number is a refusal's
pub command_listed : (m : ℕ) (s : Screen) (left : ℕ) (b : List ℕ) (c : Command) → Listed (command_rows m s left b c)
unfolding command_rows Listed refusals.number refusals.refusal
command_listed m s left b c = (refl, (refl, (refl, (refl, (refl, tt)))))

module _ (m : ℕ) (s : Screen) (left : ℕ) (b : List ℕ) where
  pub accepts : refusal m s left b ≡ 0 → Ok (command_of b) ≡ command_answer m s left b
  unfolding command_answer
  accepts e = sym (accepted (command_of b) _ e)

  pub refuses : (r : Refusal) → refusals.number r ≡ refusal m s left b → Err r ≡ command_answer m s left b
  unfolding command_answer
  refuses r e = sym (refused_with (command_of b) r _ e)

  -- the answer's number is the table's
  pub number_is : number_of (command_answer m s left b) ≡ refusal m s left b
  unfolding command_answer refusal
  number_is = number_answered (command_of b) (command_rows m s left b (command_of b)) (command_listed m s left b (command_of b))

  -- an accepted record: its command is its fields, and none of 12 to 15 and 29 holds
  pub command_accepted : (c : Command) → command_answer m s left b ≡ Ok c → (c ≡ command_of b) × (refusal m s left b ≡ 0)
  unfolding command_answer
  command_accepted c e = let a = accepted_by (refusal m s left b) (command_of b) c e in (a.1, a.0)

  -- a refused record: the number is the table's, and above 0
  pub command_refused : (r : Refusal) → command_answer m s left b ≡ Err r → (refusal m s left b ≡ refusals.number r) × (0 < refusals.number r)
  unfolding command_answer refusal
  command_refused r e = refused_first (command_rows m s left b (command_of b)) (command_listed m s left b (command_of b)) (command_of b) r e
