-- Players and their states: there and back, what a block and the end give.
use Prim.Native.Nat.{ℕ, ◌≤◌, min}
use mathlib.Core.Path.{◌≡◌, refl, sym, ap, ◌∙◌}
use mathlib.Core.Bool.{Bool, true, false, not, cond}
use mathlib.Core.List.{List, [], ◌∷◌}
use native.Mathlib.Omega.{arith}
use lib.Dec.{eqb}
use lib.ListN.{length, take, replicate}
use borrow.Author.Tests.{eq-eqb, ne_eqb, le-ltb, lt-ltb, eqb-true, eqb-false}
use Rattle.record.specs.Bytes.{over}
use Rattle.record.specs.Checks.{rows_at, first_of, first_place}
use Rattle.chip.specs.Play.{Playing, refused_by, ending}
use Rattle.serial.specs.State.{State, held_by, chip_of, state_of, place_by, player_of}
use Rattle.serial.specs.Serial.{bytes_taken, block_rows, kept_by, fed_with, feeding, end_rows, keeping, ended_player, end_answer}
use Rattle.serial.specs.declared.Player.{Player}

-- ---- there and back

due_back : (a : Bool) → not (eqb (cond a 1 0) 0) ≡ a
due_back true = refl
due_back false = refl

pub chip_back : (s : State) → chip_of (player_of s) ≡ s.chip
unfolding chip_of player_of
chip_back s =
    λ t. record {
      screen = s.chip.screen;
      blit = s.chip.blit;
      due = record { any = due_back s.chip.due.any t; line = s.chip.due.line; word = s.chip.due.word };
    }

half_back : (h : List ℕ) → length h ≤ 7 → take (min (length h) 7) (over h (replicate 7 0)) ≡ h
half_back [] l = refl
half_back (a ∷ []) l = refl
half_back (a ∷ b ∷ []) l = refl
half_back (a ∷ b ∷ d ∷ []) l = refl
half_back (a ∷ b ∷ d ∷ e ∷ []) l = refl
half_back (a ∷ b ∷ d ∷ e ∷ f ∷ []) l = refl
half_back (a ∷ b ∷ d ∷ e ∷ f ∷ g ∷ []) l = refl
half_back (a ∷ b ∷ d ∷ e ∷ f ∷ g ∷ h ∷ []) l = refl
half_back (a ∷ b ∷ d ∷ e ∷ f ∷ g ∷ h ∷ i ∷ xs) l = absurd (omega arith)

-- a player in a state is in that state
pub state_back : (s : State) → s.number ≡ 0 → length s.half ≤ 7 → state_of (player_of s) ≡ s
unfolding state_of player_of
state_back s e l = λ t. record { chip = chip_back s t; half = half_back s.half l t; count = s.count; number = sym e t }

-- ---- a block

module _ (m : ℕ) (p : Player) (b memory : List ℕ) where
  pub block_repeats : (p.kept ≡ 0 → ⊥) → feeding m p b memory ≡ record { answer = kept_by p; player = p; memory = memory }
  unfolding feeding
  block_repeats h = rw (ne_eqb p.kept 0 h)

  pub block_18 : p.kept ≡ 0 → (length memory ≡ m → ⊥) → feeding m p b memory ≡ record { answer = refused_by 18 0; player = p; memory = memory }
  unfolding feeding block_rows first_of
  block_18 k h = rw (eq-eqb p.kept 0 k, ne_eqb (length memory) m h)

  pub block_32 : p.kept ≡ 0 → length memory ≡ m → (length b ≤ 64 → ⊥) → feeding m p b memory ≡ record { answer = refused_by 32 0; player = p; memory = memory }
  unfolding feeding block_rows first_of
  block_32 k h l = rw (eq-eqb p.kept 0 k, eq-eqb (length memory) m h, lt-ltb 64 (length b) (omega arith))

  pub rows_pass : length memory ≡ m → length b ≤ 64 → first_of (block_rows m b memory) ≡ 0
  unfolding block_rows first_of
  rows_pass h l = rw (eq-eqb (length memory) m h, le-ltb 64 (length b) l)

  pub block_passes : p.kept ≡ 0 → first_of (block_rows m b memory) ≡ 0 → feeding m p b memory ≡ fed_with (bytes_taken m (record { state = state_of p; memory = memory }) b)
  unfolding feeding
  block_passes k e = rw (eq-eqb p.kept 0 k, e)

  pub block_taken : p.kept ≡ 0 → length memory ≡ m → length b ≤ 64 → feeding m p b memory ≡ fed_with (bytes_taken m (record { state = state_of p; memory = memory }) b)
  block_taken k h l = block_passes k (rows_pass h l)

-- ---- what is kept

module _ (s : State) where
  pub kept_none : s.number ≡ 0 → (player_of s).kept ≡ 0
  unfolding player_of
  kept_none e = rw (eq-eqb s.number 0 e)

  pub kept_some : (s.number ≡ 0 → ⊥) → (player_of s).kept ≡ 0 → ⊥
  unfolding player_of
  kept_some h e = absurd (eqb-false 1 0 refl (rw (ne_eqb s.number 0 h) at e))

  -- a refusal is kept with the count as its place
  pub keeps_refusal : (s.number ≡ 0 → ⊥) → kept_by (player_of s) ≡ refused_by s.number s.count
  unfolding kept_by player_of
  keeps_refusal h = rw (ne_eqb s.number 0 h)

  pub keeps_answer : (s.number ≡ 0 → ⊥) → kept_by (player_of s) ≡ refused_by s.number (place_by s)
  keeps_answer h = keeps_refusal h ∙ ap (λ (t : Bool). refused_by s.number (cond t 0 s.count)) (sym (ne_eqb s.number 0 h))

-- ---- the end

pub end_repeats : (p : Player) → (p.kept ≡ 0 → ⊥) → ended_player p ≡ p
unfolding ended_player
end_repeats p h = rw (ne_eqb p.kept 0 h)

pub end_keeps : (p : Player) → p.kept ≡ 0 → ended_player p ≡ keeping p (first_of (end_rows p)) (first_place (end_rows p))
unfolding ended_player
end_keeps p h = rw (eq-eqb p.kept 0 h)

pub end_19 : (p : Player) → p.kept ≡ 0 → (held_by p ≡ 0 → ⊥) → ended_player p ≡ keeping p 19 0
unfolding ended_player end_rows rows_at first_of first_place
end_19 p k h = rw (eq-eqb p.kept 0 k, ne_eqb (held_by p) 0 h)

pub end_23 : (p : Player) → p.kept ≡ 0 → held_by p ≡ 0 → (p.due ≡ 0 → ⊥) → ended_player p ≡ keeping p 23 p.count
unfolding ended_player end_rows rows_at first_of first_place
end_23 p k h d = rw (eq-eqb p.kept 0 k, eq-eqb (held_by p) 0 h, ne_eqb p.due 0 d)

pub end_0 : (p : Player) → p.kept ≡ 0 → held_by p ≡ 0 → p.due ≡ 0 → ended_player p ≡ keeping p 0 0
unfolding ended_player end_rows rows_at first_of first_place
end_0 p k h d = rw (eq-eqb p.kept 0 k, eq-eqb (held_by p) 0 h, eq-eqb p.due 0 d)

-- the end changes no register
pub end_chip : (p : Player) → chip_of (ended_player p) ≡ chip_of p
unfolding ended_player keeping chip_of
end_chip p = by_test (not (eqb p.kept 0))
  where
    by_test : (t : Bool) → chip_of (cond t p (keeping p (first_of (end_rows p)) (first_place (end_rows p)))) ≡ chip_of p
    by_test true = refl
    by_test false = refl

-- between two records the end is the whole player's
module _ (s : State) (whole : s.half ≡ []) where
  abbrev as_run : Playing
  as_run = ending (record { number = s.number; place = s.count; chip = s.chip }) s.count

  ends_refused : (s.number ≡ 0 → ⊥) → end_answer (player_of s) ≡ as_run
  unfolding ending
  ends_refused h = ap kept_by (end_repeats (player_of s) (kept_some s h)) ∙ keeps_refusal s h ∙ rw (ne_eqb s.number 0 h)

  ends_taken : s.number ≡ 0 → (t : Bool) → s.chip.due.any ≡ t → end_answer (player_of s) ≡ as_run
  unfolding player_of keeping kept_by ending
  ends_taken e true d =
      ap kept_by (end_23 (player_of s) (kept_none s e) (ap (λ (h : List ℕ). min (length h) 7) whole) (λ z. absurd (eqb-false 1 0 refl (rw d at z))))
      ∙ rw (eq-eqb s.number 0 e, d)
  ends_taken e false d =
      ap kept_by (end_0 (player_of s) (kept_none s e) (ap (λ (h : List ℕ). min (length h) 7) whole) (rw d))
      ∙ rw (eq-eqb s.number 0 e, d)

  pub ends : end_answer (player_of s) ≡ as_run
  ends = by_test (eqb s.number 0) refl
    where
      by_test : (t : Bool) → eqb s.number 0 ≡ t → end_answer (player_of s) ≡ as_run
      by_test true q = ends_taken (eqb-true s.number 0 q) s.chip.due.any refl
      by_test false q = ends_refused (eqb-false s.number 0 q)
