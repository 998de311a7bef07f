-- Blocks one after another are the bytes of the stream that they are cut from.
use Prim.Native.Nat.{ℕ, ◌≤◌, ◌<◌}
use mathlib.Core.Path.{◌≡◌, refl, sym, ap, ◌∙◌}
use mathlib.Core.Bool.{Bool, true, false, not}
use mathlib.Core.List.{List, [], ◌∷◌, ◌++◌}
use native.Mathlib.Omega.{arith}
use lib.Dec.{eqb, ltb}
use lib.ListN.{length, length-append}
use borrow.Author.Tests.{eqb-true, eqb-false, ltb-true}
use Rattle.record.specs.Record.{record_at}
use Rattle.record.specs.declared.Record.{Record}
use Rattle.record.proofs.Choice.{both_ways}
use Rattle.chip.specs.Admit.{refusal}
use Rattle.chip.proofs.Lengths.{length_effect}
use Rattle.serial.specs.State.{State, player_of}
use Rattle.serial.specs.Serial.{Stage, record_taken, byte_taken, bytes_taken, fed_with, Feeding, feeding}
use Rattle.serial.specs.Cutting.{joined, Small, Lent, fed_all}
use Rattle.serial.proofs.Bytes.{bytes_append, bytes_dropped}
use Rattle.serial.proofs.Players.{state_back, block_repeats, block_taken, kept_none, kept_some}

-- ---- what bytes keep: a memory of m bytes, and a half-read record of at most seven

pub record Sound (m : ℕ) (g : Stage) : Type 0 where
  pub memory : length g.memory ≡ m
  pub half : length g.state.half ≤ 7

module _ (m : ℕ) where
  sound_record : (g : Stage) (r : Record) → Sound m g → Sound m (record_taken m g r)
  unfolding record_taken
  sound_record g r s =
      both_ways (Sound m) (eqb (refusal m g.state.chip r) 0) _ _
      (λ e. record { memory = length_effect g.state.chip r g.memory ∙ s.memory; half = omega arith })
      (λ e. record { memory = s.memory; half = omega arith })

  sound_half : (g : Stage) (b : ℕ) → Sound m g → length g.state.half < 7
      → Sound m (record { state = record { chip = g.state.chip; half = g.state.half ++ (b ∷ []); count = g.state.count; number = 0 }; memory = g.memory })
  sound_half g b s h =
      let l : length (g.state.half ++ (b ∷ [])) ≤ 7 = omega (arith, length-append g.state.half (b ∷ [])) in
      record { memory = s.memory; half = l }

  sound_byte : (g : Stage) (b : ℕ) → Sound m g → Sound m (byte_taken m g b)
  unfolding byte_taken
  sound_byte g b s =
      both_ways (Sound m) (not (eqb g.state.number 0)) g _ (λ e. s)
      (λ e. both_ways (Sound m) (ltb (length g.state.half) 7) _ _
      (λ e. sound_half g b s (ltb-true (length g.state.half) 7 e))
      (λ e. sound_record g (record_at (g.state.half ++ (b ∷ [])) 0) s))

  pub sound_bytes : (g : Stage) (bs : List ℕ) → Sound m g → Sound m (bytes_taken m g bs)
  unfolding bytes_taken
  sound_bytes g [] s = s
  sound_bytes g (b ∷ bs) s = sound_bytes (byte_taken m g b) bs (sound_byte g b s)

-- ---- one block

-- the player in a stage's state, and its memory
abbrev pub lent : Stage → Lent
lent g = record { player = player_of g.state; memory = g.memory }

abbrev afterwards : Feeding → Lent
afterwards f = record { player = f.player; memory = f.memory }

module _ (m : ℕ) (g : Stage) (b : List ℕ) (sound : Sound m g) (few : length b ≤ 64) where
  one_refused : (g.state.number ≡ 0 → ⊥) → afterwards (feeding m (player_of g.state) b g.memory) ≡ lent (bytes_taken m g b)
  one_refused h =
      ap afterwards (block_repeats m (player_of g.state) b g.memory (kept_some g.state h))
      ∙ ap lent (sym (bytes_dropped m g b h))

  one_taken : g.state.number ≡ 0 → afterwards (feeding m (player_of g.state) b g.memory) ≡ lent (bytes_taken m g b)
  unfolding fed_with
  one_taken e =
      ap afterwards (block_taken m (player_of g.state) b g.memory (kept_none g.state e) sound.memory few)
      ∙ ap (λ (s : State). lent (bytes_taken m (record { state = s; memory = g.memory }) b)) (state_back g.state e sound.half)

  pub one_block : afterwards (feeding m (player_of g.state) b g.memory) ≡ lent (bytes_taken m g b)
  one_block = by_test (eqb g.state.number 0) refl
    where
      by_test : (t : Bool) → eqb g.state.number 0 ≡ t → afterwards (feeding m (player_of g.state) b g.memory) ≡ lent (bytes_taken m g b)
      by_test true q = one_taken (eqb-true g.state.number 0 q)
      by_test false q = one_refused (eqb-false g.state.number 0 q)

-- ---- all blocks

pub all_blocks : (m : ℕ) (blocks : List (List ℕ)) (g : Stage) → Sound m g → Small blocks
    → fed_all m (player_of g.state) g.memory blocks ≡ lent (bytes_taken m g (joined blocks))
unfolding fed_all joined Small bytes_taken
all_blocks m [] g s few = refl
all_blocks m (b ∷ bs) g s few =
    ap (λ (l : Lent). fed_all m l.player l.memory bs) (one_block m g b s few.0)
    ∙ all_blocks m bs (bytes_taken m g b) (sound_bytes m g b s) few.1
    ∙ ap lent (sym (bytes_append m g b (joined bs)))
