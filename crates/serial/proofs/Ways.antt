-- What the code gives back: kept answers, and the player in a state.
use Prim.Native.Nat.{ℕ, zero, suc, ◌≤◌, ◌<◌, ◌^◌}
use mathlib.Core.Path.{◌≡◌, refl, sym, ap, ◌∙◌}
use mathlib.Core.Bool.{Bool, true, false, not, cond}
use mathlib.Core.List.{List, [], ◌∷◌, map}
use mir.Syntax.{w32}
use mir.Val.{vint, of_list, WTs, bool_byte}
use native.Mathlib.Omega.{arith}
use lib.Dec.{eqb}
use lib.ListN.{length, get_or, take, replicate}
use lib.Seq.{length-take-le}
use borrow.Author.Tests.{eq-eqb, ne_eqb, not-true, not-false}
use Rattle.record.specs.Bytes.{over}
use Rattle.screen.specs.Values.{six_values, values_with}
use Rattle.screen.specs.Narrow.{Narrow}
use Rattle.screen.proofs.Values.{six_back}
use Rattle.chip.specs.Play.{Playing, refused_by}
use Rattle.serial.specs.State.{State, place_by, player_of}
use Rattle.serial.specs.Serial.{Stage, kept_by, Feeding, fed_with, answer_of, fed_of}
use Rattle.serial.specs.declared.Player.{Player}
use Rattle.serial.specs.declared.Answer.{Answer}
use Rattle.serial.specs.declared.Taking.{Taking}

-- ---- the answer that a player keeps

-- a struct tells the length of an array in this form
pub same_length : (xs : List ℕ) → length (map (λ (x : ℕ). x) xs) ≡ length xs
same_length [] = refl
same_length (x ∷ xs) = ap suc (same_length xs)

module _ (p : Player) where
  pub kept_refusal : (p.number ≡ 0 → ⊥) → refused_by p.number p.place ≡ kept_by p
  unfolding kept_by
  kept_refusal h = rw (ne_eqb p.number 0 h)

  pub kept_values : p.number ≡ 0 → length (map (λ (x : ℕ). x) p.values) ≡ 6 → ◌≡◌ {A = Answer} (record { number = 0; place = 0; values = p.values }) (answer_of (kept_by p))
  unfolding kept_by answer_of
  kept_values h six = rw (eq-eqb p.number 0 h) (λ t. record { number = 0; place = 0; values = sym (six_back p.values (sym (same_length p.values) ∙ six)) t })

-- ---- the player in a state

-- a flag as a number
pub flag : (b : Bool) → bool_byte b ≡ cond b 1 0
flag true = refl
flag false = refl

flag_not : (b : Bool) → bool_byte (not b) ≡ cond b 0 1
flag_not true = refl
flag_not false = refl

-- a refused record has a place
pub refused_place : (n count : ℕ) → not (eqb n 0) ≡ true → count ≡ cond (eqb n 0) 0 count
refused_place n count h = rw (not-true (eqb n 0) h)

pub no_place : (n count : ℕ) → not (eqb n 0) ≡ false → 0 ≡ cond (eqb n 0) 0 count
no_place n count h = rw (not-false (eqb n 0) h)

-- the state of records on the way, with the half-read record
abbrev pub half_read : Taking → List ℕ → State
half_read t half = record { chip = t.chip; half = half; count = t.count; number = t.number }

module _ (t : Taking) (half : List ℕ) (held place : ℕ) (six : List ℕ) where
  pub player_as : length half ≡ 7 → held ≤ 7 → half ≡ over (take held half) (replicate 7 0) → six ≡ six_values t.chip.screen → place ≡ place_by (half_read t (take held half))
      → ◌≡◌ {A = Player}
      (record {
        values = six;
        blit = t.chip.blit;
        due = bool_byte t.chip.due.any;
        line = t.chip.due.line;
        word = t.chip.due.word;
        half = half;
        held = held;
        count = t.count;
        kept = bool_byte (not (eqb t.number 0));
        number = t.number;
        place = place;
      })
      (player_of (half_read t (take held half)))
  unfolding player_of
  player_as all few zero_behind six-are at =
      λ u. record {
        values = six-are u;
        blit = t.chip.blit;
        due = flag t.chip.due.any u;
        line = t.chip.due.line;
        word = t.chip.due.word;
        half = zero_behind u;
        held = sym (length-take-le held half (omega arith)) u;
        count = t.count;
        kept = flag_not (eqb t.number 0) u;
        number = t.number;
        place = at u;
      }

-- ---- the screen registers of a player

-- what a struct knows of an array of 32-bit numbers
abbrev Words : List ℕ → Type 0
Words xs = WTs (of_list (map (λ (x : ℕ). vint w32 x) (map (λ (x : ℕ). x) xs)))

words_below : (xs : List ℕ) → Words xs → (k : ℕ) → get_or xs k 0 < 2 ^ 32
words_below [] p k = omega arith
words_below (x ∷ xs) p zero = p.0.fits
words_below (x ∷ xs) p (suc k) = words_below xs p.1 k

pub narrow_given : (xs : List ℕ) → Words xs → Narrow (values_with xs)
narrow_given xs p =
    record {
      main_start = words_below xs p 0;
      main_offset = words_below xs p 1;
      window_start = words_below xs p 2;
      window_offset = words_below xs p 3;
      x = words_below xs p 4;
      y = words_below xs p 5;
    }

-- ---- what a block gives back

module _ (f : Feeding) where
  -- a call that changes nothing
  pub fed_same : (p : Player) (a : Playing) (x : Answer) (old : List ℕ) → f ≡ record { answer = a; player = p; memory = old } → x ≡ answer_of a
      → (record { player = p; answer = x } ≡ fed_of f.player f.answer) × (old ≡ f.memory)
  unfolding fed_of
  fed_same p a x old e is =
      (ap (λ (y : Answer). record { player = p; answer = y }) is ∙ (λ t. fed_of (sym e t).player (sym e t).answer), λ t. (sym e t).memory)

  -- bytes that were taken
  pub fed_bytes : (g : Stage) (p : Player) (x : Answer) (new : List ℕ) → f ≡ fed_with g → p ≡ player_of g.state → x ≡ answer_of (refused_by p.number p.place) → new ≡ g.memory
      → (record { player = p; answer = x } ≡ fed_of f.player f.answer) × (new ≡ f.memory)
  unfolding fed_of fed_with player_of
  fed_bytes g p x new e is ans mem = (
    (λ t. record { player = p; answer = ans t })
        ∙ (λ t. record { player = is t; answer = answer_of (refused_by (is t).number (is t).place) })
        ∙ (λ t. fed_of (sym e t).player (sym e t).answer),
    mem ∙ (λ t. (sym e t).memory),
  )
