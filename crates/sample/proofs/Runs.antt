-- A run of letters, letter by letter.
use Prim.Native.Nat.{ℕ, suc, ◌+◌, ◌-◌, ◌≤◌}
use mathlib.Core.Path.{◌≡◌, refl, sym, ap, subst}
use mathlib.Core.Bool.{Bool, true, false, cond}
use mathlib.Core.List.{List, [], ◌∷◌}
use native.Mathlib.Omega.{arith}
use lib.ListN.{length, take, drop, length-drop}
use lib.Seq.{take_all}
use borrow.Author.Tests.{ltb-false}
use Rattle.std.specs.Prelude.{Some, None, nat_lt}
use Rattle.std.specs.List.{position, position_or_len}
use Rattle.std.specs.Option.{unwrap_or}
use Rattle.sample.specs.Line.{stops, before, behind}
use Rattle.sample.specs.declared.Stop.{Stop}

-- the run's letters are the first i
pub record Ended (e : Stop) (s : List ℕ) (i : ℕ) : Type 0 where
  pub within : i ≤ length s
  pub front : take i s ≡ before e s
  pub rest : drop i s ≡ behind e s

-- up to the first letter that ends it, or all
ended_at : (e : Stop) (c : ℕ) (s : List ℕ) (b : Bool) → stops e c ≡ b → Ended e s (position_or_len (stops e) s) → Ended e (c ∷ s) (position_or_len (stops e) (c ∷ s))
unfolding before behind
ended_at e c s true f h = rw f (record { within = omega arith; front = rw f refl; rest = rw f refl })
ended_at e c s false f h =
    let n = position_or_len (stops e) s in
    let more : 1 + n ≡ suc n = omega arith in
    rw (f, more) (record { within = omega (arith, h.within); front = rw f (ap (λ (t : List ℕ). c ∷ t) h.front); rest = rw f h.rest })

ended : (e : Stop) (s : List ℕ) → Ended e s (position_or_len (stops e) s)
unfolding before behind
ended e [] = record { within = omega arith; front = refl; rest = refl }
ended e (c ∷ s) = ended_at e c s (stops e c) refl (ended e s)

place : (b : Bool) (n m : ℕ) → nat_lt n m ≡ b → n ≤ m → unwrap_or (cond b (Some n) None) m ≡ n
place true n m e h = refl
place false n m e h = omega (arith, ltb-false n m e)

pub run_end : (e : Stop) (s : List ℕ) → Ended e s (unwrap_or (position (stops e) s) (length s))
run_end e s =
    let n = position_or_len (stops e) s in
    let h = ended e s in
    subst (λ (k : ℕ). Ended e s k) (sym (place (nat_lt n (length s)) n (length s) refl h.within)) h

-- all that is behind a place
pub all_behind : (s : List ℕ) (n : ℕ) → take (length s - n) (drop n s) ≡ drop n s
all_behind s n = take_all (length s - n) (drop n s) (omega (arith, length-drop n s))
