-- The samples of a text, line by line.
use Prim.Native.Nat.{ℕ, ◌+◌, ◌-◌, ◌≤◌}
use native.Mathlib.Nat.{add-sub_cancel_left}
use mathlib.Core.Path.{◌≡◌, refl, sym, ap, subst, ◌∙◌}
use mathlib.Core.Bool.{Bool, true, false}
use mathlib.Core.List.{List, [], ◌∷◌}
use lib.ListN.{length, take, drop, drop_of_length-le}
use lib.Seq.{drop-drop}
use lib.Dec.{eqb}
use Rattle.std.specs.Prelude.{Some, None, Ok, Err}
use Rattle.ring.specs.Samples.{Sample}
use Rattle.ring.specs.Kept.{ring_after, taking}
use Rattle.ring.specs.declared.Ring.{Ring}
use Rattle.sample.specs.Line.{stops, before, behind, Meaning, line_means, lines_of, with_line, samples_of}
use Rattle.sample.specs.declared.NoSample.{NoSample}
use Rattle.sample.specs.declared.Sample.{Sample as Given}
use Rattle.sample.specs.declared.Stop.TheVariants.{LineEnd}
use Rattle.sample.proofs.Runs.{Ended, all_behind}

-- the lines behind the line end that a text begins with
abbrev lines_behind : List ℕ → List (List ℕ)
lines_behind [] = []
lines_behind (c ∷ s) = lines_of s

-- the first line, and the others
abbrev Cut : List ℕ → Type 0
Cut s = lines_of s ≡ before LineEnd s ∷ lines_behind (behind LineEnd s)

cut_at : (c : ℕ) (s : List ℕ) (b : Bool) → eqb c 10 ≡ b → Cut s → Cut (c ∷ s)
unfolding lines_of before behind stops
cut_at c s true e h = rw e
cut_at c s false e h = rw (e, h)

cut : (s : List ℕ) → Cut s
unfolding lines_of before behind stops
cut [] = refl
cut (c ∷ s) = cut_at c s (eqb c 10) refl (cut s)

-- behind the last line there are no samples
past_end : (s : List ℕ) → samples_of (lines_behind s) ≡ samples_of (lines_of (drop 1 s))
unfolding samples_of lines_of line_means behind with_line
past_end [] = refl
past_end (c ∷ s) = refl

-- the samples of a text are those of its first line and of what stands behind its line end
pub next_line : (s : List ℕ) (n : ℕ) → Ended LineEnd s n → samples_of (lines_of s) ≡ with_line (line_means (take n s)) (samples_of (lines_of (drop (n + 1) s)))
unfolding samples_of
next_line s n e =
    ap samples_of (cut s)
    ∙ ap (λ (t : List ℕ). with_line (line_means t) (samples_of (lines_behind (behind LineEnd s)))) (sym e.front)
    ∙ ap (with_line (line_means (take n s))) (past_end (behind LineEnd s) ∙ ap (λ (t : List ℕ). samples_of (lines_of (drop 1 t))) (sym e.rest) ∙ ap (λ (t : List ℕ). samples_of (lines_of t)) (drop-drop 1 n s))

-- no line is left
pub no_line : (s : List ℕ) (i : ℕ) → length s ≤ i → samples_of (lines_of (drop i s)) ≡ []
unfolding samples_of lines_of line_means behind with_line
no_line s i h = rw (drop_of_length-le s {i = i} h)

-- a line's sample first, and then the others
pub line_first : (r : Ring) (m : Meaning) (ss : List Sample) → ring_after r (with_line m ss) ≡ ring_after (ring_after r (with_line m [])) ss
unfolding with_line ring_after
line_first r (Ok (Some g)) ss = refl
line_first r (Ok None) ss = refl
line_first r (Err e) ss = refl

-- ---- a line that is taken, and one that is not
module _ (r : Ring) (line : List ℕ) (m : Meaning) (means : m ≡ line_means line) where
  after_line : (k : Meaning) → m ≡ k → ring_after r (with_line k []) ≡ ring_after r (with_line (line_means line) [])
  after_line k e = ap (λ (x : Meaning). ring_after r (with_line x [])) (sym e ∙ means)

  pub sample_taken : (g : Given) → m ≡ Ok (Some g) → (taking r g.sequence g.height).ring ≡ ring_after r (with_line (line_means line) [])
  unfolding with_line ring_after
  sample_taken g e = after_line (Ok (Some g)) e

  pub nothing_taken : m ≡ Ok None → r ≡ ring_after r (with_line (line_means line) [])
  unfolding with_line ring_after
  nothing_taken e = after_line (Ok None) e

  pub bad_left_out : (b : NoSample) → m ≡ Err b → r ≡ ring_after r (with_line (line_means line) [])
  unfolding with_line ring_after
  bad_left_out b e = after_line (Err b) e

-- a line more: from the text at `at`, of which the first line has n letters
pub line_more : (text : List ℕ) (at n : ℕ) (r next whole : Ring) → Ended LineEnd (take (length text - at) (drop at text)) n
    → next ≡ ring_after r (with_line (line_means (take (at + n - at) (drop at text))) [])
    → ring_after r (samples_of (lines_of (drop at text))) ≡ whole → ring_after next (samples_of (lines_of (drop (at + (n + 1)) text))) ≡ whole
line_more text at n r next whole e f h =
    let s = drop at text in
    let rest = samples_of (lines_of (drop (n + 1) s)) in
    ap (λ (x : Ring). ring_after x (samples_of (lines_of (drop (at + (n + 1)) text)))) (f ∙ ap (λ (k : ℕ). ring_after r (with_line (line_means (take k s)) [])) (add-sub_cancel_left at n))
    ∙ ap (λ (t : List ℕ). ring_after (ring_after r (with_line (line_means (take n s)) [])) (samples_of (lines_of t))) (sym (drop-drop (n + 1) at text))
    ∙ sym (line_first r (line_means (take n s)) rest)
    ∙ ap (ring_after r) (sym (next_line s n (subst (λ (t : List ℕ). Ended LineEnd t n) (all_behind text at) e)))
    ∙ h

-- no line more
pub lines_taken : (text : List ℕ) (at : ℕ) (r whole : Ring) → length text ≤ at → ring_after r (samples_of (lines_of (drop at text))) ≡ whole → r ≡ whole
unfolding ring_after
lines_taken text at r whole l h = ap (ring_after r) (sym (no_line text at l)) ∙ h
