-- What is due: after one data word, and after many.
use Prim.Native.Nat.{ℕ, zero, suc, ◌+◌, ◌-◌, ◌*◌, ◌/◌, ◌%◌, ◌≤◌, ◌<◌, min}
use mathlib.Core.Path.{◌≡◌, refl, sym, ap, ◌∙◌}
use mathlib.Core.Bool.{true}
use mathlib.Core.Logic.{⊎_elim}
use native.Mathlib.Nat.{add-zero, suc-mul, zero-mul, mul-le-mul, div-eq_of_lt, mod-eq_of_lt, add-div_left, add-mod_left, div-lt_iff_lt-mul}
use native.Mathlib.Omega.{arith}
use borrow.Author.Tests.{lt-ltb, le-ltb}
use Rattle.record.proofs.Choice.{below_or_not}
use Rattle.chip.specs.Start.{bytes_of, width_of, height_of}
use Rattle.chip.specs.Admit.{no_data, due_after}
use Rattle.chip.specs.Words.{line_words, due_in_line, due_in_all, due_after_words, NoneLeft}
use Rattle.chip.specs.declared.Due.{Due}
use Rattle.chip.specs.declared.Registers.{Registers}

-- word t of line j
abbrev pub due_at : ℕ → ℕ → Due
due_at j t = record { any = true; line = j; word = t }

-- every line has words
pub some_words : (b : Registers) → 0 < line_words b
some_words b =
    let p : 1 * 1 ≤ width_of b * bytes_of b = mul-le-mul {n₁ = 1} {m₁ = 1} {n₂ = width_of b} {m₂ = bytes_of b} (omega arith) (omega arith) in
    omega arith

pub few_words : (b : Registers) → line_words b ≤ 1024
few_words b =
    let p : width_of b * bytes_of b ≤ 1024 * 2 = mul-le-mul {n₂ = 1024} {m₂ = 2} (omega arith) (omega arith) in
    omega (arith, p)

-- ---- after one word

module _ (b : Registers) (d : Due) where
  pub same_line : d.word + 1 < line_words b → due_after b d ≡ due_at d.line (d.word + 1)
  unfolding due_after
  same_line h = rw (lt-ltb _ _ h)

  pub next_line : line_words b ≤ d.word + 1 → d.line + 1 < height_of b → due_after b d ≡ due_at (d.line + 1) 0
  unfolding due_after
  next_line h k = rw (le-ltb _ _ h, lt-ltb _ _ k)

  pub last_word : line_words b ≤ d.word + 1 → height_of b ≤ d.line + 1 → due_after b d ≡ no_data
  unfolding due_after
  last_word h k = rw (le-ltb _ _ h, le-ltb _ _ k)

-- ---- how many are due, with p words to a line, h lines, at word w of line l

-- a line goes on; its last word is left alone; the lines after this one
stays : (p w : ℕ) → w + 1 < p → p - min (w + 1) (p - 1) + 1 ≡ p - min w (p - 1)
stays p w k = omega arith

ends : (p w : ℕ) → 0 < p → p ≤ w + 1 → p - min w (p - 1) ≡ 1
ends p w some k = omega arith

lines_left : (h l p : ℕ) → l + 1 < h → (h - (l + 1)) * p ≡ (h - (l + 1 + 1)) * p + p
lines_left h l p k =
    let e : h - (l + 1) ≡ suc (h - (l + 1 + 1)) = omega arith in
    ap (λ (n : ℕ). n * p) e ∙ suc-mul (h - (l + 1 + 1)) p

no_lines : (h l p : ℕ) → h ≤ l + 1 → (h - (l + 1)) * p ≡ 0
no_lines h l p k =
    let e : h - (l + 1) ≡ 0 = omega arith in
    ap (λ (n : ℕ). n * p) e ∙ zero-mul p

module _ (b : Registers) where
  pub some_in_line : (d : Due) → 0 < due_in_line b d
  unfolding due_in_line
  some_in_line d = let some = some_words b in omega (arith, some)

  pub few_in_line : (d : Due) → due_in_line b d ≤ 1024
  unfolding due_in_line
  few_in_line d = omega (arith, few_words b)

  -- where more than one is due of the line, it goes on
  pub line_goes_on : (d : Due) → 1 < due_in_line b d → d.word + 1 < line_words b
  unfolding due_in_line
  line_goes_on d k = omega (arith, k)

  pub one_less_in_line : (d : Due) → d.word + 1 < line_words b → due_in_line b (due_at d.line (d.word + 1)) + 1 ≡ due_in_line b d
  unfolding due_in_line
  one_less_in_line d k = stays (line_words b) d.word k

  pub line_in_all : (d : Due) → due_in_line b d ≤ due_in_all b d
  unfolding due_in_all
  line_in_all d = omega arith

  -- after one of more, one less is due
  pub record More (d : Due) : Type 0 where
    pub any : (due_after b d).any ≡ true
    pub left : due_in_all b (due_after b d) + 1 ≡ due_in_all b d

  on_the_line : (d : Due) → d.word + 1 < line_words b → More d
  unfolding due_in_all
  on_the_line d k =
      let e = same_line b d k in
      record {
        any = ap (λ (x : Due). x.any) e;
        left = ap (λ (x : Due). due_in_all b x + 1) e ∙ omega (arith, one_less_in_line d k);
      }

  to_the_next : (d : Due) → line_words b ≤ d.word + 1 → d.line + 1 < height_of b → More d
  unfolding due_in_all due_in_line
  to_the_next d k q =
      let e = next_line b d k q in
      record {
        any = ap (λ (x : Due). x.any) e;
        left = ap (λ (x : Due). due_in_all b x + 1) e ∙ omega (arith, ends (line_words b) d.word (some_words b) k, lines_left (height_of b) d.line (line_words b) q);
      }

  -- the last word of the last line is the only one
  only_one : (d : Due) → line_words b ≤ d.word + 1 → height_of b ≤ d.line + 1 → due_in_all b d ≡ 1
  unfolding due_in_all due_in_line
  only_one d k q = omega (arith, ends (line_words b) d.word (some_words b) k, no_lines (height_of b) d.line (line_words b) q)

  pub more_due : (d : Due) → 1 < due_in_all b d → More d
  more_due d some =
      ⊎_elim (λ k. on_the_line d k)
      (λ k. ⊎_elim (λ q. to_the_next d k q) (λ q. absurd (omega (arith, some, only_one d k q))) (below_or_not (d.line + 1) (height_of b)))
      (below_or_not (d.word + 1) (line_words b))

  pub some_due : (d : Due) → 0 < due_in_all b d
  some_due d = omega (arith, some_in_line d, line_in_all d)

  last_due : (d : Due) → due_in_all b d ≡ 1 → due_after b d ≡ no_data
  last_due d one =
      ⊎_elim (λ k. absurd (omega (arith, one, (on_the_line d k).left, some_due (due_after b d))))
      (λ k. ⊎_elim (λ q. absurd (omega (arith, one, (to_the_next d k q).left, some_due (due_after b d)))) (λ q. last_word b d k q) (below_or_not (d.line + 1) (height_of b)))
      (below_or_not (d.word + 1) (line_words b))

  all_come : (n : ℕ) (d : Due) → due_in_all b d ≡ n → due_after_words b n d ≡ no_data
  unfolding due_after_words
  all_come zero d e = absurd (omega (arith, e, some_due d))
  all_come (suc zero) d e = last_due d e
  all_come (suc (suc n)) d e = all_come (suc n) (due_after b d) (omega (arith, e, (more_due d (omega (arith, e))).left))

-- ---- after many words

-- after all that are due
pub none_left : NoneLeft
none_left b d = all_come b (due_in_all b d) d refl

module _ (b : Registers) where
  line_words_lem : (n : ℕ) (d : Due) → suc n ≤ due_in_line b d → due_after_words b (suc n) d ≡ due_after b (due_at d.line (d.word + n))
  unfolding due_after_words due_after
  line_words_lem zero d k = ap (λ (w : ℕ). due_after b (due_at d.line w)) (sym (add-zero d.word))
  line_words_lem (suc n) d k =
      let on = line_goes_on b d (omega (arith, k)) in
      ap (due_after_words b (suc n)) (same_line b d on)
      ∙ line_words_lem n (due_at d.line (d.word + 1)) (omega (arith, k, one_less_in_line b d on))
      ∙ ap (λ (w : ℕ). due_after b (due_at d.line w)) (omega arith)

  -- within the line: as after the last of them
  pub after_line_words : (n : ℕ) (d : Due) → 0 < n → n ≤ due_in_line b d → due_after_words b n d ≡ due_after b (due_at d.line (d.word + (n - 1)))
  after_line_words zero d some k = absurd (omega (arith, some))
  after_line_words (suc n) d some k =
      line_words_lem n d k ∙ ap (λ (w : ℕ). due_after b (due_at d.line (d.word + w))) (omega arith)

  pub line_words_fit : (n : ℕ) (d : Due) → 0 < n → n ≤ due_in_line b d → d.word < 65536 → d.word + (n - 1) < 65536
  unfolding due_in_line
  line_words_fit n d some k small = omega (arith, some, k, small, few_words b)

  -- so many words from the start of line l
  abbrev counted : ℕ → ℕ → Due
  counted l n = due_at (l + n / line_words b) (n % line_words b)

  counted_on : (l n m : ℕ) → m ≡ line_words b + n → counted (l + 1) n ≡ counted l m
  counted_on l n m e =
      let q : l + 1 + n / line_words b ≡ l + m / line_words b = omega (arith, ap (λ (x : ℕ). x / line_words b) e, add-div_left n (some_words b)) in
      let r : n % line_words b ≡ m % line_words b = sym (ap (λ (x : ℕ). x % line_words b) e ∙ add-mod_left (line_words b) n) in
      λ t. due_at (q t) (r t)

  -- after n words from one of the line on
  abbrev FromWord : ℕ → Type 0
  FromWord n = (l w : ℕ) → w < line_words b → n < due_in_all b (due_at l w) → due_after_words b n (due_at l w) ≡ counted l (w + n)

  -- and after one word more, of any that is due
  after_first : (n : ℕ) → FromWord n → (d : Due) → suc n < due_in_all b d
      → due_after_words b n (due_after b d) ≡ counted d.line (min d.word (line_words b - 1) + suc n)
  after_first n from d f =
      let more = more_due b d (omega (arith, f)) in
      let some = some_words b in
      ⊎_elim
      (λ k. ap (due_after_words b n) (same_line b d k)
      ∙ from d.line (d.word + 1) k (omega (arith, f, more.left, ap (due_in_all b) (same_line b d k)))
      ∙ ap (counted d.line) (omega (arith, k)))
      (λ k. ⊎_elim
      (λ q. ap (due_after_words b n) (next_line b d k q)
      ∙ from (d.line + 1) 0 some (omega (arith, f, more.left, ap (due_in_all b) (next_line b d k q)))
      ∙ counted_on d.line (0 + n) (min d.word (line_words b - 1) + suc n) (omega (arith, k, some)))
      (λ q. absurd (omega (arith, f, only_one b d k q)))
      (below_or_not (d.line + 1) (height_of b)))
      (below_or_not (d.word + 1) (line_words b))

  from_word : (n : ℕ) → FromWord n
  unfolding due_after_words
  from_word zero l w k f =
      let q : l ≡ l + (w + 0) / line_words b = omega (arith, ap (λ (x : ℕ). x / line_words b) (add-zero w), div-eq_of_lt k) in
      let r : w ≡ (w + 0) % line_words b = sym (ap (λ (x : ℕ). x % line_words b) (add-zero w) ∙ mod-eq_of_lt k) in
      λ t. due_at (q t) (r t)
  from_word (suc n) l w k f = after_first n (from_word n) (due_at l w) f ∙ ap (λ (x : ℕ). counted l (x + suc n)) (omega (arith, k))

  -- while more are due: the lines and words that have come since the start of the due word's line
  pub after_words : (n : ℕ) (d : Due) → 0 < n → n < due_in_all b d
      → due_after_words b n d ≡ due_at (d.line + (min d.word (line_words b - 1) + n) / line_words b) ((min d.word (line_words b - 1) + n) % line_words b)
  unfolding due_after_words
  after_words zero d some f = absurd (omega (arith, some))
  after_words (suc n) d some f = after_first n (from_word n) d f

  -- they are no more than the lines that are left
  pub few_lines : (n : ℕ) (d : Due) → n < due_in_all b d → (min d.word (line_words b - 1) + n) / line_words b ≤ height_of b - (d.line + 1)
  unfolding due_in_all due_in_line
  few_lines n d f =
      let p : ℕ = line_words b in
      let k : ℕ = height_of b - (d.line + 1) in
      let some = some_words b in
      let below : min d.word (p - 1) + n < suc k * p = omega (arith, f, suc-mul k p, some) in
      let q : (min d.word (p - 1) + n) / p < suc k = (div-lt_iff_lt-mul some).1 below in
      omega (arith, q)
