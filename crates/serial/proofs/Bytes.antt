-- Bytes one after another are whole records, and a half-read one.
use Prim.Native.Nat.{ℕ, suc, ◌*◌, ◌/◌, ◌≤◌}
use mathlib.Core.Path.{◌≡◌, refl, sym, ap, subst, ◌∙◌}
use mathlib.Core.Bool.{Bool, true, false, cond}
use mathlib.Core.List.{List, [], ◌∷◌, ◌++◌}
use native.Mathlib.Omega.{arith}
use lib.Dec.{eqb}
use lib.ListN.{length, take, drop}
use borrow.Author.Tests.{ne_eqb, eqb-true, eqb-false}
use Rattle.record.specs.Bytes.{byte_at}
use Rattle.record.specs.Record.{record_at, records_from, records_of}
use Rattle.record.specs.declared.Record.{Record}
use Rattle.record.proofs.Records.{records_cons}
use Rattle.chip.specs.Admit.{refusal}
use Rattle.chip.specs.declared.Chip.{Chip}
use Rattle.serial.specs.Serial.{Stage, record_taken, byte_taken, bytes_taken}
use Rattle.serial.specs.Taking.{stage_at, records_taken}
use Rattle.serial.proofs.Taken.{record_taken_lem, record_refused, records_taken_lem, records_stop}

-- ---- bytes

pub bytes_append : (m : ℕ) (g : Stage) (a b : List ℕ) → bytes_taken m g (a ++ b) ≡ bytes_taken m (bytes_taken m g a) b
unfolding bytes_taken
bytes_append m g [] b = refl
bytes_append m g (x ∷ a) b = bytes_append m (byte_taken m g x) a b

byte_dropped : (m : ℕ) (g : Stage) (b : ℕ) → (g.state.number ≡ 0 → ⊥) → byte_taken m g b ≡ g
unfolding byte_taken
byte_dropped m g b h = rw (ne_eqb g.state.number 0 h)

-- once a record was refused, all bytes are dropped
pub bytes_dropped : (m : ℕ) (g : Stage) (bs : List ℕ) → (g.state.number ≡ 0 → ⊥) → bytes_taken m g bs ≡ g
unfolding bytes_taken
bytes_dropped m g [] h = refl
bytes_dropped m g (b ∷ bs) h = ap (λ (x : Stage). bytes_taken m x bs) (byte_dropped m g b h) ∙ bytes_dropped m g bs h

-- ---- a half-read record

-- the stage with a half-read record
abbrev pub halfway : Chip → ℕ → List ℕ → List ℕ → Stage
halfway c n h old = record { state = record { chip = c; half = h; count = n; number = 0 }; memory = old }

-- up to seven bytes are a half-read record
pub half_first : (m : ℕ) (c : Chip) (n : ℕ) (old h : List ℕ) → length h ≤ 7 → bytes_taken m (stage_at c n old) h ≡ halfway c n h old
unfolding bytes_taken byte_taken
half_first m c n old [] l = refl
half_first m c n old (a ∷ []) l = refl
half_first m c n old (a ∷ b ∷ []) l = refl
half_first m c n old (a ∷ b ∷ d ∷ []) l = refl
half_first m c n old (a ∷ b ∷ d ∷ e ∷ []) l = refl
half_first m c n old (a ∷ b ∷ d ∷ e ∷ f ∷ []) l = refl
half_first m c n old (a ∷ b ∷ d ∷ e ∷ f ∷ g ∷ []) l = refl
half_first m c n old (a ∷ b ∷ d ∷ e ∷ f ∷ g ∷ h ∷ []) l = refl
half_first m c n old (a ∷ b ∷ d ∷ e ∷ f ∷ g ∷ h ∷ i ∷ xs) l = absurd (omega arith)

-- bytes behind a half-read record are bytes behind its bytes
pub half_joined : (m : ℕ) (c : Chip) (n : ℕ) (old h bs : List ℕ) → length h ≤ 7 → bytes_taken m (halfway c n h old) bs ≡ bytes_taken m (stage_at c n old) (h ++ bs)
half_joined m c n old h bs l =
    sym (bytes_append m (stage_at c n old) h bs ∙ ap (λ (x : Stage). bytes_taken m x bs) (half_first m c n old h l))

-- ---- eight bytes

-- a list of eight bytes or more
pub record Long (s : List ℕ) : Type 0 where
  pub b₀ : ℕ
  pub b₁ : ℕ
  pub b₂ : ℕ
  pub b₃ : ℕ
  pub b₄ : ℕ
  pub b₅ : ℕ
  pub b₆ : ℕ
  pub b₇ : ℕ
  pub rest : List ℕ
  pub is : s ≡ b₀ ∷ b₁ ∷ b₂ ∷ b₃ ∷ b₄ ∷ b₅ ∷ b₆ ∷ b₇ ∷ rest

pub long : (s : List ℕ) → 8 ≤ length s → Long s
long (a ∷ b ∷ d ∷ e ∷ f ∷ g ∷ h ∷ i ∷ l) s = record { b₀ = a; b₁ = b; b₂ = d; b₃ = e; b₄ = f; b₅ = g; b₆ = h; b₇ = i; rest = l; is = refl }
long [] s = absurd (omega arith)
long (a ∷ []) s = absurd (omega arith)
long (a ∷ b ∷ []) s = absurd (omega arith)
long (a ∷ b ∷ d ∷ []) s = absurd (omega arith)
long (a ∷ b ∷ d ∷ e ∷ []) s = absurd (omega arith)
long (a ∷ b ∷ d ∷ e ∷ f ∷ []) s = absurd (omega arith)
long (a ∷ b ∷ d ∷ e ∷ f ∷ g ∷ []) s = absurd (omega arith)
long (a ∷ b ∷ d ∷ e ∷ f ∷ g ∷ h ∷ []) s = absurd (omega arith)

-- eight bytes are a record, and what is behind them comes after it
eight : (m : ℕ) (c : Chip) (n : ℕ) (old : List ℕ) (a b d e f g h i : ℕ) (l : List ℕ) → let bs = a ∷ b ∷ d ∷ e ∷ f ∷ g ∷ h ∷ i ∷ l in
    bytes_taken m (stage_at c n old) bs ≡ bytes_taken m (record_taken m (stage_at c n old) (record_at bs 0)) l
unfolding bytes_taken byte_taken record_taken record_at
eight m c n old a b d e f g h i l = refl

pub first_record : (m : ℕ) (c : Chip) (n : ℕ) (old bs : List ℕ) → 8 ≤ length bs
    → bytes_taken m (stage_at c n old) bs ≡ bytes_taken m (record_taken m (stage_at c n old) (record_at bs 0)) (drop 8 bs)
first_record m c n old bs s =
    let e = long bs s in
    subst (λ (x : List ℕ). bytes_taken m (stage_at c n old) x ≡ bytes_taken m (record_taken m (stage_at c n old) (record_at x 0)) (drop 8 x)) (sym e.is)
    (eight m c n old e.b₀ e.b₁ e.b₂ e.b₃ e.b₄ e.b₅ e.b₆ e.b₇ e.rest)

-- the first eight bytes, one by one, and the one record that they are
pub first_eight : (s : List ℕ) → 8 ≤ length s
    → byte_at s 0 ∷ byte_at s 1 ∷ byte_at s 2 ∷ byte_at s 3 ∷ byte_at s 4 ∷ byte_at s 5 ∷ byte_at s 6 ∷ byte_at s 7 ∷ [] ≡ take 8 s
first_eight s h =
    subst (λ (x : List ℕ). byte_at x 0 ∷ byte_at x 1 ∷ byte_at x 2 ∷ byte_at x 3 ∷ byte_at x 4 ∷ byte_at x 5 ∷ byte_at x 6 ∷ byte_at x 7 ∷ [] ≡ take 8 x) (sym (long s h).is) refl

pub one_record : (s : List ℕ) → 8 ≤ length s → records_of (take 8 s) ≡ record_at s 0 ∷ []
unfolding records_of records_from record_at
one_record s h = subst (λ (x : List ℕ). records_of (take 8 x) ≡ record_at x 0 ∷ []) (sym (long s h).is) refl

-- ---- all records, and what is left

-- the bytes behind the whole records
abbrev pub left_over : List ℕ → List ℕ
left_over bs = drop (length bs / 8 * 8) bs

-- bytes that are left are half read, unless a record was refused
unfoldable pub with_half : Stage → List ℕ → Stage
with_half g h = cond (eqb g.state.number 0) (halfway g.state.chip g.state.count h g.memory) g

-- the law below, of bytes behind a first record
abbrev Rest : ℕ → Stage → List ℕ → Type 0
Rest m g bs = bytes_taken m g bs ≡ with_half (records_taken m g (records_of bs)) (left_over bs)

module _ (m : ℕ) (c : Chip) (n : ℕ) (old l : List ℕ) (r : Record) where
  rest_refused : (refusal m c r ≡ 0 → ⊥) → Rest m (record_taken m (stage_at c n old) r) l
  unfolding with_half
  rest_refused e =
      rw (record_refused m c n old r e)
      (bytes_dropped m _ l e ∙ sym (ap (λ (x : Stage). with_half x (left_over l)) (records_stop m _ (records_of l) e) ∙ rw (ne_eqb (refusal m c r) 0 e)))

  rest_behind : ((c : Chip) (n : ℕ) (old : List ℕ) → Rest m (stage_at c n old) l) → (t : Bool) → eqb (refusal m c r) 0 ≡ t → Rest m (record_taken m (stage_at c n old) r) l
  rest_behind others true q = rw (record_taken_lem m c n old r (eqb-true (refusal m c r) 0 q)) (others _ _ _)
  rest_behind others false q = rest_refused (eqb-false (refusal m c r) 0 q)

left_behind : (a b d e f g h i : ℕ) (l : List ℕ) → left_over (a ∷ b ∷ d ∷ e ∷ f ∷ g ∷ h ∷ i ∷ l) ≡ left_over l
left_behind a b d e f g h i l =
    let k : ℕ = length l / 8 * 8 in
    let q : suc (suc (suc (suc (suc (suc (suc (suc (length l)))))))) / 8 * 8 ≡ suc (suc (suc (suc (suc (suc (suc (suc k))))))) = omega arith in
    ap (λ (x : ℕ). drop x (a ∷ b ∷ d ∷ e ∷ f ∷ g ∷ h ∷ i ∷ l)) q

rest_eight : (m : ℕ) (c : Chip) (n : ℕ) (old : List ℕ) (a b d e f g h i : ℕ) (l : List ℕ) → ((c : Chip) (n : ℕ) (old : List ℕ) → Rest m (stage_at c n old) l)
    → Rest m (stage_at c n old) (a ∷ b ∷ d ∷ e ∷ f ∷ g ∷ h ∷ i ∷ l)
rest_eight m c n old a b d e f g h i l others =
    let bs : List ℕ = a ∷ b ∷ d ∷ e ∷ f ∷ g ∷ h ∷ i ∷ l in
    let r : Record = record_at bs 0 in
    eight m c n old a b d e f g h i l
    ∙ rest_behind m c n old l r others (eqb (refusal m c r) 0) refl
    ∙ sym (λ t. with_half ((ap (records_taken m (stage_at c n old)) (records_cons a b d e f g h i l) ∙ records_taken_lem m (stage_at c n old) r (records_of l) refl) t) (left_behind a b d e f g h i l t))

-- bytes that begin with a record: the whole records one after another, then what is left
pub rest_taken : (m : ℕ) (c : Chip) (n : ℕ) (old bs : List ℕ) → bytes_taken m (stage_at c n old) bs ≡ with_half (records_taken m (stage_at c n old) (records_of bs)) (left_over bs)
unfolding bytes_taken byte_taken with_half records_taken records_of records_from
rest_taken m c n old [] = refl
rest_taken m c n old (a ∷ []) = refl
rest_taken m c n old (a ∷ b ∷ []) = refl
rest_taken m c n old (a ∷ b ∷ d ∷ []) = refl
rest_taken m c n old (a ∷ b ∷ d ∷ e ∷ []) = refl
rest_taken m c n old (a ∷ b ∷ d ∷ e ∷ f ∷ []) = refl
rest_taken m c n old (a ∷ b ∷ d ∷ e ∷ f ∷ g ∷ []) = refl
rest_taken m c n old (a ∷ b ∷ d ∷ e ∷ f ∷ g ∷ h ∷ []) = refl
rest_taken m c n old (a ∷ b ∷ d ∷ e ∷ f ∷ g ∷ h ∷ i ∷ l) = rest_eight m c n old a b d e f g h i l (λ c n old. rest_taken m c n old l)
