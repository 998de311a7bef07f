-- Records out of a stream's bytes.
use Prim.Native.Nat.{ℕ, zero, suc, ◌+◌, ◌-◌, ◌*◌, ◌/◌, ◌%◌, ◌^◌, ◌≤◌, ◌<◌, min}
use mathlib.Core.Path.{◌≡◌, refl, sym, ap, ◌∙◌}
use mathlib.Core.List.{List, [], ◌∷◌, ◌++◌}
use native.Mathlib.Nat.{add-zero, zero-add, suc-add, zero-min, min-zero, div-div-eq-div-mul, div-add-mod', mod-eq_of_lt}
use native.Mathlib.Numerals.{add-one}
use native.Mathlib.Omega.{arith}
use lib.ListN.{length, get_or, take}
use Rattle.record.specs.Bytes.{byte_at, u16_at, u32_at}
use Rattle.record.specs.Record.{record_bytes, stream_bytes, record_at, records_from, records_of}
use Rattle.record.specs.declared.Record.{Record}
use Rattle.record.proofs.Stores.{length_stream}

-- every number and value has 32 bits
unfoldable pub Small : List Record → Type 0
Small [] = Unit {0}
Small (r ∷ rs) = (r.number < 2 ^ 32) × (r.value < 2 ^ 32) × Small rs

pub small_append : (a b : List Record) → Small a → Small b → Small (a ++ b)
unfolding Small
small_append [] b p q = q
small_append (r ∷ a) b p q = (p.0, p.1, small_append a b p.2 q)

-- ---- walking a stream record by record
pub records_step_lem : (s : List ℕ) (i n : ℕ) → i < n → records_from s i (n - i) ≡ record_at s i ∷ records_from s (i + 1) (n - (i + 1))
unfolding records_from
records_step_lem s i n h = let e : n - i ≡ suc (n - (i + 1)) = omega arith in rw (e, add-one)

pub records_end : (s : List ℕ) (n : ℕ) → records_from s n (n - n) ≡ []
unfolding records_from
records_end s n = let e : n - n ≡ 0 = omega arith in rw e

pub length_from : (s : List ℕ) (i n : ℕ) → length (records_from s i n) ≡ n
unfolding records_from
length_from s i zero = refl
length_from s i (suc n) = ap suc (length_from s (suc i) n)

pub length_records : (s : List ℕ) → length (records_of s) ≡ length s / 8
unfolding records_of
length_records s = length_from s 0 (length s / 8)

-- some records, and those behind them
records_split : (s : List ℕ) (i k n : ℕ) → records_from s i (k + n) ≡ records_from s i k ++ records_from s (i + k) n
unfolding records_from
records_split s i zero n = λ t. records_from s (sym (add-zero i) t) (zero-add n t)
records_split s i (suc k) n =
    let e : suc i + k ≡ i + suc k = omega arith in
    ap (records_from s i) (suc-add k n)
    ∙ (λ t. record_at s i ∷ (records_split s (suc i) k n ∙ ap (λ (j : ℕ). records_from s (suc i) k ++ records_from s j n) e) t)

pub records_run : (s : List ℕ) (i k n : ℕ) → i + k ≤ n → records_from s i (n - i) ≡ records_from s i k ++ records_from s (i + k) (n - (i + k))
records_run s i k n h = let e : n - i ≡ k + (n - (i + k)) = omega arith in ap (records_from s i) e ∙ records_split s i k (n - (i + k))

pub records_take : (s : List ℕ) (k i n : ℕ) → take k (records_from s i n) ≡ records_from s i (min k n)
unfolding records_from
records_take s zero i n = ap (records_from s i) (sym (zero-min n))
records_take s (suc k) i zero = ap (records_from s i) (sym (min-zero (suc k)))
records_take s (suc k) i (suc n) =
    let e : min (suc k) (suc n) ≡ suc (min k n) = omega arith in
    (λ t. record_at s i ∷ records_take s k (suc i) n t) ∙ ap (records_from s i) (sym e)

-- ---- the bytes of a number give the number
digits : (n a b c r₀ r₁ r₂ : ℕ) → a * 256 + r₀ ≡ n → b * 256 + r₁ ≡ a → c * 256 + r₂ ≡ b → r₀ + 256 * r₁ + 65536 * (r₂ + 256 * c) ≡ n
digits n a b c r₀ r₁ r₂ p q r = omega arith

pub number_back : (n : ℕ) → n < 2 ^ 32 → n % 256 + 256 * (n / 256 % 256) + 65536 * (n / 65536 % 256 + 256 * (n / 16777216 % 256)) ≡ n
number_back n h =
    let top : n / 16777216 % 256 ≡ n / 16777216 = mod-eq_of_lt (omega arith) in
    ap (λ (c : ℕ). n % 256 + 256 * (n / 256 % 256) + 65536 * (n / 65536 % 256 + 256 * c)) top
    ∙ digits n (n / 256) (n / 65536) (n / 16777216) (n % 256) (n / 256 % 256) (n / 65536 % 256) (div-add-mod' n 256)
    (ap (λ (b : ℕ). b * 256 + n / 256 % 256) (sym (div-div-eq-div-mul n 256 256)) ∙ div-add-mod' (n / 256) 256)
    (ap (λ (c : ℕ). c * 256 + n / 65536 % 256) (sym (div-div-eq-div-mul n 65536 256)) ∙ div-add-mod' (n / 65536) 256)

-- ---- one record in front
module _ (a b c d e f g h : ℕ) (l : List ℕ) where
  abbrev eight : List ℕ
  eight = a ∷ b ∷ c ∷ d ∷ e ∷ f ∷ g ∷ h ∷ l

  past : (i j : ℕ) → i ≡ 8 + j → byte_at eight i ≡ byte_at l j
  past i j q =
      let r : i ≡ suc (suc (suc (suc (suc (suc (suc (suc j))))))) = omega arith in
      ap (λ (n : ℕ). get_or eight n 0) r

  past_16 : (i j : ℕ) → i ≡ 8 + j → u16_at eight i ≡ u16_at l j
  past_16 i j q = λ t. past i j q t + 256 * past (i + 1) (j + 1) (omega arith) t

  past_32 : (i j : ℕ) → i ≡ 8 + j → u32_at eight i ≡ u32_at l j
  past_32 i j q = λ t. past_16 i j q t + 65536 * past_16 (i + 2) (j + 2) (omega arith) t

  record_past : (i : ℕ) → record_at eight (suc i) ≡ record_at l i
  unfolding record_at
  record_past i = λ t. record { number = past_32 (8 * suc i) (8 * i) (omega arith) t; value = past_32 (8 * suc i + 4) (8 * i + 4) (omega arith) t }

  records_past : (i n : ℕ) → records_from eight (suc i) n ≡ records_from l i n
  unfolding records_from
  records_past i zero = refl
  records_past i (suc n) = λ t. record_past i t ∷ records_past (suc i) n t

  -- eight bytes are the first record, and the others are those of what is behind them
  pub records_cons : records_of eight ≡ record_at eight 0 ∷ records_of l
  unfolding records_from records_of
  records_cons =
      let e : length eight / 8 ≡ suc (length l / 8) = omega arith in
      ap (records_from eight 0) e ∙ (λ t. record_at eight 0 ∷ records_past 0 (length l / 8) t)

-- the first record of a stream
record_front : (r : Record) (rs : List Record) → r.number < 2 ^ 32 → r.value < 2 ^ 32 → record_at (stream_bytes (r ∷ rs)) 0 ≡ r
unfolding record_at stream_bytes record_bytes
record_front r rs p q = λ t. record { number = number_back r.number p t; value = number_back r.value q t }

records_behind : (r : Record) (rs : List Record) (i n : ℕ) → records_from (stream_bytes (r ∷ rs)) (suc i) n ≡ records_from (stream_bytes rs) i n
unfolding stream_bytes record_bytes
records_behind r rs i n = records_past _ _ _ _ _ _ _ _ (stream_bytes rs) i n

back : (rs : List Record) → Small rs → records_from (stream_bytes rs) 0 (length rs) ≡ rs
unfolding records_from Small
back [] p = refl
back (r ∷ rs) p = λ t. record_front r rs p.0 p.1 t ∷ (records_behind r rs 0 (length rs) ∙ back rs p.2) t

-- the records of a stream's bytes are the stream
pub records_back : (rs : List Record) → Small rs → records_of (stream_bytes rs) ≡ rs
unfolding records_of
records_back rs p =
    let e : length (stream_bytes rs) / 8 ≡ length rs = omega (arith, length_stream rs) in
    ap (λ (n : ℕ). records_from (stream_bytes rs) 0 n) e ∙ back rs p

-- a stream's bytes have a record for each eight of them
pub records_count : (s : List ℕ) → length (records_of s) ≡ length s / 8
unfolding records_of
records_count s = length_from s 0 (length s / 8)
