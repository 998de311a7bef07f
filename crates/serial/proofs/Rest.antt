-- The bytes of a block as the code takes them: a half-read record that the block does or does not make whole, whole records, and what is left.
use Prim.Native.Nat.{ℕ, ◌+◌, ◌-◌, ◌*◌, ◌/◌, ◌≤◌}
use mathlib.Core.Path.{◌≡◌, refl, sym, ap, ◌∙◌}
use mathlib.Core.List.{List, [], ◌++◌}
use native.Mathlib.Omega.{arith}
use lib.ListN.{length, take, drop, replicate, length-append, length-drop}
use lib.Seq.{length-take-le, take_all, take-append_seam, drop-append-add}
use borrow.Author.Tests.{eq-eqb, ne_eqb}
use Rattle.record.specs.Bytes.{over}
use Rattle.record.specs.Record.{record_at, records_of}
use Rattle.record.specs.declared.Record.{Record}
use Rattle.chip.specs.declared.Chip.{Chip}
use Rattle.serial.specs.State.{State, held_by, chip_of, state_of}
use Rattle.serial.specs.Serial.{Stage, record_taken, bytes_taken}
use Rattle.serial.specs.Taking.{stage_at, stage_of, records_taken}
use Rattle.serial.specs.declared.Player.{Player}
use Rattle.serial.specs.declared.Taking.{Taking}
use Rattle.serial.proofs.Taken.{records_taken_lem, records_end}
use Rattle.serial.proofs.Bytes.{bytes_dropped, halfway, half_first, half_joined, first_record, one_record, left_over, with_half, rest_taken}

-- records on the way of which none was refused
pub on_the_way : (t : Taking) (memory : List ℕ) → t.number ≡ 0 → stage_of t memory ≡ stage_at t.chip t.count memory
on_the_way t memory e = λ u. stage_of (record { chip = t.chip; count = t.count; number = e u }) memory

-- ---- the array of a half-read record

-- the part of a slice from a place on
pub part_left : (s : List ℕ) (k : ℕ) → take (length s - k) (drop k s) ≡ drop k s
part_left s k = take_all (length s - k) (drop k s) (omega (arith, length-drop k s))

pub few_left : (s : List ℕ) → length (left_over s) ≤ 7
few_left s = omega (arith, length-drop (length s / 8 * 8) s)

-- bytes over zeros are its first bytes
pub first_bytes : (h half : List ℕ) → half ≡ over h (replicate 7 0) → take (length h) half ≡ h
first_bytes h half e = ap (take (length h)) e ∙ take-append_seam h (drop (length h) (replicate 7 0))

pub over_itself : (h half : List ℕ) → half ≡ over h (replicate 7 0) → half ≡ over (take (length h) half) (replicate 7 0)
over_itself h half e = e ∙ ap (λ (x : List ℕ). over x (replicate 7 0)) (sym (first_bytes h half e))

-- ---- bytes that begin with a record

module _ (m : ℕ) (start t : Taking) (old new bytes : List ℕ) (fresh : start.number ≡ 0)
    (taken : stage_of t new ≡ records_taken m (stage_of start old) (records_of bytes)) where
  from_start : bytes_taken m (stage_of start old) bytes ≡ with_half (stage_of t new) (left_over bytes)
  from_start =
      ap (λ (g : Stage). bytes_taken m g bytes) (on_the_way start old fresh)
      ∙ rest_taken m start.chip start.count old bytes
      ∙ ap (λ (g : Stage). with_half g (left_over bytes)) (sym (taken ∙ ap (λ (g : Stage). records_taken m g (records_of bytes)) (on_the_way start old fresh)))

  pub rest_refused : (t.number ≡ 0 → ⊥) → stage_of t new ≡ bytes_taken m (stage_of start old) bytes
  unfolding with_half
  rest_refused h = sym (from_start ∙ rw (ne_eqb t.number 0 h))

  pub rest_left : t.number ≡ 0 → halfway t.chip t.count (left_over bytes) new ≡ bytes_taken m (stage_of start old) bytes
  unfolding with_half
  rest_left e = sym (from_start ∙ rw (eq-eqb t.number 0 e))

  -- the state with what is left in an array
  pub left_state : t.number ≡ 0 → (rest half : List ℕ) → rest ≡ left_over bytes → half ≡ over rest (replicate 7 0)
      → ◌≡◌ {A = State} (record { chip = t.chip; half = take (length rest) half; count = t.count; number = t.number }) (bytes_taken m (stage_of start old) bytes).state
  left_state e rest half part is =
      (λ u. record { chip = t.chip; half = (first_bytes rest half is ∙ part) u; count = t.count; number = e u })
      ∙ ap (λ (g : Stage). g.state) (rest_left e)

-- ---- a block behind a player: c and held are its chip, and the bytes that it holds

module _ (m : ℕ) (p : Player) (old block : List ℕ) (c : Chip) (chip : c ≡ chip_of p) (held : ℕ) (is : held ≡ held_by p) where
  abbrev held_bytes : List ℕ
  held_bytes = take held p.half

  abbrev fed : Stage
  fed = bytes_taken m (record { state = state_of p; memory = old }) block

  from_player : bytes_taken m (halfway c p.count held_bytes old) block ≡ fed
  unfolding state_of
  from_player = λ u. bytes_taken m (halfway (chip u) p.count (take (is u) p.half) old) block

  -- nothing was half read
  pub none_held : held ≡ 0 → bytes_taken m (stage_at c p.count old) block ≡ fed
  none_held e = (λ u. bytes_taken m (halfway c p.count (take (sym e u) p.half) old) block) ∙ from_player

  module _ (seven : length p.half ≡ 7) where
    held_is : length held_bytes ≡ held
    held_is = length-take-le held p.half (omega arith)

    joined_is : length (held_bytes ++ block) ≡ held + length block
    joined_is = length-append held_bytes block ∙ ap (λ (k : ℕ). k + length block) held_is

    behind : bytes_taken m (stage_at c p.count old) (held_bytes ++ block) ≡ fed
    behind = sym (half_joined m c p.count old held_bytes block (omega (arith, held_is))) ∙ from_player

    -- the block does not make the record whole
    pub still_half : held + length block ≤ 7 → halfway c p.count (held_bytes ++ block) old ≡ fed
    still_half few = sym (half_first m c p.count old (held_bytes ++ block) (omega (arith, joined_is))) ∙ behind

    pub half_state : held + length block ≤ 7 → (half : List ℕ) → half ≡ over (held_bytes ++ block) (replicate 7 0)
        → ◌≡◌ {A = State} (record { chip = c; half = take (held + length block) half; count = p.count; number = 0 }) fed.state
    half_state few half e =
        (λ u. record { chip = c; half = (ap (λ (k : ℕ). take k half) (sym joined_is) ∙ first_bytes (held_bytes ++ block) half e) u; count = p.count; number = 0 })
        ∙ ap (λ (g : Stage). g.state) (still_half few)

    pub half_array : (half : List ℕ) → half ≡ over (held_bytes ++ block) (replicate 7 0) → half ≡ over (take (held + length block) half) (replicate 7 0)
    half_array half e = over_itself (held_bytes ++ block) half e ∙ ap (λ (k : ℕ). over (take k half) (replicate 7 0)) joined_is

    -- it makes a record, which gives t; the rest of the block comes behind it
    module _ (many : 8 ≤ held + length block) (first : List ℕ) (whole : first ≡ take 8 (held_bytes ++ block)) (t : Taking) (new : List ℕ)
        (taken : stage_of t new ≡ records_taken m (stage_at c p.count old) (records_of first)) where
      after_record : bytes_taken m (stage_of t new) (drop (8 - held) block) ≡ fed
      after_record =
          let l : 8 ≤ length (held_bytes ++ block) = omega (arith, joined_is) in
          let r : Record = record_at (held_bytes ++ block) 0 in
          let e : length held_bytes + (8 - held) ≡ 8 = omega (arith, held_is) in
          let rest : drop (8 - held) block ≡ drop 8 (held_bytes ++ block) = sym (ap (λ (k : ℕ). drop k (held_bytes ++ block)) (sym e) ∙ drop-append-add held_bytes block (8 - held)) in
          let one : stage_of t new ≡ record_taken m (stage_at c p.count old) r =
          taken ∙ ap (λ (s : List ℕ). records_taken m (stage_at c p.count old) (records_of s)) whole
          ∙ ap (records_taken m (stage_at c p.count old)) (one_record (held_bytes ++ block) l)
          ∙ records_taken_lem m (stage_at c p.count old) r [] refl ∙ records_end m (record_taken m (stage_at c p.count old) r) in
          (λ u. bytes_taken m (one u) (rest u)) ∙ sym (first_record m c p.count old (held_bytes ++ block) l) ∙ behind

      pub whole_refused : (t.number ≡ 0 → ⊥) → stage_of t new ≡ fed
      whole_refused h = sym (bytes_dropped m (stage_of t new) (drop (8 - held) block) h) ∙ after_record

      pub whole_taken : bytes_taken m (stage_of t new) (take (length block - (8 - held)) (drop (8 - held) block)) ≡ fed
      whole_taken = ap (bytes_taken m (stage_of t new)) (part_left block (8 - held)) ∙ after_record
