-- A record of 32 bytes and its long form are the same command, and have the same refusal where the operation is not above 2; and so are lists of them.
use Prim.Native.Nat.{ℕ, suc, ◌+◌, ◌-◌, ◌*◌, ◌≤◌}
use mathlib.Core.Path.{◌≡◌, refl, sym, ap, ◌∙◌}
use mathlib.Core.List.{List, [], ◌∷◌, ◌++◌, map}
use mathlib.Core.Bool.{Bool, true, false, not, ◌&&◌, ◌||◌, cond}
use native.Mathlib.Omega.{arith}
use lib.ListN.{length, take, drop, replicate, length-drop}
use lib.Seq.{drop-append-le, take-append-le}
use lib.Dec.{leb, ltb, eqb}
use borrow.Author.Tests.{leb-true, le-leb}
use Rattle.record.specs.Bytes.{byte_at, u16_at, all_zero}
use Rattle.record.specs.Checks.{first_of}
use Rattle.record.specs.declared.Record.{Record}
use Rattle.record.proofs.Choice.{and_left, and_right}
use Rattle.screen.specs.declared.Screen.{Screen}
use Rattle.command.specs.Command.{command_of, by_operation, last_operation, must_be_zero, zeros_from, pattern_fits, formed, words_taken, command_rows, refusal}
use Rattle.command.specs.Task.{short_form, first_refusal, all_words}
use Rattle.command.specs.declared.Command.{Command}
use Rattle.command.proofs.Operation.{by_fill, by_move, by_write, each}
use Rattle.compiler.specs.Stream.{command_records, draw_records}
use Rattle.unit.specs.Sheet.{sheet_command, sheet_commands}
use Rattle.form.specs.Turn.{record_in}
use Rattle.form.specs.Claims.{none_above}
use Rattle.form.proofs.Lists.{Each}
use Rattle.form.proofs.Records.{read_behind, zero_behind, record_is}

-- ---- zeros behind a record
module _ (b : List ℕ) (n : ℕ) where
  abbrev longer : List ℕ
  longer = b ++ replicate n 0

  byte : (k : ℕ) → byte_at longer k ≡ byte_at b k
  byte k = read_behind b n k

  word : (k : ℕ) → u16_at longer k ≡ u16_at b k
  word k = λ t. byte k t + 256 * byte (k + 1) t

  pub command_longer : command_of longer ≡ command_of b
  unfolding command_of
  command_longer =
      λ t.
      record {
        operation = byte 0 t;
        surface = byte 1 t;
        raster = byte 2 t;
        x = word 4 t;
        y = word 6 t;
        width = word 8 t;
        height = word 10 t;
        sx = word 12 t;
        sy = word 14 t;
        colour = word 16 t;
        key = word 32 t;
        px = byte 34 t;
        py = byte 35 t;
        pattern = word 36 t + 65536 * word 38 t;
      }

  module _ (m : ℕ) (s : Screen) (h : length b ≡ short_form) where
    spare : take 14 (drop 18 longer) ≡ take 14 (drop 18 b)
    spare =
        ap (take 14) (drop-append-le 18 b (replicate n 0) (omega (arith, h)))
        ∙ take-append-le 14 (drop 18 b) (replicate n 0) (omega (arith, h, length-drop 18 b))

    -- where the operation is not above 2, it is one of either form, and the zeros begin at byte 32
    low_last : (x : List ℕ) (op : ℕ) → op ≤ 2 → leb op (last_operation x) ≡ true
    low_last x op low = either (ltb (length x) 48)
      where
        either : (t : Bool) → leb op (cond t 2 5) ≡ true
        either true = le-leb op 2 low
        either false = le-leb op 5 (omega (arith, low))

    zeros_from_lem : (op : ℕ) → op ≤ 2 → zeros_from op ≡ 32
    zeros_from_lem op low =
        each op (λ e. by_fill op _ _ _ _ _ _ e) (λ e. by_move op _ _ _ _ _ _ e) (λ e. by_write op _ _ _ _ _ _ e)
        (λ e. absurd (omega (arith, low))) (λ e. absurd (omega (arith, low))) (λ p0 p1 p2 p3 p4. absurd (omega (arith, low)))

    behind : (op : ℕ) → op ≤ 2 → all_zero (drop (zeros_from op) longer) ≡ all_zero (drop (zeros_from op) b)
    behind op low =
        ap (λ (k : ℕ). all_zero (drop k longer)) (zeros_from_lem op low)
        ∙ ap all_zero (drop-append-le 32 b (replicate n 0) (omega (arith, h))) ∙ zero_behind (drop 32 b) n
        ∙ sym (ap (λ (k : ℕ). all_zero (drop k b)) (zeros_from_lem op low))

    formed_longer : (c : Command) → c.operation ≤ 2 → formed m s longer c ≡ formed m s b c
    unfolding formed
    formed_longer c low =
        λ t.
        (low_last longer c.operation low ∙ sym (low_last b c.operation low)) t
        && (leb c.surface s.flag
        && (leb c.raster 15
        && ((not (eqb s.depth 8) || (leb c.colour 255 && leb c.key 255))
        && (all_zero (must_be_zero c)
        && (eqb (byte 3 t) 0
        && (all_zero (spare t)
        && (behind c.operation low t
        && by_operation c.operation true true true (pattern_fits m s c) (pattern_fits m s c) true)))))))

    rows_longer : (left : ℕ) (c : Command) → c.operation ≤ 2 → command_rows m s left longer c ≡ command_rows m s left b c
    unfolding command_rows
    rows_longer left c low = rw (formed_longer c low)

    refusal_longer : (left : ℕ) → (command_of b).operation ≤ 2 → refusal m s left longer ≡ refusal m s left b
    unfolding refusal
    refusal_longer left low =
        ap (λ (c : Command). first_of (command_rows m s left longer c)) command_longer ∙ ap first_of (rows_longer left (command_of b) low)

-- ---- a record of 32 bytes in a form
module _ (form : ℕ) (b : List ℕ) (h : length b ≡ short_form) where
  pub command_same : command_of (record_in form b) ≡ command_of b
  command_same = ap command_of (record_is form b h) ∙ command_longer b (form - short_form)

  refusal_same : (m : ℕ) (s : Screen) (left : ℕ) → byte_at b 0 ≤ 2 → refusal m s left (record_in form b) ≡ refusal m s left b
  unfolding command_of
  refusal_same m s left low = ap (refusal m s left) (record_is form b h) ∙ refusal_longer b (form - short_form) m s h left low

-- ---- and lists of them
pub first_same : (form m : ℕ) (s : Screen) (i left : ℕ) (bs : List (List ℕ)) → Each short_form bs → none_above bs ≡ true
    → first_refusal m s i left (map (record_in form) bs) ≡ first_refusal m s i left bs
unfolding Each first_refusal none_above
first_same form m s i left [] e low = refl
first_same form m s i left (b ∷ bs) e low =
    let turned = map (record_in form) bs in
    let taken = ap (words_taken s) (command_same form b e.0) in
    let rest : first_refusal m s (suc i) (left - words_taken s (command_of (record_in form b))) turned ≡ first_refusal m s (suc i) (left - words_taken s (command_of b)) bs =
    ap (λ (n : ℕ). first_refusal m s (suc i) (left - n) turned) taken
    ∙ first_same form m s (suc i) (left - words_taken s (command_of b)) bs e.1 (and_right (leb (byte_at b 0) 2) _ low) in
    let same = refusal_same form b e.0 m s left (leb-true (byte_at b 0) 2 (and_left (leb (byte_at b 0) 2) _ low)) in
    λ t. cond (eqb (same t) 0) (rest t) (record { number = same t; place = i })

module _ (form : ℕ) (s : Screen) where
  abbrev turned : List (List ℕ) → List (List ℕ)
  turned bs = map (record_in form) bs

  pub words_same : (bs : List (List ℕ)) → Each short_form bs → all_words s (turned bs) ≡ all_words s bs
  unfolding Each all_words
  words_same [] e = refl
  words_same (b ∷ bs) e = λ t. words_taken s (command_same form b e.0 t) + words_same bs e.1 t

  pub draw_same : (words : List ℕ) (bs : List (List ℕ)) → Each short_form bs → draw_records s words (turned bs) ≡ draw_records s words bs
  unfolding Each draw_records
  draw_same words [] e = refl
  draw_same words (b ∷ bs) e =
      let n = words_taken s (command_of b) in
      ap (λ (c : Command). command_records s c (take (words_taken s c) words) ++ draw_records s (drop (words_taken s c) words) (turned bs)) (command_same form b e.0)
      ∙ ap (λ (rs : List Record). command_records s (command_of b) (take n words) ++ rs) (draw_same (drop n words) bs e.1)

  pub sheet_same : (words old : List ℕ) (bs : List (List ℕ)) → Each short_form bs → sheet_commands s (turned bs) words old ≡ sheet_commands s bs words old
  unfolding Each sheet_commands
  sheet_same words old [] e = refl
  sheet_same words old (b ∷ bs) e =
      let n = words_taken s (command_of b) in
      ap (λ (c : Command). sheet_commands s (turned bs) (drop (words_taken s c) words) (sheet_command s c (take (words_taken s c) words) old)) (command_same form b e.0)
      ∙ sheet_same (drop n words) (sheet_command s (command_of b) (take n words) old) bs e.1
