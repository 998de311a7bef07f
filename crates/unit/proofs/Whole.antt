-- A whole screen, list and host words that compile: the stream's records, played from a new chip.
use mathlib.Core.Path.{◌≡◌, refl, sym, ap, subst, ◌∙◌}
use mathlib.Core.Bool.{Bool, true, false, cond, true≢false}
use mathlib.Core.List.{List, [], ◌∷◌}
use Prim.Native.Nat.{ℕ, zero, suc, ◌/◌, ◌%◌, ◌^◌, ◌≤◌, ◌<◌}
use native.Mathlib.Nat.{div-le_self}
use native.Mathlib.Omega.{arith}
use lib.Dec.{eqb, leb, lit<}
use lib.ListN.{length, get_or, take, drop}
use borrow.Author.Tests.{eqb-true, leb-true}
use Rattle.record.specs.Lists.{AllBelow}
use Rattle.record.specs.declared.Record.{Record}
use Rattle.record.proofs.Choice.{and_right, or_elim}
use Rattle.record.proofs.Records.{Small}
use Rattle.record.proofs.Lists.{length_parts, below_parts, below_tabulate}
use Rattle.pixel.specs.Pixel.{byte_of}
use Rattle.screen.specs.Values.{values_of}
use Rattle.screen.specs.Fields.{up_to}
use Rattle.screen.specs.declared.Screen.{Screen}
use Rattle.screen.proofs.Fits.{values_pass, edges_say}
use Rattle.command.specs.Command.{command_of, words_taken}
use Rattle.command.specs.declared.Command.{Command}
use Rattle.command.specs.Task.{Task, screen_in, commands_in}
use Rattle.command.proofs.Task.{Accepted}
use Rattle.compiler.specs.Stream.{records_with, screen_records, draw_records, records_for, records_in}
use Rattle.chip.specs.Register.{fits, control_fits, command_fits}
use Rattle.chip.specs.Admit.{chip_after}
use Rattle.chip.specs.Play.{new_chip}
use Rattle.chip.specs.declared.Chip.{Chip}
use Rattle.chip.specs.Play.{Running}
use Rattle.chip.proofs.Runs.{Admitted, all_admitted}
use Rattle.chip.proofs.Plays.{Plays, plays_append, new_idle}
use Rattle.chip.proofs.Commands.{screen_writes_lem, quiet, screen_played}
use Rattle.chip.proofs.Admits.{admits}
use Rattle.unit.specs.Sheet.{changes, sheet_byte, sheet_command, sheet_commands}
use Rattle.unit.proofs.Listed.{Ends, length_sheet, list_ends}

-- ---- the records of the stream, from a new chip
screen_records_lem : (s : Screen) → screen_records s ≡ screen_writes_lem (values_of s)
unfolding screen_records records_with
screen_records_lem s = refl

module _ (m : ℕ) (small : m ≤ 262144) (t : Task) (c : Accepted m t) (byte-list : AllBelow 256 t.list) (word-list : AllBelow 65536 t.words) where
  abbrev s : Screen
  s = screen_in t

  some_bytes : 0 < length (commands_in t) → 0 < length t.list
  some_bytes h = omega (arith, h, length_parts t.form t.list, div-le_self (length t.list) t.form)

  -- the commands, behind the six screen records
  pub rest_ends : (memory : List ℕ) → length memory ≡ m
      → Ends m (quiet (values_of s) new_chip.blit) (draw_records s t.words (commands_in t)) memory (sheet_commands s (commands_in t) t.words memory)
  rest_ends memory len =
      list_ends m s c.fields c.flag small (commands_in t) (λ h. c.deep (some_bytes h)) t.words c.fine (below_parts 256 t.form t.list byte-list) word-list (sym c.taken)
      (quiet (values_of s) new_chip.blit) refl memory len

  pub whole_plays : (memory : List ℕ) (len : length memory ≡ m)
      → Plays m new_chip (records_in t) memory (rest_ends memory len).chip (sheet_commands s (commands_in t) t.words memory)
  unfolding records_for
  whole_plays memory len =
      plays_append
      (subst (λ (rs : List Record). Plays m new_chip rs memory (quiet (values_of s) new_chip.blit) memory) (sym (screen_records_lem s))
      (screen_played m new_chip (values_of s) memory new_idle (values_pass m s small c.fields c.flag)))
      (rest_ends memory len).plays

-- ---- admitted records fit their eight bytes
-- a value in the field of a listed register: the row that has it
at_row : {P : Type 0} (n k : ℕ) (x y : Bool) → cond (eqb n k) x y ≡ true → (n ≡ k → x ≡ true → P) → (y ≡ true → P) → P
at_row {P} n k x y e f g = chosen (eqb n k) refl e
  where
    chosen : (t : Bool) → eqb n k ≡ t → cond t x y ≡ true → P
    chosen true h q = f (eqb-true n k h) q
    chosen false h q = g q

control_high : (v : ℕ) → control_fits v ≡ true → v / 65536 < 65536
control_high v h =
    or_elim (eqb (v / 65536) 0) (eqb (v / 65536) 4) (and_right (leb (v % 65536) 1) _ h)
    (λ e. omega (arith, eqb-true (v / 65536) 0 e)) (λ e. omega (arith, eqb-true (v / 65536) 4 e))

command_high : (v : ℕ) → command_fits v ≡ true → v / 65536 < 65536
command_high v h = omega (arith, leb-true (v / 65536) 15 (and_right (leb (v % 65536) 15) _ h))

abbrev FourBytes : ℕ → ℕ → Type 0
FourBytes n v = (n < 2 ^ 32) × (v < 2 ^ 32)

up_to_lem : (n k last v : ℕ) → k < 2 ^ 32 → last < 2 ^ 32 → n ≡ k → up_to last v ≡ true → FourBytes n v
up_to_lem n k last v hk hl e h = (omega arith, omega (arith, leb-true v last h))

halves : (n k v : ℕ) → k < 2 ^ 32 → v / 65536 < 65536 → n ≡ k → FourBytes n v
halves n k v hk h e = (omega arith, omega arith)

fits_small : (n v : ℕ) → fits n v ≡ true → FourBytes n v
unfolding fits
fits_small n v e =
    at_row n 0x40 _ _ e (up_to_lem n 0x40 0xFFFF v (lit< tt) (lit< tt))
    (λ e. at_row n 0x44 _ _ e (up_to_lem n 0x44 0x3FF v (lit< tt) (lit< tt))
    (λ e. at_row n 0x50 _ _ e (up_to_lem n 0x50 0xFFFF v (lit< tt) (lit< tt))
    (λ e. at_row n 0x54 _ _ e (up_to_lem n 0x54 0x3FF v (lit< tt) (lit< tt))
    (λ e. at_row n 0x58 _ _ e (λ q h. halves n 0x58 v (lit< tt) (omega (arith, (edges_say v h).end)) q)
    (λ e. at_row n 0x5C _ _ e (λ q h. halves n 0x5C v (lit< tt) (omega (arith, (edges_say v h).end)) q)
    (λ e. at_row n 0x8000 _ _ e (λ q h. halves n 0x8000 v (lit< tt) (control_high v h) q)
    (λ e. at_row n 0x8008 _ _ e (λ q h. halves n 0x8008 v (lit< tt) (command_high v h) q)
    (λ e. at_row n 0x800C _ _ e (up_to_lem n 0x800C 0x3FFFF v (lit< tt) (lit< tt))
    (λ e. at_row n 0x8010 _ _ e (up_to_lem n 0x8010 0x3FFFF v (lit< tt) (lit< tt))
    (λ e. at_row n 0x8014 _ _ e (up_to_lem n 0x8014 0x7FF v (lit< tt) (lit< tt))
    (λ e. at_row n 0x8018 _ _ e (up_to_lem n 0x8018 0x3FF v (lit< tt) (lit< tt))
    (λ e. at_row n 0x801C _ _ e (up_to_lem n 0x801C 0x3FF v (lit< tt) (lit< tt))
    (λ e. at_row n 0x8020 _ _ e (up_to_lem n 0x8020 0xFFFF v (lit< tt) (lit< tt))
    (λ e. at_row n 0x8024 _ _ e (up_to_lem n 0x8024 0xFFFF v (lit< tt) (lit< tt))
    (λ e. at_row n 0x10000 _ _ e (up_to_lem n 0x10000 0xFFFF v (lit< tt) (lit< tt))
    (λ e. absurd (true≢false (sym e))))))))))))))))))

admitted_small : (m : ℕ) (c : Chip) (rs : List Record) → Admitted m c rs → Small rs
unfolding Admitted Small
admitted_small m c [] a = tt
admitted_small m c (r ∷ rs) a =
    let f = fits_small r.number r.value (admits m c r a.0).field in
    (f.0, f.1, admitted_small m (chip_after c r) rs a.1)

pub plays_small : (m : ℕ) (c c' : Chip) (rs : List Record) (old new : List ℕ) → Plays m c rs old c' new → Small rs
plays_small m c c' rs old new p = admitted_small m c rs (all_admitted m c 0 rs (ap (λ (x : Running). x.number) (p.runs 0)))

-- ---- the sheet's bytes are bytes
byte_below : (k v : ℕ) → byte_of k v < 256
unfolding byte_of
byte_below zero v = omega arith
byte_below (suc k) v = byte_below k (v / 256)

either_below : (t : Bool) (k v x : ℕ) → x < 256 → cond t (byte_of k v) x < 256
either_below true k v x h = byte_below k v
either_below false k v x h = h

sheet_byte_lem : (s : Screen) (c : Command) (words old : List ℕ) → AllBelow 256 old → (a : ℕ) → sheet_byte s c words old a < 256
unfolding sheet_byte
sheet_byte_lem s c words old h a = either_below (changes s c a) _ _ (get_or old a 0) (h a)

pub sheet_bytes : (s : Screen) (commands : List (List ℕ)) (words old : List ℕ) → AllBelow 256 old → AllBelow 256 (sheet_commands s commands words old)
unfolding sheet_commands sheet_command
sheet_bytes s [] words old h = h
sheet_bytes s (b ∷ bs) words old h =
    let n = words_taken s (command_of b) in
    sheet_bytes s bs (drop n words) (sheet_command s (command_of b) (take n words) old)
    (below_tabulate 256 (lit< tt) (length old) (sheet_byte s (command_of b) (take n words) old) (sheet_byte_lem s (command_of b) (take n words) old h))

pub sheet_length : (s : Screen) (commands : List (List ℕ)) (words old : List ℕ) → length (sheet_commands s commands words old) ≡ length old
unfolding sheet_commands
sheet_length s [] words old = refl
sheet_length s (b ∷ bs) words old =
    let n = words_taken s (command_of b) in
    sheet_length s bs (drop n words) (sheet_command s (command_of b) (take n words) old) ∙ length_sheet s (command_of b) (take n words) old
