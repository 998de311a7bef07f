-- The records of a command, and of a whole list, played from any chip that waits for no data: none is refused, and the memory is
-- then the sheet's.
use mathlib.Core.Path.{◌≡◌, refl, sym, ap, ap₂, subst, ◌∙◌}
use mathlib.Core.Bool.{Bool, true, false}
use mathlib.Core.List.{List, [], ◌∷◌, ◌++◌, append-nil}
use mathlib.Core.Logic.{⊎_elim}
use Prim.Native.Nat.{ℕ, suc, ◌-◌, ◌*◌, ◌/◌, ◌≤◌, ◌<◌}
use native.Mathlib.Omega.{arith}
use native.Mathlib.Nat.{mul_comm}
use lib.ListN.{length, take, drop, length-drop}
use lib.Seq.{length-take-le}
use borrow.Author.Tests.{eq-eqb, ne_eqb}
use Rattle.record.specs.Lists.{AllBelow}
use Rattle.record.specs.Checks.{first_of}
use Rattle.record.specs.declared.Record.{Record}
use Rattle.record.proofs.Choice.{yes, no}
use Rattle.record.proofs.Lists.{length_tabulate, EachBelow, below_take, below_drop}
use Rattle.screen.specs.Screen.{field_rows}
use Rattle.screen.specs.declared.Screen.{Screen}
use Rattle.blit.specs.Words.{words_across}
use Rattle.chip.specs.Start.{operation, bytes_of, width_of, height_of, started}
use Rattle.chip.specs.declared.Chip.{Chip}
use Rattle.chip.specs.declared.Registers.{Registers}
use Rattle.chip.proofs.Plays.{Plays, plays_none, plays_append}
use Rattle.chip.proofs.Admits.{not_started}
use Rattle.chip.proofs.Commands.{blit_writes, word_writes, AllWords, started_chip, quiet, waiting, blit_played, words_played}
use Rattle.command.specs.Command.{command_of, line_words, words_taken}
use Rattle.command.specs.Values.{is_negative, blit_registers, blit_values}
use Rattle.command.specs.declared.Command.{Command}
use Rattle.command.proofs.Operation.{by_write, each, not_write}
use Rattle.compiler.specs.Stream.{records_with, data_records, command_records, draw_records}
use Rattle.command.specs.Task.{all_words}
use Rattle.command.proofs.Commands.{AllFine}
use Rattle.unit.specs.Sheet.{sheet_byte, sheet_command, sheet_commands}
use Rattle.unit.proofs.Painted.{OneOrTwo}
use Rattle.unit.proofs.Drawable.{drawable}
use Rattle.unit.proofs.Registers.{Drawable, blit_registers_of, Starts, AtOnce, bytes_is, width_is, height_is}
use Rattle.unit.proofs.Fill.{fill_starts}
use Rattle.unit.proofs.Move.{move_number, move_starts}
use Rattle.unit.proofs.Write.{ByWords, write_starts}
use Rattle.unit.proofs.Pattern.{pattern_starts}
use Rattle.unit.proofs.Transparent.{transparent_starts}

-- the records end at a chip that waits for no data and has the same screen registers
pub record Ends (m : ℕ) (c : Chip) (rs : List Record) (old new : List ℕ) : Type 0 where
  pub chip : Chip
  pub plays : Plays m c rs old chip new
  pub idle : chip.due.any ≡ false
  pub screen : chip.screen ≡ c.screen

-- ---- the records of a command
data_is : (ws : List ℕ) → data_records ws ≡ word_writes ws
unfolding data_records word_writes
data_is [] = refl
data_is (w ∷ ws) = ap (λ (rs : List Record). record { number = 0x10000; value = w } ∷ rs) (data_is ws)

all_words_lem : (ws : List ℕ) → AllBelow 65536 ws → AllWords ws
unfolding AllWords
all_words_lem [] h = tt
all_words_lem (w ∷ ws) h = (h 0, all_words_lem ws (λ k. h (suc k)))

none_left : (ws : List ℕ) → length ws ≡ 0 → ws ≡ []
none_left [] e = refl
none_left (w ∷ ws) e = absurd (omega arith)

blit_records : (s : Screen) (c : Command) → records_with blit_registers (blit_values s c) ≡ blit_writes (blit_registers_of s c)
unfolding records_with blit_values blit_registers_of
blit_records s c = refl

records_are : (s : Screen) (c : Command) (words : List ℕ) → command_records s c words ≡ blit_writes (blit_registers_of s c) ++ word_writes words
unfolding command_records
records_are s c words = ap₂ (λ (x y : List Record). x ++ y) (blit_records s c) (data_is words)

no_writes : word_writes [] ≡ []
unfolding word_writes
no_writes = refl

-- the words of a line, by depth and by bytes
line_words_lem : (d B width : ℕ) → d ≡ 8 * B → OneOrTwo B → words_across B width ≡ line_words d width
unfolding line_words
line_words_lem d B width h t =
    ⊎_elim
    (λ e. yes _ (eq-eqb d 8 (omega arith)) (rw e (omega arith)))
    (λ e. no _ (ne_eqb d 8 (λ q. omega arith)) (rw e (omega arith)))
    t

-- the words that a write takes; any other operation takes none
no_words : (s : Screen) (c : Command) → (c.operation ≡ 2 → ⊥) → words_taken s c ≡ 0
unfolding words_taken
no_words s c h = not_write c.operation 0 _ h

write_words : (s : Screen) (c : Command) → c.operation ≡ 2 → words_taken s c ≡ line_words s.depth c.width * c.height
unfolding words_taken
write_words s c e = by_write c.operation _ _ _ _ _ _ e

module _ (m B : ℕ) (s : Screen) (c : Command) (d : Drawable m B s c) (chip : Chip) (idle : chip.due.any ≡ false) where
  abbrev regs : Registers
  regs = blit_registers_of s c

  -- its nine records
  begun : (n : ℕ) (Does : Type 0) → Starts m s c n Does → (old : List ℕ) → Plays m chip (blit_writes regs) old (started_chip chip.screen regs) (started regs old)
  begun n Does l old = blit_played m regs l.fields l.startable l.within chip old idle

  -- a command that is drawn at once: no words
  drawn_alone : (words old : List ℕ) → length words ≡ 0 → (n : ℕ) → (n ≡ 0 → ⊥) → Starts m s c n (AtOnce m B s c d) → length old ≡ m
      → Ends m chip (command_records s c words) old (sheet_command s c words old)
  drawn_alone words old none n some l len =
      record {
        chip = started_chip chip.screen regs;
        plays =
            subst (λ (rs : List Record). Plays m chip rs old (started_chip chip.screen regs) (sheet_command s c words old))
            (sym (records_are s c words ∙ ap (λ (ws : List ℕ). blit_writes regs ++ word_writes ws) (none_left words none) ∙ ap (λ (rs : List Record). blit_writes regs ++ rs) no_writes ∙ append-nil (blit_writes regs)))
            (subst (λ (new : List ℕ). Plays m chip (blit_writes regs) old (started_chip chip.screen regs) new) (l.does words old len) (begun n _ l old));
        idle = ne_eqb (operation regs) 0 (λ z. some (sym l.operation ∙ z));
        screen = refl;
      }

  -- a write: its nine records, then its words
  written_all : (words old : List ℕ) → (e : c.operation ≡ 2) → AllBelow 65536 words → length words ≡ words_taken s c → length old ≡ m
      → Ends m chip (command_records s c words) old (sheet_command s c words old)
  written_all words old e few count len =
      record {
        chip = quiet chip.screen regs;
        plays =
            subst (λ (rs : List Record). Plays m chip rs old (quiet chip.screen regs) (sheet_command s c words old)) (sym (records_are s c words))
            (plays_append
            (subst (λ (x : Chip). Plays m chip (blit_writes regs) old x (started regs old)) waits (begun 0 _ laws old))
            (subst (λ (x : List ℕ). Plays m (waiting chip.screen regs 0 0) (word_writes words) x (quiet chip.screen regs) (sheet_command s c words old)) not_yet
            (subst (λ (x : List ℕ). Plays m (waiting chip.screen regs 0 0) (word_writes words) old (quiet chip.screen regs) x) (laws.does words old len few)
            (words_played m chip.screen regs words old (all_words_lem words few) enough))));
        idle = refl;
        screen = refl;
      }
    where
      laws : Starts m s c 0 (ByWords m B s c d e)
      laws = write_starts m B s c d e

      waits : started_chip chip.screen regs ≡ waiting chip.screen regs 0 0
      waits = λ t. record { screen = chip.screen; blit = regs; due = record { any = eq-eqb (operation regs) 0 laws.operation t; line = 0; word = 0 } }

      not_yet : old ≡ started regs old
      not_yet = not_started regs old laws.operation

      enough : length words ≡ height_of regs * words_across (bytes_of regs) (width_of regs)
      enough =
          count ∙ write_words s c e ∙ mul_comm (line_words s.depth c.width) c.height
          ∙ sym ((λ t. height_is m B s c d t * words_across (bytes_is m B s c d t) (width_is m B s c d t)) ∙ ap (λ (n : ℕ). c.height * n) (line_words_lem s.depth B c.width d.deep d.size))

  pub command_ends : (words old : List ℕ) → AllBelow 65536 words → length words ≡ words_taken s c → length old ≡ m
      → Ends m chip (command_records s c words) old (sheet_command s c words old)
  command_ends words old few count len =
      each c.operation
      (λ e. alone e (omega arith) 12 (omega arith) (fill_starts m B s c d e))
      (λ e. alone e (omega arith) (move_number (is_negative s c)) (move_above (is_negative s c)) (move_starts m B s c d e (is_negative s c) refl))
      (λ e. written_all words old e few count len)
      (λ e. alone e (omega arith) 6 (omega arith) (pattern_starts m B s c d false e))
      (λ e. alone e (omega arith) 7 (omega arith) (pattern_starts m B s c d true e))
      (λ p0 p1 p2 p3 p4. alone (last p0 p1 p2 p3 p4) (omega arith) 5 (omega arith) (transparent_starts m B s c d (last p0 p1 p2 p3 p4)))
    where
      -- operation k, which is no write, started as operation n of the chip, which is no write either
      alone : {k : ℕ} → c.operation ≡ k → (k ≡ 2 → ⊥) → (n : ℕ) → 0 < n → Starts m s c n (AtOnce m B s c d) → Ends m chip (command_records s c words) old (sheet_command s c words old)
      alone e other n some l = drawn_alone words old (count ∙ no_words s c (λ z. other (sym e ∙ z))) n (λ z. omega (arith, some)) l len

      last : (c.operation ≡ 0 → ⊥) → (c.operation ≡ 1 → ⊥) → (c.operation ≡ 2 → ⊥) → (c.operation ≡ 3 → ⊥) → (c.operation ≡ 4 → ⊥) → c.operation ≡ 5
      last p0 p1 p2 p3 p4 = omega (arith, d.operation)

      move_above : (t : Bool) → 0 < move_number t
      move_above true = omega arith
      move_above false = omega arith

-- ---- a whole list
pub ends_none : (m : ℕ) (c : Chip) (old : List ℕ) → c.due.any ≡ false → Ends m c [] old old
ends_none m c old idle = record { chip = c; plays = plays_none m c old; idle = idle; screen = refl }

-- one part after the other
pub ends_append : (m : ℕ) (c : Chip) (xs ys : List Record) (old mid new : List ℕ) (p : Ends m c xs old mid) → Ends m p.chip ys mid new → Ends m c (xs ++ ys) old new
ends_append m c xs ys old mid new p q =
    record { chip = q.chip; plays = plays_append p.plays q.plays; idle = q.idle; screen = q.screen ∙ p.screen }

pub length_sheet : (s : Screen) (c : Command) (words old : List ℕ) → length (sheet_command s c words old) ≡ length old
unfolding sheet_command
length_sheet s c words old = length_tabulate (length old) (sheet_byte s c words old)

module _ (m : ℕ) (s : Screen) (e : first_of (field_rows m s) ≡ 0) (flag : s.flag ≤ 1) (small : m ≤ 262144) where
  pub list_ends : (commands : List (List ℕ)) → (0 < length commands → 8 ≤ s.depth) → (words : List ℕ) → AllFine m s (length words) commands → EachBelow 256 commands → AllBelow 65536 words
      → length words ≡ all_words s commands → (chip : Chip) → chip.due.any ≡ false → (old : List ℕ) → length old ≡ m
      → Ends m chip (draw_records s words commands) old (sheet_commands s commands words old)
  unfolding AllFine EachBelow all_words draw_records sheet_commands
  list_ends [] deep words fine bytes few count chip idle old len = ends_none m chip old idle
  list_ends (b ∷ bs) deep words fine bytes few count chip idle old len =
      let n = words_taken s (command_of b) in
      let d8 : 8 ≤ s.depth = deep (omega arith) in
      let taken : length (take n words) ≡ n = length-take-le n words fine.0.words in
      let left : length (drop n words) ≡ length words - n = length-drop n words in
      let first = command_ends m (s.depth / 8) s (command_of b) (drawable m s e flag d8 small (length words) b bytes.0 fine.0) chip idle (take n words) old (below_take 65536 n words few) taken len in
      ends_append m chip _ _ old (sheet_command s (command_of b) (take n words) old) _ first
      (list_ends bs (λ h. d8) (drop n words) (subst (λ (k : ℕ). AllFine m s k bs) (sym left) fine.1) bytes.1 (below_drop 65536 n words few) (omega (arith, left, count)) first.chip first.idle
      (sheet_command s (command_of b) (take n words) old) (length_sheet s (command_of b) (take n words) old ∙ len))
