-- A list of commands by the commands themselves: none is refused, what they leave on the plain sheet, and the words that they take.
use Prim.Native.Nat.{ℕ, zero, suc, ◌+◌, ◌-◌, ◌<◌, ◌≤◌}
use mathlib.Core.Path.{◌≡◌, refl, sym, ap, ◌∙◌}
use mathlib.Core.Bool.{true, false, not, ◌||◌}
use mathlib.Core.List.{List, [], ◌∷◌, ◌++◌, map}
use native.Mathlib.Omega.{arith}
use native.Mathlib.Nat.{zero-add, add_assoc}
use lib.ListN.{length, take, drop}
use lib.Seq.{drop-drop}
use lib.Dec.{eqb}
use borrow.Author.Tests.{ne_eqb, le-ltb}
use Rattle.record.specs.Lists.{AllBelow}
use Rattle.record.specs.Checks.{first_of}
use Rattle.record.proofs.Checks.{row_passes, rows_end}
use Rattle.screen.specs.declared.Screen.{Screen}
use Rattle.command.specs.Command.{command_bytes, formed, placed, clashes, words_taken, command_rows, refusal}
use Rattle.command.specs.Task.{first_refusal, all_words}
use Rattle.command.specs.declared.Command.{Command}
use Rattle.command.proofs.Bytes.{Fits, Storable, command_back}
use Rattle.command.proofs.Commands.{refusal_go}
use Rattle.unit.specs.Sheet.{sheet_command, sheet_commands}
use Rattle.unit.proofs.Listed.{length_sheet}
use Rattle.wear.specs.Strip.{list_bytes}

-- a command on the main image that is not refused where the words suffice, in any memory
pub record Ok (s : Screen) (c : Command) : Type 0 where
  pub storable : Storable c
  pub surface : c.surface ≡ 0
  pub accepted : (m left : ℕ) → words_taken s c ≤ left → refusal m s left (command_bytes c) ≡ 0

unfoldable pub EachOk : Screen → List Command → Type 0
EachOk s [] = Unit {0}
EachOk s (c ∷ cs) = Ok s c × EachOk s cs

pub ok_append : (s : Screen) (a b : List Command) → EachOk s a → EachOk s b → EachOk s (a ++ b)
unfolding EachOk
ok_append s [] b p q = q
ok_append s (c ∷ a) b p q = (p.0, ok_append s a b p.1 q)

-- from its rows
pub ok_by : (s : Screen) (c : Command) → Storable c → c.surface ≡ 0 → ((m : ℕ) → formed m s (command_bytes c) c ≡ true) → 0 < c.width → 0 < c.height → placed s c ≡ true → clashes s c ≡ false → Ok s c
unfolding refusal command_rows
ok_by s c st z f w h p k =
    record {
      storable = st;
      surface = z;
      accepted = λ m left few.
          ap (λ (d : Command). first_of (command_rows m s left (command_bytes c) d)) (command_back c st)
          ∙ sym (row_passes 12 _ (ap not (f m))
          (row_passes 13 _ (sized c.width c.height w h)
          (row_passes 14 _ (ap not p)
          (row_passes 29 _ k
          (row_passes 15 _ (le-ltb left (words_taken s c) few) rows_end)))));
    }
  where
    sized : (w h : ℕ) → 0 < w → 0 < h → (eqb w 0 || eqb h 0) ≡ false
    sized w h p q = rw (ne_eqb w 0 (λ z. omega arith), ne_eqb h 0 (λ z. omega arith))

-- the host words that commands take
unfoldable pub taken : Screen → List Command → ℕ
taken s [] = 0
taken s (c ∷ cs) = words_taken s c + taken s cs

-- the plain sheet after commands, which take the host words in order
unfoldable pub drawn : Screen → List Command → List ℕ → List ℕ → List ℕ
drawn s [] words old = old
drawn s (c ∷ cs) words old = drawn s cs (drop (words_taken s c) words) (sheet_command s c (take (words_taken s c) words) old)

module _ (s : Screen) where
  pub length_drawn : (cs : List Command) (words old : List ℕ) → length (drawn s cs words old) ≡ length old
  unfolding drawn
  length_drawn [] words old = refl
  length_drawn (c ∷ cs) words old = length_drawn cs (drop (words_taken s c) words) (sheet_command s c (take (words_taken s c) words) old) ∙ length_sheet s c (take (words_taken s c) words) old

  pub drawn_append : (a b : List Command) (words old : List ℕ) → drawn s (a ++ b) words old ≡ drawn s b (drop (taken s a) words) (drawn s a words old)
  unfolding drawn taken
  drawn_append [] b words old = refl
  drawn_append (c ∷ a) b words old =
      drawn_append a b (drop (words_taken s c) words) (sheet_command s c (take (words_taken s c) words) old)
      ∙ ap (λ (w : List ℕ). drawn s b w (drawn s a (drop (words_taken s c) words) (sheet_command s c (take (words_taken s c) words) old))) (drop-drop (taken s a) (words_taken s c) words)

  pub taken_append : (a b : List Command) → taken s (a ++ b) ≡ taken s a + taken s b
  unfolding taken
  taken_append [] b = sym (zero-add (taken s b))
  taken_append (c ∷ a) b = ap (λ (n : ℕ). words_taken s c + n) (taken_append a b) ∙ sym (add_assoc (words_taken s c) (taken s a) (taken s b))

  -- ---- the same by their records
  pub none_refused : (m : ℕ) (cs : List Command) → EachOk s cs → (i left : ℕ) → taken s cs ≤ left → (first_refusal m s i left (map command_bytes cs)).number ≡ 0
  unfolding first_refusal EachOk taken
  none_refused m [] p i left h = refl
  none_refused m (c ∷ cs) p i left h =
      let back = command_back c p.0.storable in
      ap (λ r. r.number) (refusal_go m s i left (command_bytes c) (map command_bytes cs) (p.0.accepted m left (omega arith)))
      ∙ ap (λ (d : Command). (first_refusal m s (i + 1) (left - words_taken s d) (map command_bytes cs)).number) back
      ∙ none_refused m cs p.1 (i + 1) (left - words_taken s c) (omega arith)

  pub all_taken : (cs : List Command) → EachOk s cs → all_words s (map command_bytes cs) ≡ taken s cs
  unfolding all_words EachOk taken
  all_taken [] p = refl
  all_taken (c ∷ cs) p = λ t. words_taken s (command_back c p.0.storable t) + all_taken cs p.1 t

  pub sheet_drawn : (cs : List Command) → EachOk s cs → (words old : List ℕ) → sheet_commands s (map command_bytes cs) words old ≡ drawn s cs words old
  unfolding sheet_commands EachOk drawn
  sheet_drawn [] p words old = refl
  sheet_drawn (c ∷ cs) p words old =
      ap (λ (d : Command). sheet_commands s (map command_bytes cs) (drop (words_taken s d) words) (sheet_command s d (take (words_taken s d) words) old)) (command_back c p.0.storable)
      ∙ sheet_drawn cs p.1 (drop (words_taken s c) words) (sheet_command s c (take (words_taken s c) words) old)

-- ---- their bytes are bytes
pub below_append : (limit : ℕ) (a b : List ℕ) → AllBelow limit a → AllBelow limit b → AllBelow limit (a ++ b)
below_append limit [] b f g k = g k
below_append limit (x ∷ a) b f g zero = f 0
below_append limit (x ∷ a) b f g (suc k) = below_append limit a b (λ j. f (suc j)) g k

-- each number of a list is a byte
abbrev EachByte : List ℕ → Type 0
EachByte [] = Unit {0}
EachByte (x ∷ xs) = (x < 256) × EachByte xs

each_below : (xs : List ℕ) → EachByte xs → AllBelow 256 xs
each_below [] p k = omega arith
each_below (x ∷ xs) p zero = p.0
each_below (x ∷ xs) p (suc k) = each_below xs p.1 k

command_below : (c : Command) → Fits c → AllBelow 256 (command_bytes c)
unfolding command_bytes
command_below c h = each_below (command_bytes c) (h.operation, (h.surface, (h.raster, omega arith)))

pub list_below : (s : Screen) (cs : List Command) → EachOk s cs → AllBelow 256 (list_bytes cs)
unfolding list_bytes EachOk
list_below s [] p = λ k. omega arith
list_below s (c ∷ cs) p = below_append 256 (command_bytes c) (list_bytes cs) (command_below c p.0.storable.fits) (list_below s cs p.1)
