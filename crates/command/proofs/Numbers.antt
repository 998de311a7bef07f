-- The number that a table of checks gives is one of its rows'.
use Prim.Native.Nat.{ℕ, ◌<◌, ◌≤◌}
use mathlib.Core.Path.{◌≡◌, refl}
use mathlib.Core.List.{List, [], ◌∷◌}
use mathlib.Core.Bool.{Bool, true, false, not, ◌&&◌, cond}
use native.Mathlib.Omega.{arith}
use lib.Dec.{leb}
use borrow.Author.Tests.{leb-true}
use Rattle.record.specs.Checks.{Row, first_of}
use Rattle.record.proofs.Choice.{and_left, and_right}
use Rattle.screen.specs.declared.Screen.{Screen}
use Rattle.command.specs.Command.{command_of, command_rows, names_command, refusal}

-- every row's number passes a test
unfoldable pub all_of : (ℕ → Bool) → List Row → Bool
all_of test [] = true
all_of test (r ∷ rs) = test r.number && all_of test rs

chosen : (test : ℕ → Bool) (n x : ℕ) (t : Bool) → test n ≡ true → (0 < x → test x ≡ true) → 0 < cond t n x → test (cond t n x) ≡ true
chosen test n x true p f h = p
chosen test n x false p f h = f h

pub first_passes : (test : ℕ → Bool) (rows : List Row) → all_of test rows ≡ true → 0 < first_of rows → test (first_of rows) ≡ true
unfolding all_of first_of
first_passes test [] e h = absurd (omega arith)
first_passes test (r ∷ rs) e h =
    chosen test r.number (first_of rs) r.fails (and_left (test r.number) _ e) (first_passes test rs (and_right (test r.number) _ e)) h

-- the numbers from lo to hi
abbrev pub between : ℕ → ℕ → ℕ → Bool
between lo hi n = leb lo n && leb n hi

pub first_between : (lo hi : ℕ) (rows : List Row) → all_of (between lo hi) rows ≡ true → 0 < first_of rows → (lo ≤ first_of rows) × (first_of rows ≤ hi)
first_between lo hi rows e h =
    let p = first_passes (between lo hi) rows e h in
    (leb-true lo (first_of rows) (and_left (leb lo (first_of rows)) _ p), leb-true (first_of rows) hi (and_right (leb lo (first_of rows)) _ p))

-- the numbers of no command: all but 12 to 15 and 29
abbrev pub of_no_command : ℕ → Bool
of_no_command n = not (names_command n)

-- a command is refused by a number that names it
pub refusal_number : (m : ℕ) (s : Screen) (left : ℕ) (b : List ℕ) → 0 < refusal m s left b → names_command (refusal m s left b) ≡ true
unfolding refusal command_rows all_of
refusal_number m s left b h = first_passes names_command (command_rows m s left b (command_of b)) refl h
