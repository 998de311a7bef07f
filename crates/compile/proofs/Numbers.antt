-- The length that compiling gives is within the stream buffer.
use Prim.Native.Nat.{ℕ, ◌≤◌}
use mathlib.Core.Path.{◌≡◌, refl, sym, ap, ◌∙◌}
use mathlib.Core.Bool.{Bool, true, false}
use mathlib.Core.List.{List}
use native.Mathlib.Omega.{arith}
use lib.ListN.{get_or}
use Rattle.screen.specs.Screen.{memory_size}
use Rattle.command.specs.Task.{Task}
use Rattle.std.specs.Prelude.{Result, Ok}
use Rattle.refusal.specs.declared.Refused.{Refused}
use Rattle.compiler.specs.declared.Compiled.{Compiled}
use Rattle.compiler.specs.Compile.{Compiling, compiling_of, compiling_by, numbers_of}
use Rattle.compiler.proofs.Accepted.{compiled_says}
use Rattle.older.proofs.Outcome.{answer_is, has_room}
use Rattle.compile.specs.Chip.{compiling_for}

-- the answer for either chip
fits : (older : Bool) (t : Task) (room : ℕ) → (compiling_for older t room).number ≡ 0 → (compiling_for older t room).length ≤ room
unfolding compiling_for
fits true t room e = omega (arith, ap (λ (x : Compiling). x.length) (answer_is t room e), has_room t room e)
fits false t room e =
    let a = compiled_says memory_size t room e in
    omega (arith, a.fits, ap (λ (x : Compiling). x.length) a.given)

pub accepted_fits : (older : Bool) (t : Task) (room : ℕ) (c : Compiled) (r : Result Compiled Refused) → compiling_of r ≡ compiling_for older t room → r ≡ Ok c → c.length ≤ room
unfolding compiling_by
accepted_fits older t room c r e is =
    let k : compiling_of (Ok c) ≡ compiling_for older t room = sym (ap compiling_of is) ∙ e in
    let zero : (compiling_for older t room).number ≡ 0 = sym (ap (λ (x : Compiling). x.number) k) in
    let size : c.length ≡ (compiling_for older t room).length = ap (λ (x : Compiling). x.length) k in
    omega (arith, fits older t room zero, size)

-- the same of the numbers that an answer is stored as
first_number : (c : Compiling) → get_or (numbers_of c) 0 0 ≡ c.number
unfolding numbers_of
first_number c = refl

third_number : (c : Compiling) → get_or (numbers_of c) 2 0 ≡ c.length
unfolding numbers_of
third_number c = refl

pub length_fits : (older : Bool) (t : Task) (room : ℕ) (numbers : List ℕ) → numbers ≡ numbers_of (compiling_for older t room) → get_or numbers 0 0 ≡ 0 → get_or numbers 2 0 ≤ room
length_fits older t room numbers e h =
    let c = compiling_for older t room in
    let zero : c.number ≡ 0 = sym (ap (λ (l : List ℕ). get_or l 0 0) e ∙ first_number c) ∙ h in
    let size : get_or numbers 2 0 ≡ c.length = ap (λ (l : List ℕ). get_or l 2 0) e ∙ third_number c in
    omega (arith, fits older t room zero, size)
