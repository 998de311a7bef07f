-- What acceptance says of the whole, and where a refusal stands.
use Prim.Native.Nat.{ℕ, ◌+◌, ◌*◌, ◌/◌, ◌<◌, ◌≤◌}
use mathlib.Core.Path.{◌≡◌, refl, sym, ◌∙◌}
use mathlib.Core.Bool.{Bool, true, false, cond, true≢false}
use mathlib.Core.Logic.{inl, inr}
use native.Mathlib.Omega.{arith}
use lib.ListN.{length}
use lib.Dec.{eqb, ltb}
use borrow.Author.Tests.{eqb-true, eqb-false}
use Rattle.record.specs.Checks.{first_of, Refusal}
use Rattle.record.proofs.Lists.{length_parts}
use Rattle.command.specs.Command.{names_command}
use Rattle.command.specs.Task.{Task, screen_in, commands_in, task_refusal}
use Rattle.command.proofs.Task.{Accepted as TaskAccepted, accepted_says, Placed, task_placed}
use Rattle.compiler.specs.Stream.{records_in}
use Rattle.compiler.specs.Compile.{room_rows, refusal_of, refused_by, Compiling, compiling}
use Rattle.compiler.proofs.Lengths.{length_records}
use Rattle.compiler.proofs.Outcome.{room_says}
use Rattle.compiler.proofs.Answered.{answered_number, answered_accepted}

-- a task that is accepted with a stream buffer of `room` bytes
pub record Accepted (m : ℕ) (t : Task) (room : ℕ) : Type 0 where
  pub task : TaskAccepted m t
  pub records : length (records_in t) ≡ 6 + 9 * (length t.list / t.form) + length t.words
  pub fits : 8 * length (records_in t) ≤ room
  pub given : compiling m t room ≡ record { number = 0; place = 0; length = 8 * length (records_in t); depth = (screen_in t).depth; rotation = (screen_in t).rotation; flag = (screen_in t).flag }

-- the number of a choice is 0: so is its test's, or it is the other's
no_number_lem : (n : ℕ) (r : Refusal) → (cond (eqb r.number 0) (record { number = n; place = 0 }) r).number ≡ 0 → (r.number ≡ 0) × (n ≡ 0)
no_number_lem n r e = chosen (eqb r.number 0) refl e
  where
    chosen : (t : Bool) → eqb r.number 0 ≡ t → (cond t (record { number = n; place = 0 }) r).number ≡ 0 → (r.number ≡ 0) × (n ≡ 0)
    chosen true h k = (eqb-true r.number 0 h, k)
    chosen false h k = absurd (eqb-false r.number 0 h k)

module _ (m : ℕ) (t : Task) (room : ℕ) where
  not_refused : (compiling m t room).number ≡ 0 → (refusal_of m t room).number ≡ 0
  unfolding compiling
  not_refused e = sym (answered_number (refusal_of m t room) (screen_in t) (8 * length (records_in t))) ∙ e

  both_pass : (refusal_of m t room).number ≡ 0 → ((task_refusal m t).number ≡ 0) × (first_of (room_rows t room) ≡ 0)
  unfolding refusal_of
  both_pass e = no_number_lem (first_of (room_rows t room)) (task_refusal m t) e

  compiling_is : (refusal_of m t room).number ≡ 0 → compiling m t room ≡ record { number = 0; place = 0; length = 8 * length (records_in t); depth = (screen_in t).depth; rotation = (screen_in t).rotation; flag = (screen_in t).flag }
  unfolding compiling
  compiling_is e = answered_accepted (refusal_of m t room) (screen_in t) (8 * length (records_in t)) e

  pub compiled_says : (compiling m t room).number ≡ 0 → Accepted m t room
  compiled_says e =
      let n = not_refused e in
      let p = both_pass n in
      let a = accepted_says m t p.0 in
      record {
        task = a;
        records = omega (arith, length_records (screen_in t) t.words (commands_in t) (omega (arith, a.taken)), length_parts t.form t.list, a.taken);
        fits = room_says t room p.1;
        given = compiling_is n;
      }

-- ---- where a refusal stands
placed_by : (count n : ℕ) (r : Refusal) → Placed count r → names_command n ≡ false → (b : Bool) → Placed count (cond b (record { number = n; place = 0 }) r)
placed_by count n r p f true = inr (f, refl)
placed_by count n r p f false = p

module _ (m : ℕ) (t : Task) (room : ℕ) where
  room_number : names_command (first_of (room_rows t room)) ≡ false
  unfolding room_rows first_of
  room_number = either (ltb room (8 * length (records_in t)))
    where
      either : (b : Bool) → names_command (cond b 17 0) ≡ false
      either true = refl
      either false = refl

  refusal_placed : Placed (length t.list / t.form) (refusal_of m t room)
  unfolding refusal_of
  refusal_placed = placed_by (length t.list / t.form) (first_of (room_rows t room)) (task_refusal m t) (task_placed m t) room_number (eqb (task_refusal m t).number 0)

  pub places : Placed (length t.list / t.form) (record { number = (compiling m t room).number; place = (compiling m t room).place })
  unfolding compiling
  places = chosen (eqb (refusal_of m t room).number 0)
    where
      told : Bool → Compiling
      told b = cond b (record { number = 0; place = 0; length = 8 * length (records_in t); depth = (screen_in t).depth; rotation = (screen_in t).rotation; flag = (screen_in t).flag }) (refused_by (refusal_of m t room).number (refusal_of m t room).place)

      chosen : (b : Bool) → Placed (length t.list / t.form) (record { number = (told b).number; place = (told b).place })
      chosen true = inr (refl, refl)
      chosen false = refusal_placed

  -- the place of a number that names a command is that of a command
  pub command_place : names_command (compiling m t room).number ≡ true → (compiling m t room).place < length t.list / t.form
  command_place p = taken places
    where
      taken : Placed (length t.list / t.form) (record { number = (compiling m t room).number; place = (compiling m t room).place }) → (compiling m t room).place < length t.list / t.form
      taken (inl h) = h.1
      taken (inr h) = absurd (true≢false (sym p ∙ h.0))
