-- What compiling for the S1D13706 tells, check by check.
use Prim.Native.Nat.{ℕ, ◌*◌, ◌<◌, ◌≤◌}
use mathlib.Core.Path.{◌≡◌, refl, sym, ap, subst, ◌∙◌}
use mathlib.Core.List.{List}
use mathlib.Core.Logic.{⊎_elim}
use native.Mathlib.Omega.{arith}
use lib.ListN.{length}
use lib.Seq.{sets}
use lib.Dec.{lit<}
use borrow.Author.Tests.{ne_eqb, eq-eqb, ltb-false}
use Rattle.record.specs.Record.{stream_bytes}
use Rattle.record.specs.Checks.{row, first_of, Numbered}
use Rattle.record.proofs.Choice.{below_or_not}
use Rattle.record.proofs.Checks.{passed, parts}
use Rattle.record.proofs.Stores.{length_stream}
use Rattle.screen.specs.Screen.{screen_rows, screen_of}
use Rattle.screen.specs.declared.Screen.{Screen}
use Rattle.screen.proofs.Read.{screen_numbered, read_accepted}
use Rattle.command.specs.Task.{Task, screen_in}
use Rattle.compiler.specs.Stream.{records_with}
use Rattle.compiler.specs.Compile.{answered, compiling_of, answer_of}
use Rattle.compiler.specs.declared.Compiled.{Compiled}
use Rattle.std.specs.Prelude.{Result, Ok, Err}
use Rattle.refusal.specs.Number as refusals
use Rattle.refusal.specs.declared.Refusal.{Refusal}
use Rattle.refusal.specs.declared.Refused.{Refused}
use Rattle.compiler.proofs.Answered.{ToldBy, answered_number, answered_place, answered_accepted, refused_by_lem, accepted_by}
use Rattle.compiler.proofs.Outcome.{refused_screen, at_0}
use Rattle.older.specs.Bytes.{older_memory, older_bytes}
use Rattle.older.specs.Compile.{older_records, lent_rows, older_rows, older_refusal, older_compiling, older_buffer}

-- a record for each of eighteen registers
pub eighteen : (s : Screen) → length (older_records s) ≡ 18
unfolding older_records records_with older_bytes
eighteen s = refl

-- ---- the table in two parts
module _ (t : Task) (room : ℕ) where
  pub lent_numbered : Numbered (lent_rows t room)
  unfolding lent_rows Numbered
  lent_numbered = (lit< tt, (lit< tt, (lit< tt, (lit< tt, tt))))

  -- the screen's refusal, or else that of what is lent besides
  pub by_screen : (n : ℕ) → 0 < n → first_of (screen_rows older_memory t.screen) ≡ n → first_of (older_rows t room) ≡ n
  unfolding older_rows
  by_screen n h e = parts _ _ (screen_numbered older_memory t.screen) ∙ rw (e, ne_eqb n 0 (λ z. omega arith))

  pub by_lent : first_of (screen_rows older_memory t.screen) ≡ 0 → first_of (older_rows t room) ≡ first_of (lent_rows t room)
  unfolding older_rows
  by_lent e = parts _ _ (screen_numbered older_memory t.screen) ∙ rw (eq-eqb _ 0 e)

  -- none of these: there is room for the stream
  pub room_says : first_of (lent_rows t room) ≡ 0 → 144 ≤ room
  unfolding lent_rows
  room_says e =
      let a = (passed (row 10 _) _ (lit< tt) e).1 in
      let b = (passed (row 11 _) _ (lit< tt) a).1 in
      let d = (passed (row 16 _) _ (lit< tt) b).1 in
      let f : 8 * length (older_records (screen_in t)) ≤ room = ltb-false _ _ (passed (row 17 _) _ (lit< tt) d).0 in
      omega (arith, eighteen (screen_in t))

-- ---- the answer
module _ (t : Task) (room : ℕ) where
  pub number_is : (older_compiling t room).number ≡ first_of (older_rows t room)
  unfolding older_compiling
  number_is = answered_number (older_refusal t room) (screen_in t) (8 * length (older_records (screen_in t)))

  pub place_is : (older_compiling t room).place ≡ 0
  unfolding older_compiling
  place_is = answered_place (older_refusal t room) (screen_in t) (8 * length (older_records (screen_in t))) (λ z. refl)

  -- what acceptance says
  pub answer_is : (older_compiling t room).number ≡ 0 → older_compiling t room ≡ record { number = 0; place = 0; length = 144; depth = (screen_in t).depth; rotation = (screen_in t).rotation; flag = (screen_in t).flag }
  unfolding older_compiling
  answer_is e =
      answered_accepted (older_refusal t room) (screen_in t) (8 * length (older_records (screen_in t))) (sym number_is ∙ e)
      ∙ ap (λ (n : ℕ). record { number = 0; place = 0; length = 8 * n; depth = (screen_in t).depth; rotation = (screen_in t).rotation; flag = (screen_in t).flag }) (eighteen (screen_in t))

  pub screen_accepted : (older_compiling t room).number ≡ 0 → first_of (screen_rows older_memory t.screen) ≡ 0
  screen_accepted e =
      ⊎_elim (λ l. omega arith)
      (λ g. absurd (omega (arith, by_screen t room (first_of (screen_rows older_memory t.screen)) g refl, number_is)))
      (below_or_not (first_of (screen_rows older_memory t.screen)) 1)

  pub has_room : (older_compiling t room).number ≡ 0 → 144 ≤ room
  has_room e = room_says t room (sym (by_lent t room (screen_accepted e)) ∙ (sym number_is ∙ e))

-- ---- each way to an answer, as the code goes
abbrev pub Told : Task → List ℕ → Result Compiled Refused → List ℕ → Type 0
Told t old r new = (compiling_of r ≡ older_compiling t (length old)) × ((r ≡ answer_of (older_compiling t (length old))) × (new ≡ older_buffer t old))

module _ (t : Task) (old : List ℕ) where
  refused_told : (r : Refusal) → first_of (older_rows t (length old)) ≡ refusals.number r → Told t old (Err (at_0 r)) old
  unfolding older_compiling older_buffer
  refused_told r e =
      refused_by_lem (older_refusal t (length old)) (screen_in t) (8 * length (older_records (screen_in t))) (stream_bytes (older_records (screen_in t))) old (at_0 r)
      (ap (λ (k : ℕ). record { number = k; place = 0 }) e)

  pub told_screen : (r : Refusal) → screen_of older_memory t.screen ≡ Err r → Told t old (Err (at_0 r)) old
  told_screen r e = let p = refused_screen older_memory t.screen r e in refused_told r (by_screen t (length old) (refusals.number r) p.1 p.0)

  module _ (s : Screen) (a : screen_of older_memory t.screen ≡ Ok s) where
    first_is : first_of (older_rows t (length old)) ≡ first_of (lent_rows t (length old))
    first_is = by_lent t (length old) (read_accepted older_memory t.screen s a).1

    pub told_lent : (r : Refusal) → refusals.number r ≡ first_of (lent_rows t (length old)) → Told t old (Err (at_0 r)) old
    told_lent r e = refused_told r (first_is ∙ sym e)

    module _ (none-fault : first_of (lent_rows t (length old)) ≡ 0) where
      pub room : 144 ≤ length old
      room = room_says t (length old) none-fault

      pub told_stream : (new : List ℕ) → new ≡ sets old 0 (stream_bytes (older_records s)) → Told t old (Ok (record { length = 144; depth = s.depth; rotation = s.rotation; flag = s.flag })) new
      unfolding older_compiling older_buffer
      told_stream new e =
          let f : s ≡ screen_in t = (read_accepted older_memory t.screen s a).0 in
          let stream = stream_bytes (older_records (screen_in t)) in
          let fits : length stream ≤ length old = omega (arith, length_stream (older_records (screen_in t)), eighteen (screen_in t), room) in
          let stored : new ≡ sets old 0 stream = e ∙ ap (λ (x : Screen). sets old 0 (stream_bytes (older_records x))) f in
          subst (λ (x : Screen). Told t old (Ok (record { length = 144; depth = x.depth; rotation = x.rotation; flag = x.flag })) new) (sym f)
          (subst (λ (n : ℕ). ToldBy (answered (older_refusal t (length old)) (screen_in t) (8 * n)) stream old (Ok (record { length = 144; depth = (screen_in t).depth; rotation = (screen_in t).rotation; flag = (screen_in t).flag })) new)
          (sym (eighteen (screen_in t)))
          (accepted_by (older_refusal t (length old)) (screen_in t) 144 stream old (first_is ∙ none-fault) fits new stored))
