-- Drawing in one call: what compiling and playing give together, in terms of the sheet.
use mathlib.Core.Path.{◌≡◌, refl, sym, ap, ◌∙◌}
use mathlib.Core.Bool.{Bool, true, false, cond}
use mathlib.Core.List.{List, []}
use Prim.Native.Nat.{ℕ, ◌-◌, ◌≤◌}
use native.Mathlib.Nat.{sub-zero, zero-div}
use native.Mathlib.Omega.{arith}
use lib.ListN.{length, take}
use borrow.Author.Tests.{eq-eqb, ne_eqb}
use Rattle.record.specs.Lists.{AllBelow, parts_from, parts_of}
use Rattle.screen.specs.Screen.{memory_size}
use Rattle.screen.specs.Values.{values_of}
use Rattle.screen.specs.declared.ScreenValues.{ScreenValues}
use Rattle.record.specs.Record.{stream_bytes}
use Rattle.record.proofs.Stores.{length_stream, length_over}
use Rattle.command.specs.Task.{Task, task, screen_in}
use Rattle.compiler.specs.Stream.{records_in}
use Rattle.compiler.specs.Compile.{stream_of, Compiling, compiling, buffer_after, compiling_of, compiling_by}
use Rattle.compiler.specs.declared.Compiled.{Compiled}
use Rattle.compiler.proofs.Accepted.{compiled_says}
use Rattle.chip.specs.Play.{Playing, playing, played, playing_of, playing_by}
use Rattle.unit.specs.Demands.{InBytes, DrawnTruly, stream_given}
use Rattle.unit.specs.Draw.{Drawing, refused_by, drawing, memory_drawn, stream_drawn, drawing_of, drawing_by, answer_of as unit_answer_of}
use Rattle.unit.specs.Sheet.{sheet_commands, sheet_after}
use Rattle.unit.specs.declared.Drawn.{Drawn}
use Rattle.std.specs.Prelude.{Result, Ok, Err}
use Rattle.refusal.specs.Number as refusals
use Rattle.refusal.specs.declared.Refusal.TheVariants.{MemoryLength}
use Rattle.refusal.specs.declared.Refused.{Refused}
use Rattle.refusal.proofs.Numbers.{number_positive, accepted_at, refused_with_at}
use Rattle.unit.proofs.Demands.{demand_3, values_given_lem}

-- a refusal has a number above 0
not_zero : (r : Refused) → refusals.number r.refusal ≡ 0 → ⊥
not_zero r z = let p = number_positive r.refusal in omega (arith, p)

refused_number : (r : Refused) (c : Compiling) → compiling_of (Err r) ≡ c → c.number ≡ 0 → ⊥
unfolding compiling_by
refused_number r c e z = not_zero r (ap (λ (x : Compiling). x.number) e ∙ z)

not_played : (r : Refused) (p : Playing) → p.number ≡ 0 → playing_of (Err r) ≡ p → ⊥
unfolding playing_by
not_played r p z e = not_zero r (ap (λ (x : Playing). x.number) e ∙ z)

-- an answer whose numbers are a drawing's is the drawing's answer
refused_answer : (r : Refused) (d : Drawing) → drawing_of (Err r) ≡ d → (drawing_of (Err r) ≡ d) × (Err r ≡ unit_answer_of d)
unfolding drawing_by unit_answer_of
refused_answer r d e = (e, rw (← e) (sym (refused_with_at _ r _ r.place refl refl)))

accepted_answer : (x : Drawn) (d : Drawing) → drawing_of (Ok x) ≡ d → (drawing_of (Ok x) ≡ d) × (Ok x ≡ unit_answer_of d)
unfolding drawing_by unit_answer_of
accepted_answer x d e = (e, rw (← e) (sym (accepted_at x 0 0 refl)))

-- both cases alike
alike : (b : Bool) (x : List ℕ) → cond b x x ≡ x
alike true x = refl
alike false x = refl

-- an empty list has no command in any form
no_commands : (form : ℕ) → parts_of form [] ≡ []
unfolding parts_of parts_from
no_commands form = rw (zero-div form)

-- without words it changes nothing: accepted, the memory is the sheet after no commands; refused, it is as it was
pub nothing_drawn : (m form : ℕ) (v : List ℕ) (room : ℕ) (old : List ℕ) → memory_drawn m (task form v [] []) room old ≡ old
unfolding memory_drawn sheet_after sheet_commands
nothing_drawn m form v room old = simp (no_commands form, alike)

module _ (t : Task) (old memory : List ℕ) where
  -- an answer, a stream buffer and a memory that are what drawing promises
  abbrev pub Drew : Result Drawn Refused → List ℕ → List ℕ → Type 0
  Drew r stream new =
      (drawing_of r ≡ drawing memory_size t (length old) memory)
      × ((r ≡ unit_answer_of (drawing memory_size t (length old) memory))
      × ((stream ≡ stream_drawn memory_size t old memory)
      × (new ≡ memory_drawn memory_size t (length old) memory)))

  abbrev c : Compiling
  c = compiling memory_size t (length old)

  -- a memory of another size
  abbrev pub other : Refused
  other = record { refusal = MemoryLength; place = 0 }

  pub other_size : (length memory ≡ memory_size → ⊥) → Drew (Err other) old memory
  unfolding drawing stream_drawn memory_drawn drawing_by refusals.number
  other_size n =
      rw (ne_eqb (length memory) memory_size n)
      (let a = refused_answer other (refused_by 18 0) refl in (a.0, (a.1, (refl, refl))))

  module _ (len : length memory ≡ memory_size) (stream : List ℕ) (buffer : stream ≡ buffer_after memory_size t old) where
    -- compiling refuses
    pub compile_refused : (r : Refused) → compiling_of (Err r) ≡ c → Drew (Err r) stream memory
    unfolding drawing stream_drawn memory_drawn drawing_by compiling_by
    compile_refused r e =
        let some = ne_eqb c.number 0 (refused_number r c e) in
        let a = refused_answer r (refused_by c.number c.place) (λ k. refused_by (e k).number (e k).place) in
        rw (eq-eqb (length memory) memory_size len, some, some) (a.0, (a.1, (buffer, refl)))

    module _ (x : Compiled) (e : compiling_of (Ok x) ≡ c) where
      none : c.number ≡ 0
      unfolding compiling_by
      none = sym (ap (λ (k : Compiling). k.number) e)

      size : x.length ≡ c.length
      unfolding compiling_by
      size = ap (λ (k : Compiling). k.length) e

      -- the stream lies in the buffer
      pub part_fits : x.length ≤ length stream
      unfolding buffer_after stream_of
      part_fits =
          let a = compiled_says memory_size t (length old) none in
          let room : length (stream_bytes (records_in t)) ≤ length old = omega (arith, length_stream (records_in t), a.fits) in
          let kept : length stream ≡ length old = ap length buffer ∙ rw (eq-eqb c.number 0 none) (length_over old (stream_bytes (records_in t)) room) in
          omega (arith, kept, a.fits, size, ap (λ (k : Compiling). k.length) a.given)

      module _ (below : InBytes t) (byte-memory : AllBelow 256 memory) (part : List ℕ) (cut : part ≡ take (x.length - 0) stream) where
        -- the part that is played is the stream in the length that compiling gave
        given : part ≡ stream_given t old
        given = cut ∙ ap (λ (k : ℕ). take k stream) (sub-zero x.length) ∙ (λ k. take (size k) (buffer k))

        truly : DrawnTruly t old memory
        truly = demand_3 t old memory below byte-memory len none

        zero : (playing memory_size part memory).number ≡ 0
        zero = ap (λ (k : List ℕ). (playing memory_size k memory).number) given ∙ truly.not_refused

        -- playing does not refuse
        pub play_accepts : (r : Refused) → playing_of (Err r) ≡ playing memory_size part memory → ⊥
        play_accepts r h = not_played r (playing memory_size part memory) zero h

        pub draw_accepted : (v : ScreenValues) (new : List ℕ) → playing_of (Ok v) ≡ playing memory_size part memory → new ≡ played memory_size part memory
            → Drew (Ok (record { length = x.length; values = v })) stream new
        unfolding drawing stream_drawn memory_drawn drawing_by playing_by
        draw_accepted v new p m =
            let values : v ≡ values_of (screen_in t) =
            ap (λ (k : Playing). k.values) p ∙ ap (λ (k : List ℕ). (playing memory_size k memory).values) given
            ∙ values_given_lem t old memory below byte-memory len none in
            let a = accepted_answer (record { length = x.length; values = v }) (record { number = 0; place = 0; length = c.length; values = values_of (screen_in t) })
            (λ k. record { number = 0; place = 0; length = size k; values = values k }) in
            rw (eq-eqb (length memory) memory_size len, eq-eqb c.number 0 none)
            (a.0, (a.1, (buffer, m ∙ ap (λ (k : List ℕ). played memory_size k memory) given ∙ truly.same_bytes)))
