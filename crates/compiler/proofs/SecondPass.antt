-- The second pass, after i commands.
use Prim.Native.Nat.{ℕ, ◌+◌, ◌-◌, ◌*◌, ◌/◌, ◌<◌, ◌≤◌}
use mathlib.Core.Path.{◌≡◌, refl, sym, ap, ◌∙◌}
use mathlib.Core.List.{List, [], ◌∷◌, ◌++◌}
use native.Mathlib.Nat.{sub-zero, sub-add-eq, add-sub_cancel_left}
use native.Mathlib.Omega.{arith}
use lib.ListN.{length, take, drop, length-append, length-drop}
use lib.Seq.{drop-drop, length-take-le, sets, length-sets}
use Rattle.record.specs.Lists.{parts_of}
use Rattle.record.specs.Record.{stream_bytes}
use Rattle.record.specs.declared.Record.{Record}
use Rattle.record.proofs.Lists.{parts_step, parts_end}
use Rattle.record.proofs.Stores.{sets_append, stream_append, length_stream}
use Rattle.screen.specs.declared.Screen.{Screen}
use Rattle.command.specs.Command.{command_of, words_taken}
use Rattle.command.specs.Values.{blit_registers, blit_values}
use Rattle.command.specs.Task.{first_refusal}
use Rattle.command.specs.declared.Command.{Command}
use Rattle.command.proofs.Fine.{Fine}
use Rattle.command.proofs.Commands.{AllFine, all_fine}
use Rattle.compiler.specs.Stream.{records_with, data_records, command_records, draw_records}
use Rattle.compiler.proofs.Lengths.{length_registers, length_command}
use Rattle.compiler.proofs.FirstPass.{rest, part_at}

-- the bytes of records, and behind them those of others
pub stored_both : (l : List ℕ) (at : ℕ) (a b : List Record) → sets l at (stream_bytes (a ++ b)) ≡ sets (sets l at (stream_bytes a)) (at + 8 * length a) (stream_bytes b)
stored_both l at a b = rw (stream_append, sets_append, length_stream)

-- a command's registers and then its data words
pub command_stored : (s : Screen) (c : Command) (at : ℕ) (l words values : List ℕ) {l1 l2 : List ℕ} → values ≡ blit_values s c → l1 ≡ sets l at (stream_bytes (records_with blit_registers values)) → l2 ≡ sets l1 (at + 72) (stream_bytes (data_records words)) → l2 ≡ sets l at (stream_bytes (command_records s c words))
unfolding command_records
command_stored s c at l words values e f g =
    let n : length (records_with blit_registers (blit_values s c)) ≡ 9 = length_registers s c in
    g ∙ ap (λ (b : List ℕ). sets b (at + 72) (stream_bytes (data_records words))) (f ∙ ap (λ (v : List ℕ). sets l at (stream_bytes (records_with blit_registers v))) e)
    ∙ sym (stored_both l at (records_with blit_registers (blit_values s c)) (data_records words) ∙ (rw n))

module _ (m : ℕ) (s : Screen) (size : ℕ) (list words : List ℕ) where
  -- the records from command i on, with the host words from `used` on
  abbrev pub records_at : ℕ → ℕ → ℕ → List Record
  records_at count i used = draw_records s (drop used words) (rest size list count i)

  pub record Writing (buffer₀ buffer : List ℕ) (count i used at : ℕ) : Type 0 where
    pub count_is : count ≡ length list / size
    pub within : i ≤ count
    pub taken : used ≤ length words
    pub same : length buffer ≡ length buffer₀
    pub fine : AllFine m s (length words - used) (rest size list count i)
    pub room : at + 8 * length (records_at count i used) ≤ length buffer
    pub stored : sets buffer₀ 48 (stream_bytes (draw_records s words (parts_of size list))) ≡ sets buffer at (stream_bytes (records_at count i used))

  pub writing_start : (buffer : List ℕ) → (first_refusal m s 0 (length words) (parts_of size list)).number ≡ 0 → 48 + 8 * length (draw_records s words (parts_of size list)) ≤ length buffer → Writing buffer buffer (length list / size) 0 0 48
  unfolding parts_of
  writing_start buffer p q =
      record {
        count_is = refl;
        within = omega arith;
        taken = omega arith;
        same = refl;
        fine = rw (sub-zero, sub-zero) (all_fine m s 0 (length words) (parts_of size list) p);
        room = rw sub-zero q;
        stored = rw sub-zero;
      }

  fine_step : (left : ℕ) (b : List ℕ) (bs : List (List ℕ)) → AllFine m s left (b ∷ bs) → Fine m s left (command_of b) × AllFine m s (left - words_taken s (command_of b)) bs
  unfolding AllFine
  fine_step left b bs a = a

  draw_step : (ws b : List ℕ) (bs : List (List ℕ)) → draw_records s ws (b ∷ bs) ≡ command_records s (command_of b) (take (words_taken s (command_of b)) ws) ++ draw_records s (drop (words_taken s (command_of b)) ws) bs
  unfolding draw_records
  draw_step ws b bs = refl

  draw_end : (ws : List ℕ) → draw_records s ws [] ≡ []
  unfolding draw_records
  draw_end ws = refl

  module _ (buffer₀ buffer : List ℕ) (count i used at : ℕ) (g : Writing buffer₀ buffer count i used at) where
    module _ (c : Command) (h : i < count) (e : c ≡ command_of (part_at size list i)) where
      steps : Fine m s (length words - used) c × AllFine m s (length words - used - words_taken s c) (rest size list count (i + 1))
      steps = rw e (fine_step (length words - used) (part_at size list i) (rest size list count (i + 1)) (rw (parts_step size list i count h) at g.fine))

      pub words_there : used + words_taken s c ≤ length words
      words_there = omega (arith, g.taken, steps.0.words)

      -- the command's records, and the others
      pub records_step_lem : records_at count i used ≡ command_records s c (take (words_taken s c) (drop used words)) ++ records_at count (i + 1) (used + words_taken s c)
      records_step_lem = rw (parts_step size list i count h, draw_step, ← e, drop-drop)

      words_length : length (take (words_taken s c) (drop used words)) ≡ words_taken s c
      words_length = length-take-le (words_taken s c) (drop used words) (rw length-drop (omega (arith, words_there)))

      command_length : length (command_records s c (take (words_taken s c) (drop used words))) ≡ 9 + words_taken s c
      command_length = length_command s c (take (words_taken s c) (drop used words)) ∙ ap (λ (n : ℕ). 9 + n) words_length

      step_length : length (records_at count i used) ≡ 9 + words_taken s c + length (records_at count (i + 1) (used + words_taken s c))
      step_length = ap (λ (rs : List Record). length rs) records_step_lem ∙ (rw (length-append, command_length))

      pub room_there : at + 72 + 8 * words_taken s c ≤ length buffer
      room_there = omega (arith, g.room, step_length)

      writing_turn : (new : List ℕ) → new ≡ sets buffer at (stream_bytes (command_records s c (take (words_taken s c) (drop used words)))) → Writing buffer₀ new count (i + 1) (used + words_taken s c) (at + 72 + 8 * words_taken s c)
      writing_turn new f =
          let l : length new ≡ length buffer = ap (λ (b : List ℕ). length b) f ∙ length-sets buffer at (stream_bytes (command_records s c (take (words_taken s c) (drop used words)))) in
          let move : at + 8 * (9 + words_taken s c) ≡ at + 72 + 8 * words_taken s c = omega arith in
          record {
            count_is = g.count_is;
            within = omega arith;
            taken = words_there;
            same = l ∙ g.same;
            fine = rw (sub-add-eq (length words) used (words_taken s c)) steps.1;
            room = omega (arith, g.room, l, step_length);
            stored = g.stored ∙ (rw (records_step_lem, stored_both, ← f, command_length, move));
          }

      -- the same as the code has it, with n for the command's words and the part of the words from used to used + n
      pub part_length : (n : ℕ) → n ≡ words_taken s c → length (take (used + n - used) (drop used words)) ≡ n
      part_length n d = rw (add-sub_cancel_left, d) words_length

      pub writing_step : (n : ℕ) (new : List ℕ) → n ≡ words_taken s c → new ≡ sets buffer at (stream_bytes (command_records s c (take (used + n - used) (drop used words)))) → Writing buffer₀ new count (i + 1) (used + n) (at + 72 + 8 * n)
      writing_step n new d f = rw d (writing_turn new (f ∙ (rw (add-sub_cancel_left, d))))

    pub writing_end : count ≤ i → buffer ≡ sets buffer₀ 48 (stream_bytes (draw_records s words (parts_of size list)))
    unfolding stream_bytes
    writing_end h = sym (g.stored ∙ (rw (parts_end size list i count h, draw_end)))
