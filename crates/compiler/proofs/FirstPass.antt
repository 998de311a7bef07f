-- The first pass, after i commands.
use Prim.Native.Nat.{ℕ, ◌+◌, ◌-◌, ◌*◌, ◌/◌, ◌<◌, ◌≤◌}
use mathlib.Core.Path.{◌≡◌, refl, sym, ap, ◌∙◌}
use mathlib.Core.List.{List, [], ◌∷◌}
use native.Mathlib.Nat.{sub-zero, zero-add, sub-add-eq}
use native.Mathlib.Omega.{arith}
use lib.ListN.{length, take, drop}
use Rattle.record.specs.Lists.{parts_from, parts_of}
use Rattle.record.proofs.Lists.{parts_step, parts_end}
use Rattle.screen.specs.declared.Screen.{Screen}
use Rattle.command.specs.Command.{command_of, words_taken, command_answer}
use Rattle.command.specs.Task.{first_refusal, all_words}
use Rattle.command.specs.declared.Command.{Command}
use Rattle.std.specs.Prelude.{Ok, Err}
use Rattle.refusal.specs.Number as refusals
use Rattle.refusal.specs.declared.Refusal.{Refusal}
use Rattle.refusal.proofs.Numbers.{accepted_at, refused_with_at}
use Rattle.command.proofs.Answer.{command_accepted, command_refused}
use Rattle.command.proofs.Fine.{fine}
use Rattle.command.proofs.Commands.{refusal_go, refusal_stop}
use Rattle.compiler.specs.Pass.{pass_of}

-- the list's commands of so many bytes from i on, and command i
abbrev pub rest : ℕ → List ℕ → ℕ → ℕ → List (List ℕ)
rest size list count i = parts_from size list i (count - i)

abbrev pub part_at : ℕ → List ℕ → ℕ → List ℕ
part_at size list i = take size (drop (i * size) list)

module _ (m : ℕ) (s : Screen) (size : ℕ) (list : List ℕ) (left : ℕ) where
  pub record Going (count i used : ℕ) : Type 0 where
    pub count_is : count ≡ length list / size
    pub within : i ≤ count
    pub fits : used ≤ left
    pub small : used ≤ i * 4294967295
    pub refusal_is : first_refusal m s 0 left (parts_of size list) ≡ first_refusal m s i (left - used) (rest size list count i)
    pub words_are : all_words s (parts_of size list) ≡ used + all_words s (rest size list count i)

  pub going_start : Going (length list / size) 0 0
  unfolding parts_of
  going_start = record { count_is = refl; within = omega arith; fits = omega arith; small = omega arith; refusal_is = rw (sub-zero, sub-zero); words_are = rw (sub-zero, zero-add) }

  all_step : (b : List ℕ) (bs : List (List ℕ)) → all_words s (b ∷ bs) ≡ words_taken s (command_of b) + all_words s bs
  unfolding all_words
  all_step b bs = refl

  all_end : all_words s [] ≡ 0
  unfolding all_words
  all_end = refl

  refusal_end : (i k : ℕ) → first_refusal m s i k [] ≡ record { number = 0; place = 0 }
  unfolding first_refusal
  refusal_end i k = refl

  module _ (count i used : ℕ) (g : Going count i used) where
    -- an accepted command's words are there
    pub words_fit : (c : Command) → command_answer m s (left - used) (part_at size list i) ≡ Ok c → used + words_taken s c ≤ left
    words_fit c p =
        let a = command_accepted m s (left - used) (part_at size list i) c p in
        let f = (fine m s (left - used) (part_at size list i) a.1).words in
        rw a.0 (omega (arith, f, g.fits))

    pub going_turn : (c : Command) → i < count → words_taken s c ≤ 4294967295 → command_answer m s (left - used) (part_at size list i) ≡ Ok c → Going count (i + 1) (used + words_taken s c)
    going_turn c h w p =
        let a = command_accepted m s (left - used) (part_at size list i) c p in
        record {
          count_is = g.count_is;
          within = omega arith;
          fits = words_fit c p;
          small = omega (arith, g.small);
          refusal_is =
              g.refusal_is ∙ ap (λ (bs : List (List ℕ)). first_refusal m s i (left - used) bs) (parts_step size list i count h)
              ∙ refusal_go m s i (left - used) (part_at size list i) (rest size list count (i + 1)) a.1 ∙ (rw (a.0, sub-add-eq left used (words_taken s (command_of (part_at size list i)))));
          words_are = omega (arith, g.words_are, ap (all_words s) (parts_step size list i count h), all_step (part_at size list i) (rest size list count (i + 1)), ap (words_taken s) a.0);
        }

    pub pass_refused : (r : Refusal) → i < count → command_answer m s (left - used) (part_at size list i) ≡ Err r → Err (record { refusal = r; place = i }) ≡ pass_of m s left (parts_of size list)
    unfolding pass_of
    pass_refused r h p =
        let a = command_refused m s (left - used) (part_at size list i) r p in
        let e = g.refusal_is ∙ ap (λ (bs : List (List ℕ)). first_refusal m s i (left - used) bs) (parts_step size list i count h)
        ∙ refusal_stop m s i (left - used) (refusals.number r) (part_at size list i) (rest size list count (i + 1)) a.0 a.1 in
        rw e (sym (refused_with_at _ (record { refusal = r; place = i }) _ i refl refl))

    pub pass_done : count ≤ i → Ok used ≡ pass_of m s left (parts_of size list)
    unfolding pass_of
    pass_done h =
        let e = g.refusal_is ∙ ap (λ (bs : List (List ℕ)). first_refusal m s i (left - used) bs) (parts_end size list i count h) ∙ refusal_end i (left - used) in
        let w : all_words s (parts_of size list) ≡ used = omega (arith, g.words_are, ap (all_words s) (parts_end size list i count h), all_end) in
        rw (e, w) (sym (accepted_at _ 0 0 refl))
