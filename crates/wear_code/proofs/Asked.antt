-- What a check of the ask leaves: its number is 0, or the answer is its refusal.
use Prim.Native.Nat.{ℕ}
use mathlib.Core.Path.{◌≡◌, sym, ap, ◌∙◌}
use mathlib.Core.List.{List}
use Rattle.std.specs.Prelude.{Result, Ok, Err}
use lib.ListN.{length}
use Rattle.record.specs.Checks.{first_of}
use Rattle.refusal.specs.Number.{number_of, number_by}
use Rattle.refusal.specs.declared.Refusal.{Refusal}
use Rattle.wear.specs.Strip.{Strip, ask_rows, stripping, list_after, words_after, stripping_of, answer_of}
use Rattle.wear.specs.declared.Made.{Made}
use Rattle.wear.proofs.Lists.{strip_faulty}

pub passed : {n : ℕ} {x : Result (Unit {0}) Refusal} {u : Unit {0}} → number_of x ≡ n → x ≡ Ok u → n ≡ 0
unfolding number_by
passed e z = sym e ∙ ap number_of z

-- the answer of a refused ask, and both buffers
pub record Refuses (t : Strip) (list words : List ℕ) (y : Result Made Refusal) : Type 0 where
  pub numbers : stripping_of y ≡ stripping t (length list) (length words)
  pub answer : y ≡ answer_of (stripping t (length list) (length words))
  pub list_kept : list ≡ list_after t list words
  pub words_kept : words ≡ words_after t list words

pub refused : (t : Strip) (list words : List ℕ) (x : Result (Unit {0}) Refusal) (r : Refusal) (y : Result Made Refusal)
    → number_of x ≡ first_of (ask_rows t.ask (length t.factory)) → x ≡ Err r → y ≡ Err r → Refuses t list words y
unfolding number_by
refused t list words x r y e f g =
    let told = strip_faulty t list words r (ap number_of (sym f) ∙ e) in
    record {
      numbers = ap stripping_of g ∙ told.0;
      answer = g ∙ told.1.0;
      list_kept = told.1.1.0;
      words_kept = told.1.1.1;
    }
