-- A list cut into whole parts, one by one: i of them are off, and what is left is `whole`.
use Prim.Native.Nat.{ℕ, ◌+◌, ◌*◌, ◌/◌, ◌≤◌, ◌<◌}
use mathlib.Core.Path.{◌≡◌, sym, ap, ◌∙◌}
use mathlib.Core.List.{List, ◌++◌}
use mathlib.Core.Logic.{⊎_elim}
use native.Mathlib.Omega.{arith}
use lib.ListN.{length, take, drop, length-append, length-drop}
use Rattle.std.proofs.Math.Seq.{take-append_seam, drop-append_seam}
use Rattle.std.proofs.lemmas.List.{drop-drop}
use Rattle.std.proofs.lemmas.Nat.{le-div}
use Rattle.record.proofs.Choice.{below_or_not}
use Rattle.command.proofs.Forms.{part_ends}

module _ (size : ℕ) (list : List ℕ) (some : 0 < size) (whole : List ℕ) (i : ℕ) (e : whole ≡ drop (i * size) list) where
  -- part i is cut off, and `rest` is left
  pub record Cut (part rest : List ℕ) : Type 0 where
    pub more : i < length list / size
    pub part_is : part ≡ take size (drop (i * size) list)
    pub rest_is : rest ≡ drop ((i + 1) * size) list

  pub cut : (part rest : List ℕ) → whole ≡ part ++ rest → length part ≡ size → Cut part rest
  cut part rest f n =
      let both : part ++ rest ≡ drop (i * size) list = sym f ∙ e in
      let enough : (i + 1) * size ≤ length list = omega (arith, n, some, length-append part rest, length-drop (i * size) list, ap (λ (l : List ℕ). length l) both) in
      let next : i * size + size ≡ (i + 1) * size = omega arith in
      record {
        more = omega (arith, le-div (i + 1) (length list) size some enough);
        part_is = sym (take-append_seam part rest) ∙ (λ t. take (n t) (both t));
        rest_is = sym (drop-append_seam part rest) ∙ (λ t. drop (n t) (both t)) ∙ drop-drop size (i * size) list ∙ ap (λ (k : ℕ). drop k list) next;
      }

  -- less than a part is left
  pub cut_end : length whole < size → length list / size ≤ i
  cut_end h =
      ⊎_elim
      (λ p. absurd (omega (arith, h, part_ends size (length list) i p, length-drop (i * size) list, ap (λ (l : List ℕ). length l) e)))
      (λ p. p)
      (below_or_not i (length list / size))
