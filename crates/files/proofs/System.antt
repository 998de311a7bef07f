-- What the system answers, and what a file's bytes give.
use Prim.Native.Nat.{ℕ, ◌/◌, ◌%◌, ◌≤◌, min}
use mathlib.Core.Path.{◌≡◌, refl, sym, ap, ◌∙◌}
use mathlib.Core.Bool.{Bool, true, false, cond}
use mathlib.Core.Logic.{inl, inr}
use mathlib.Core.List.{List, []}
use native.Mathlib.Omega.{arith}
use lib.ListN.{length}
use lib.Seq.{sets}
use Rattle.io.specs.Counts.{IsPrefixLen}
use Rattle.text.specs.Lines.{joined, word_of}
use Rattle.text.proofs.Stored.{counts}
use Rattle.files.specs.System.{YesOrNo, LoadedBytes, LoadedWords, LoadedMemory}
use Rattle.std.specs.Prelude.{Option, Some, None}

pub yes_or_no : (answer : Bool) → YesOrNo answer
yes_or_no true = inl refl
yes_or_no false = inr refl

-- the words of m bytes, two by two
pub words_loaded : (old new bytes : List ℕ) (m n : ℕ) → length old ≡ 262144 → m ≡ length bytes → m ≤ 524288 → m % 2 ≡ 0 → n ≡ min (length bytes / 2) (length old) → IsPrefixLen n new → new ≡ sets old 0 (joined (word_of bytes) (min (length bytes / 2) (length old))) → LoadedWords old new (Some n)
words_loaded old new bytes m n room all most even f h e =
    record {
      bytes = bytes;
      pairs = omega arith;
      words = e ∙ ap (λ (k : ℕ). sets old 0 (joined (word_of bytes) k)) (sym f);
      within = h;
    }

pub left_out_words : (old : List ℕ) → LoadedWords old old (Some 0)
unfolding joined
left_out_words old = record { bytes = []; pairs = refl; words = refl; within = counts 0 old (omega arith) }

pub no_words : (old : List ℕ) (r : Option ℕ) → r ≡ None → LoadedWords old old r
unfolding joined
no_words old None e = record { bytes = []; pairs = refl; words = refl; within = tt }
no_words old (Some n) e = cc

-- ---- the display memory
pub left_out : (old : List ℕ) (n : ℕ) → n ≡ min (length old) 262144 → LoadedMemory old old (Some n)
left_out old n e = record { within = counts n old (omega arith); either = inl (record { count = ap Some (omega arith); same = refl }) }

pub from_file : (old new : List ℕ) (r : Option ℕ) → LoadedBytes old new r → LoadedMemory old new r
from_file old new r l = record { within = l.within; either = inr l }
