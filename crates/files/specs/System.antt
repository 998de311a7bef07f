-- What the system decides, and what holds of it.
use Rattle.std.specs.Prelude.{ℕ, ◌*◌, min, ◌≡◌, Bool, true, false, ◌⊎◌, Option, Some, IfSome, unwrap_or, List, length}
use Rattle.std.proofs.lemmas.List.Edits.{sets}
use Rattle.io.specs.Counts.{IsPrefixLen}
use Rattle.text.specs.Lines.{joined, word_of}
use Rattle.text.specs.Numbers.{number_of}

-- an answer of the system: yes or no
abbrev pub YesOrNo : Bool → Type 0
YesOrNo answer = (answer ≡ true) ⊎ (answer ≡ false)

-- a file's bytes in a buffer: as many as the count says; no count where it cannot be read
pub record LoadedBytes (old new : List ℕ) (r : Option ℕ) : Type 0 where
  pub within : IfSome r (λ n. IsPrefixLen n new)
  pub same : length new ≡ length old

-- a file's bytes as host words, low byte first; where the file is left out or not taken there are none, and the buffer is
-- as it was
pub record LoadedWords (old new : List ℕ) (r : Option ℕ) : Type 0 where
  pub bytes : List ℕ
  pub pairs : length bytes ≡ 2 * unwrap_or r 0
  pub words : new ≡ sets old 0 (joined (word_of bytes) (unwrap_or r 0))
  pub within : IfSome r (λ n. IsPrefixLen n new)

-- ---- the display memory before the drawing
-- the buffer as it was, 262,144 bytes of it or all where it has fewer
pub record Untouched (old new : List ℕ) (r : Option ℕ) : Type 0 where
  pub count : r ≡ Some (min 262144 (length old))
  pub same : new ≡ old

-- a file's bytes, or, where the file is left out, the buffer as it was: which of the two, the system says
pub record LoadedMemory (old new : List ℕ) (r : Option ℕ) : Type 0 where
  pub within : IfSome r (λ n. IsPrefixLen n new)
  pub either : Untouched old new r ⊎ LoadedBytes old new r

-- ---- the number that an argument's text means: which text it is, the system says
pub record GivenNumber (r : Option ℕ) : Type 0 where
  pub text : List ℕ
  pub meant : r ≡ number_of text
