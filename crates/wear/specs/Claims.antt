-- What is claimed of the strip by itself: "From an empty ring, the picture depends on the accepted samples alone, besides what the caller
-- gives", and the number below it is the newest accepted one.
use Rattle.std.specs.Prelude.{ℕ, ◌≡◌, cond, List, []}
use Rattle.ring.specs.Samples.{Sample, accepted, newest_of, AllSequences}
use Rattle.ring.specs.Kept.{empty_ring, ring_after}
use Rattle.ring.specs.Claims.{is_none}
use Rattle.wear.specs.Font.{digits_of}
use Rattle.wear.specs.Strip.{Strip, strip_for}
use Rattle.wear.specs.declared.Ask.{Ask}

-- the strip of what came to an empty ring
abbrev pub strip_after : List Sample → Ask → List ℕ → List ℕ → Strip
strip_after came a site factory = strip_for (ring_after empty_ring came) a site factory

-- two rings from empty with the same accepted samples make the same strip
abbrev pub SameStrip : Type 0
SameStrip =
    (came others : List Sample) → AllSequences came → AllSequences others → accepted came ≡ accepted others
    → (a : Ask) (site factory : List ℕ) → strip_after came a site factory ≡ strip_after others a site factory

-- the number below is the newest accepted sample's; there is none where no sample was
abbrev pub NewestBelow : Type 0
NewestBelow =
    (came : List Sample) → AllSequences came → (a : Ask) (site factory : List ℕ)
    → (strip_after came a site factory).digits ≡ cond (is_none (accepted came)) [] (digits_of (newest_of (accepted came)))
