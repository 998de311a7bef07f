-- The law under requests j and k of 02: what a stream leaves in the memory.
use Rattle.std.specs.Prelude.{ℕ, ◌≡◌, List}
use Rattle.record.specs.Record.{records_of}
use Rattle.chip.specs.Play.{playing, played}
use Rattle.starts.specs.Starts.{starts_in}

-- the memory that an accepted stream leaves depends only on the starting memory, its data and, at each start, the registers that the started
-- operation uses: two streams with the same starts leave the same memory, whatever else they write, and in which order
abbrev pub ByStartsAlone : Type 0
ByStartsAlone =
    (m : ℕ) (one other memory : List ℕ) → (playing m one memory).number ≡ 0 → (playing m other memory).number ≡ 0
    → starts_in (records_of one) ≡ starts_in (records_of other)
    → played m one memory ≡ played m other memory
