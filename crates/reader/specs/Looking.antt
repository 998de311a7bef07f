-- The point reader in two steps, for inner contracts alone: where it looks, which asks no more of the memory than its length, and what it sees
-- there. No promise of an entry point cites it.
use Rattle.std.specs.Prelude.{ℕ, ◌+◌, ◌/◌, ◌≤◌, min, max, ◌≡◌, List, true, Result, Ok, Err, length}
use Rattle.record.specs.Checks.{first_of}
use Rattle.pixel.specs.Depth.{is_depth}
use Rattle.pixel.specs.Pixel.{stored_pixel}
use Rattle.screen.specs.declared.ScreenValues.{ScreenValues}
use Rattle.reader.specs.Read.{looked_at, read_rows, address_at, bit_at}
use Rattle.reader.specs.declared.Display.{Display}
use Rattle.reader.specs.declared.Spot.{Spot}
use Rattle.reader.specs.declared.Point.{Point}
use Rattle.refusal.specs.Number.{answered}
use Rattle.refusal.specs.declared.Refusal.{Refusal}

-- where the reader looks for panel point (p, q), in a memory of m bytes where n are lent; or its refusal
unfoldable pub looking : ℕ → Display → ScreenValues → ℕ → ℕ → ℕ → Result Spot Refusal
looking m d values p q n =
    let k = first_of (read_rows m d values p q n) in
    let w = looked_at d values p q in
    answered k (record { address = address_at d.depth w; bit = bit_at d.depth w })

-- what the memory shows there; a refusal of any kind is handed on
unfoldable pub seen : {E : Type 0} → ℕ → List ℕ → Result Spot E → Result Point E
seen depth memory (Ok s) = Ok (record { colour = stored_pixel depth memory s.address s.bit; address = s.address; bit = s.bit })
seen depth memory (Err r) = Err r

-- the bits that are looked at are the memory's, of a pixel of the depth
unfoldable pub Seeable : {E : Type 0} → ℕ → List ℕ → Result Spot E → Type 0
Seeable depth memory (Ok s) = (is_depth depth ≡ true) × (s.address + max 1 (depth / 8) ≤ length memory) × (s.bit ≤ 7) × (min depth 8 ≤ s.bit + 1)
Seeable depth memory (Err r) = Unit {0}
