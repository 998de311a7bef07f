-- Where a part of a caller's list stands, and parts of parts.
use Prim.Native.Nat.{ℕ, ◌+◌, ◌≤◌}
use mathlib.Core.Path.{◌≡◌}
use mathlib.Core.List.{List}
use denote.Ref.{Bor}
use native.Mathlib.Omega.{arith}
use lib.ListN.{length, length-take}
use Rattle.record.specs.Part.{IsPart}

-- it stands so many bytes behind the list's start
pub part_stands : (list r : Bor (List ℕ)) (from n : ℕ) → IsPart list r from n → r.ref_ptr.1 ≡ from + list.ref_ptr.1
part_stands list r from n p = λ t. (p.place t).1

-- and has at most so many
pub part_length : (list r : Bor (List ℕ)) (from n : ℕ) → IsPart list r from n → length r.now ≤ n
part_length list r from n p = rw p.bytes (simp length-take (omega arith))
