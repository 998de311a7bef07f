-- A part of a caller's list (01: "handed back as the 32-byte part of the list it stands in").
use Rattle.std.specs.Prelude.{ℕ, ◌+◌, ◌≡◌, List, take, drop}
use Rattle.std.specs.Borrow.{Bor}

-- r is the part of list from byte `from` on with n bytes: it stands there, and holds those
pub record IsPart (list r : Bor (List ℕ)) (from n : ℕ) : Type 0 where
  pub place : r.ref_ptr ≡ (list.ref_ptr.0, from + list.ref_ptr.1)
  pub bytes : r.now ≡ take n (drop from list.now)
