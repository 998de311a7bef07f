-- Bytes that two parts of the memory share (02, h: "sharing a byte with the destination", "source and destination share a byte"): those of
-- their lines, and not those between.
use Rattle.std.specs.Prelude.{ℕ, zero, suc, ◌+◌, ◌*◌, ◌≤◌, ◌<◌, min, max, ◌≡◌, ◌↔◌, Bool, true, false, ◌||◌, ltb}

-- lines of bytes: the first line's address, from one line to the next, bytes of a line, and lines
pub record Lines : Type 0 where
  pub at : ℕ
  pub line : ℕ
  pub size : ℕ
  pub count : ℕ

-- n bytes from address a on and k bytes from address b on have one in common: the later start lies before the earlier end
abbrev pub meet : ℕ → ℕ → ℕ → ℕ → Bool
meet a n b k = ltb (max a b) (min (a + n) (b + k))

-- one of 0 to n - 1 passes a test
unfoldable pub any_of : ℕ → (ℕ → Bool) → Bool
any_of zero test = false
any_of (suc n) test = any_of n test || test n

-- a line of the one and a line of the other have a byte in common
unfoldable pub share_byte : Lines → Lines → Bool
share_byte p q =
    any_of p.count (λ j. any_of q.count (λ k. meet (p.at + j * p.line) p.size (q.at + k * q.line) q.size))

-- ---- what is claimed

-- address a is one of the lines' bytes
pub record Holds (p : Lines) (a : ℕ) : Type 0 where
  pub j : ℕ
  pub in_lines : j < p.count
  pub from : p.at + j * p.line ≤ a
  pub below : a < p.at + j * p.line + p.size

pub record InBoth (p q : Lines) : Type 0 where
  pub a : ℕ
  pub first : Holds p a
  pub second : Holds q a

-- so the test says just that an address is a byte of both
abbrev pub SharesExactly : Type 0
SharesExactly = (p q : Lines) → (share_byte p q ≡ true) ↔ InBoth p q
