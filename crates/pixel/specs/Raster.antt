-- Raster codes (01, "Blits": "each result bit is bit (2s + d) of c, s and d being source and destination bit").
use Rattle.std.specs.Prelude.{ℕ, zero, suc, ◌+◌, ◌*◌, ◌/◌, ◌%◌, ◌^◌}

-- bit k of x
abbrev pub bit : ℕ → ℕ → ℕ
bit x k = x / 2 ^ k % 2

-- the number of n bits whose every bit is f of the bits of s and d at its place
unfoldable pub bitwise : ℕ → (ℕ → ℕ → ℕ) → ℕ → ℕ → ℕ
bitwise zero f s d = 0
bitwise (suc n) f s d = bitwise n f (s / 2) (d / 2) * 2 + f (s % 2) (d % 2)

-- source and destination pixel of n bits, combined under code c
abbrev pub raster : ℕ → ℕ → ℕ → ℕ → ℕ
raster n c s d = bitwise n (λ x y. bit c (2 * x + y)) s d
