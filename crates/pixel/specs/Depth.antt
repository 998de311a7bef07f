-- Depths: the bits of a pixel (01, refusal number 2).
use Rattle.std.specs.Prelude.{ℕ, ◌/◌, Bool, ◌||◌, eqb}

-- 1, 2, 4, 8 or 16
unfoldable pub is_depth : ℕ → Bool
is_depth d = eqb d 1 || (eqb d 2 || (eqb d 4 || (eqb d 8 || eqb d 16)))

-- 32 ÷ depth: the pixels of a dword, 01's k
abbrev pub per_dword : ℕ → ℕ
per_dword d = 32 / d
