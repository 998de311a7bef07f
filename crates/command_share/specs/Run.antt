-- Lines of bytes and one run of bytes, as code compares them: it asks one of the lines. Only contracts of private functions cite this.
use Rattle.std.specs.Prelude.{ℕ, ◌+◌, ◌-◌, ◌*◌, ◌/◌, Bool, cond, ltb}
use Rattle.command.specs.Sharing.{meet, any_of}

-- one of the lines, the first at address `at`, has a byte in common with n bytes from address a on
unfoldable pub lines_meet : ℕ → ℕ → ℕ → ℕ → ℕ → ℕ → Bool
lines_meet at line size count a n = any_of count (λ j. meet (at + j * line) size a n)

-- the first line that ends past address a, however many lines there are; 1 where they all stand in one place and end before it
unfoldable pub first_past : ℕ → ℕ → ℕ → ℕ → ℕ
first_past at line size a = cond (ltb a (at + size)) 0 ((a - (at + size)) / line + 1)
