-- Lists of numbers: their limits, a list from its elements, and a list cut into parts.
use Rattle.std.specs.Prelude.{ℕ, zero, suc, ◌*◌, ◌/◌, ◌<◌, List, [], ◌∷◌, length, get_or, take, drop}

-- numbers below a limit: bytes below 256, host words below 65,536
abbrev pub AllBelow : ℕ → List ℕ → Type 0
AllBelow limit xs = (k : ℕ) → get_or xs k 0 < limit

-- the list of f 0, f 1, .. of n numbers
abbrev pub tabulate : ℕ → (ℕ → ℕ) → List ℕ
tabulate zero f = []
tabulate (suc n) f = let x = f 0 in x ∷ tabulate n (λ k. f (suc k))

-- n parts of so many bytes of a list, from part i on
unfoldable pub parts_from : ℕ → List ℕ → ℕ → ℕ → List (List ℕ)
parts_from size list i zero = []
parts_from size list i (suc n) = take size (drop (i * size) list) ∷ parts_from size list (suc i) n

-- the whole parts of a list
unfoldable pub parts_of : ℕ → List ℕ → List (List ℕ)
parts_of size list = parts_from size list 0 (length list / size)
