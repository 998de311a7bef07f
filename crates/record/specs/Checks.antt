-- Refusals in order (01, "Refusal numbers, also the order of checking"): the first number of a table of checks, and its place.
use Rattle.std.specs.Prelude.{ℕ, ◌<◌, ◌≡◌, Bool, true, false, ◌||◌, cond, List, [], ◌∷◌, ◌++◌}

-- a row of the table: its number, the place that a refusal by it names, and whether what it refuses is there
pub record Row : Type 0 where
  pub number : ℕ
  pub place : ℕ
  pub fails : Bool

-- a row that names no command and no record: its place is 0
abbrev pub row : ℕ → Bool → Row
row n b = record { number = n; place = 0; fails = b }

-- rows of numbers and of what the checks found, as many as there are of both
unfoldable pub rows_with : List ℕ → List Bool → List Row
rows_with [] bs = []
rows_with (n ∷ ns) [] = []
rows_with (n ∷ ns) (b ∷ bs) = row n b ∷ rows_with ns bs

-- one of the checks found something
unfoldable pub any_of : List Bool → Bool
any_of [] = false
any_of (b ∷ bs) = b || any_of bs

-- the rows of a table, each at place i
unfoldable pub rows_at : ℕ → List Row → List Row
rows_at i [] = []
rows_at i (r ∷ rs) = record { number = r.number; place = i; fails = r.fails } ∷ rows_at i rs

-- the number of the first row that fails; 0 where none does
unfoldable pub first_of : List Row → ℕ
first_of [] = 0
first_of (r ∷ rs) = cond r.fails r.number (first_of rs)

-- the place of the first row that fails; 0 where none does
unfoldable pub first_place : List Row → ℕ
first_place [] = 0
first_place (r ∷ rs) = cond r.fails r.place (first_place rs)

-- a refusal number and its place; number 0 for none
pub record Refusal : Type 0 where
  pub number : ℕ
  pub place : ℕ

-- no row fails
unfoldable pub AllPass : List Row → Type 0
AllPass [] = Unit {0}
AllPass (r ∷ rs) = (r.fails ≡ false) × AllPass rs

-- a row with the number n and the place i fails, and all rows before it pass
pub record FirstFails (rows : List Row) (n i : ℕ) : Type 0 where
  pub before : List Row
  pub at : Row
  pub after : List Row
  pub cut : rows ≡ before ++ (at ∷ after)
  pub earlier : AllPass before
  pub fails : at.fails ≡ true
  pub numbered : at.number ≡ n
  pub placed : at.place ≡ i

-- 0 is the number of no row: it says "accepted"
unfoldable pub Numbered : List Row → Type 0
Numbered [] = Unit {0}
Numbered (r ∷ rs) = (0 < r.number) × Numbered rs
