-- What the checks leave known of an ask and of heights. Only contracts of wear_code cite it.
use Rattle.std.specs.Prelude.{ℕ, ◌+◌, ◌≤◌, ◌≡◌, cond, ◌⊎◌, List, [], ◌∷◌, length, get_or, eqb}
use Rattle.wear.specs.declared.Ask.{Ask}

-- depth 8 with colours of a byte, or 16; 1 to 24 hours; columns of 1 to 16 pixels
pub record Checked (a : Ask) : Type 0 where
  pub depth : (a.depth ≡ 8) ⊎ (a.depth ≡ 16)
  pub bar : a.depth ≡ 8 → a.bar ≤ 255
  pub background : a.depth ≡ 8 → a.background ≤ 255
  pub hours : a.hours ≤ 24
  pub column : a.column ≤ 16

-- at most 24 heights, none above 100
pub record Drawable (heights : List ℕ) : Type 0 where
  pub count : length heights ≤ 24
  pub low : (c : ℕ) → get_or heights c 0 ≤ 100

-- how many commands the columns of heights have: two with a bar, else one
unfoldable pub command_count : List ℕ → ℕ
command_count [] = 0
command_count (h ∷ hs) = cond (eqb h 0) 1 2 + command_count hs
