-- A row's highest bit is its leftmost letter, and the font has eight rows of ten digits.
use mathlib.Core.Path.{◌≡◌, refl}
use lib.ListN.{length}
use Rattle.font.specs.Factory.{row_of, factory_font}

leftmost : row_of "#......." ≡ 128
leftmost = refl

rightmost : row_of ".......#" ≡ 1
rightmost = refl

rows : length factory_font ≡ 80
rows = refl
