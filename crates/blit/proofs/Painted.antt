-- Laws of the pointwise account: which addresses lie in the rectangle, and what they become.
use mathlib.Core.Path.{◌≡◌, refl, sym, ap, ◌∙◌}
use mathlib.Core.Bool.{Bool, true, false, ◌&&◌, cond}
use mathlib.Core.Logic.{⊎_elim}
use mathlib.Core.List.{List}
use Prim.Native.Nat.{ℕ, ◌+◌, ◌-◌, ◌*◌, ◌%◌, ◌≤◌, ◌<◌}
use native.Mathlib.Nat.{le-div_iff_mul-le}
use native.Mathlib.Omega.{arith}
use borrow.Author.Tests.{lt-ltb, le-ltb, le-leb, lt-leb}
use lib.Arith.{digits_div, digits_mod}
use lib.ListN.{length, get_or, get_or-eq_default}
use Rattle.record.proofs.Lists.{length_tabulate, get_d_tabulate}
use Rattle.pixel.specs.Pixel.{byte_of}
use Rattle.blit.specs.Blit.{Blit, offset}
use Rattle.blit.specs.Rectangle.{row, column, lane, inside, painted_pixel, painted_byte, painted}
use Rattle.blit.proofs.Runs.{below_or_not, step_fits}

pub length_painted : (b : Blit) (old : List ℕ) → length (painted b old) ≡ length old
unfolding painted
length_painted b old = length_tabulate (length old) (painted_byte b old)

pub painted_at : (b : Blit) (old : List ℕ) (a : ℕ) → a < length old → get_or (painted b old) a 0 ≡ painted_byte b old a
unfolding painted
painted_at b old a h = get_d_tabulate (length old) (painted_byte b old) a h

-- ---- addresses in and outside the rectangle

-- what the account asks: a pixel has bytes, a line of the rectangle fits in a line of the image, and the rectangle lies in memory
pub record Fits (b : Blit) (old : List ℕ) : Type 0 where
  pub some_bytes : 0 < b.bytes
  pub in_line : b.width * b.bytes ≤ b.line
  pub in_memory : (j : ℕ) → j < b.height → b.destination + (j * b.line + b.width * b.bytes) ≤ length old

pub inside_yes : (b : Blit) (a : ℕ) → b.destination ≤ a → row b a < b.height → column b a < b.width → inside b a ≡ true
unfolding inside
inside_yes b a p q r = rw (le-leb _ _ p, lt-ltb _ _ q, lt-ltb _ _ r)

and_false : (t : Bool) → t && false ≡ false
and_false true = refl
and_false false = refl

-- before it
pub inside_before : (b : Blit) (a : ℕ) → a < b.destination → inside b a ≡ false
unfolding inside
inside_before b a p = rw (lt-leb _ _ p)

-- beside it
pub inside_beside : (b : Blit) (a : ℕ) → b.width ≤ column b a → inside b a ≡ false
unfolding inside
inside_beside b a p = rw (le-ltb _ _ p, and_false, and_false)

-- under it
pub inside_under : (b : Blit) (a : ℕ) → b.height ≤ row b a → inside b a ≡ false
unfolding inside
inside_under b a p = rw (le-ltb _ _ p, and_false)

same_at : (b : Blit) (old : List ℕ) (i i' j j' k k' : ℕ) → i ≡ i' → j ≡ j' → k ≡ k'
    → byte_of k (painted_pixel b old i j) ≡ byte_of k' (painted_pixel b old i' j')
same_at b old i i' j j' k k' p q r = rw (p, q, r)

-- the bytes of a pixel of the rectangle, and those outside it
pub painted_in : (b : Blit) (old : List ℕ) (a i j k : ℕ) → inside b a ≡ true → column b a ≡ i → row b a ≡ j → lane b a ≡ k
    → painted_byte b old a ≡ byte_of k (painted_pixel b old i j)
unfolding painted_byte
painted_in b old a i j k e ei ej ek =
    ap (λ (t : Bool). cond t (byte_of (lane b a) (painted_pixel b old (column b a) (row b a))) (get_or old a 0)) e
    ∙ same_at b old (column b a) i (row b a) j (lane b a) k ei ej ek

pub painted_out : (b : Blit) (old : List ℕ) (a : ℕ) → inside b a ≡ false → painted_byte b old a ≡ get_or old a 0
unfolding painted_byte
painted_out b old a e =
    ap (λ (t : Bool). cond t (byte_of (lane b a) (painted_pixel b old (column b a) (row b a))) (get_or old a 0)) e

-- an address r bytes into line j
module _ (b : Blit) (a j r : ℕ) (at : a ≡ b.destination + (j * b.line + r)) (part : r < b.line) where
  from_start : a - b.destination ≡ j * b.line + r
  from_start = omega arith

  pub row_at : row b a ≡ j
  row_at = rw from_start (digits_div j part)

  in_row : (a - b.destination) % b.line ≡ r
  in_row = rw from_start (digits_mod j part)

  pub column_at : (i k : ℕ) → r ≡ i * b.bytes + k → k < b.bytes → column b a ≡ i
  column_at i k e h = rw (in_row, e) (digits_div i h)

  pub lane_at : (i k : ℕ) → r ≡ i * b.bytes + k → k < b.bytes → lane b a ≡ k
  lane_at i k e h = rw (in_row, e) (digits_mod i h)

  pub column_past : 0 < b.bytes → b.width * b.bytes ≤ r → b.width ≤ column b a
  column_past h p = rw in_row ((le-div_iff_mul-le h).1 p)

module _ (b : Blit) (old : List ℕ) (f : Fits b old) where
  -- byte k of pixel i of line j
  pub painted_hit : (i j k : ℕ) → i < b.width → j < b.height → k < b.bytes
      → painted_byte b old (b.destination + offset b i j + k) ≡ byte_of k (painted_pixel b old i j)
  painted_hit i j k hi hj hk =
      let a : ℕ = b.destination + offset b i j + k in
      let r : ℕ = i * b.bytes + k in
      let part : r < b.line = omega (arith, step_fits b.bytes i b.width hi, f.in_line) in
      let at : a ≡ b.destination + (j * b.line + r) = omega arith in
      let er = row_at b a j r at part in
      let ec = column_at b a j r at part i k refl hk in
      painted_in b old a i j k (inside_yes b a (omega arith) (rw er hj) (rw ec hi)) ec er (lane_at b a j r at part i k refl hk)

  -- right of the rectangle in line j
  pub painted_gap : (j a : ℕ) → b.destination + (j * b.line + b.width * b.bytes) ≤ a → a < b.destination + (j * b.line + b.line)
      → painted_byte b old a ≡ get_or old a 0
  painted_gap j a p q =
      let r : ℕ = a - (b.destination + j * b.line) in
      painted_out b old a (inside_beside b a (column_past b a j r (omega arith) (omega arith) f.some_bytes (omega arith)))

  pub painted_before : (a : ℕ) → a < b.destination → painted_byte b old a ≡ get_or old a 0
  painted_before a p = painted_out b old a (inside_before b a p)

  -- past the rectangle's last line
  pub painted_after : (a : ℕ) → b.destination + b.height * b.line ≤ a → painted_byte b old a ≡ get_or old a 0
  painted_after a p =
      painted_out b old a
      (⊎_elim
      (λ w. inside_under b a
      ((le-div_iff_mul-le (omega (arith, step_fits b.bytes 0 b.width w, f.in_line, f.some_bytes))).1 (omega arith)))
      (λ w. inside_beside b a (omega arith))
      (below_or_not 0 b.width))

-- a byte outside the rectangle is kept
pub painted_keeps : (b : Blit) (old : List ℕ) (a : ℕ) → inside b a ≡ false → get_or (painted b old) a 0 ≡ get_or old a 0
painted_keeps b old a e =
    ⊎_elim
    (λ h. painted_at b old a h ∙ painted_out b old a e)
    (λ h. get_or-eq_default (painted b old) 0 (omega (arith, length_painted b old)) ∙ sym (get_or-eq_default old 0 h))
    (below_or_not a (length old))
