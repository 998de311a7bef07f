-- A line that is filled cell by cell.
use Prim.Native.Nat.{ℕ, suc, ◌+◌, ◌-◌, ◌*◌, ◌/◌, ◌%◌, ◌≤◌, ◌<◌}
use mathlib.Core.Path.{◌≡◌, refl, sym, ap, subst, ◌∙◌}
use mathlib.Core.List.{List}
use mathlib.Core.Bool.{Bool, true}
use native.Mathlib.Nat.{div-add-mod', le-div_iff_mul-le, mul-le-mul_right, suc-mul}
use native.Mathlib.Omega.{arith}
use lib.Arith.{digits_div, digits_mod}
use lib.ListN.{length, get_or, take, drop, length-take, length-drop}
use lib.Seq.{sets}
use borrow.Author.Tests.{eqb-true, ne_eqb}
use borrow.Rule.Slice.PartMut.{put_mid}
use Rattle.record.specs.Lists.{tabulate}
use Rattle.record.proofs.Filled.{Filled, fill_part}
use Rattle.record.proofs.Lists.{get_d_tabulate, length_tabulate}
use Rattle.record.proofs.Stores.{part_put}
use Rattle.pixel.specs.Depth.{is_depth}
use Rattle.reader.specs.Along.{cell_pixels, cell_at, cell_colour, cells_colour, Celled}

-- cell i of a list of cells of p is one of the list's
pub cell_in : (p i n : ℕ) → 0 < p → i < n / p → i * p + p ≤ n
cell_in p i n some h =
    let more : suc i * p ≤ n = (le-div_iff_mul-le some).0 h in
    omega (arith, suc-mul i p)

-- all of them are the whole list
pub cells_all : (p i n : ℕ) → n % p ≡ 0 → n / p ≤ i → n ≤ i * p
cells_all p i n whole h = omega (arith, div-add-mod' n p, mul-le-mul_right p h)

pub part_length : (l : List ℕ) (a b : ℕ) → a ≤ b → b ≤ length l → length (take (b - a) (drop a l)) ≡ b - a
part_length l a b h g = simp (length-take, length-drop) (omega arith)

module _ (d : ℕ) (memory : List ℕ) (back : Bool) (at p i : ℕ) (is : p ≡ cell_pixels d) where
  -- the t-th colour of cell i
  colour_in : (t : ℕ) → t < p → cell_colour d memory back (cell_at d back at i) t ≡ cells_colour d memory back at (i * p + t)
  colour_in t h =
      let cells : (i * p + t) / p ≡ i = digits_div i h in
      let pixels : (i * p + t) % p ≡ t = digits_mod i h in
      rw (← is) (rw (cells, pixels) refl)

  -- the cell's colours are stored behind those before it
  pub cell_more : (old l new : List ℕ) (a : ℕ) → a ≡ cell_at d back at i → i * p + p ≤ length old → Filled (cells_colour d memory back at) old l (i * p)
      → new ≡ tabulate p (cell_colour d memory back a) → Filled (cells_colour d memory back at) old (put_mid (i * p) (i * p + p - i * p) l new) ((i + 1) * p)
  cell_more old l new a e room g h =
      let size : length new ≡ p = ap (λ (x : List ℕ). length x) h ∙ length_tabulate p _ in
      let stored = part_put l (i * p) (i * p + p) new (omega arith) (omega (arith, g.same)) (size ∙ omega arith) in
      let next : i * p + length new ≡ (i + 1) * p = ap (λ (n : ℕ). i * p + n) size ∙ omega arith in
      let more = fill_part (cells_colour d memory back at) old new l (i * p) (omega (arith, size)) g colours in
      subst (λ (x : List ℕ). Filled (cells_colour d memory back at) old x ((i + 1) * p)) (sym stored) (subst (Filled (cells_colour d memory back at) old (sets l (i * p) new)) next more)
    where
      colours : (t : ℕ) → t < length new → get_or new t 0 ≡ cells_colour d memory back at (i * p + t)
      colours t b =
          let size : length new ≡ p = ap (λ (x : List ℕ). length x) h ∙ length_tabulate p _ in
          ap (λ (x : List ℕ). get_or x t 0) h
          ∙ get_d_tabulate p (cell_colour d memory back a) t (omega (arith, size))
          ∙ ap (λ (x : ℕ). cell_colour d memory back x t) e
          ∙ colour_in t (omega (arith, size))

-- ---- a depth by its number
pub same_depth : (d e m : ℕ) (back : Bool) (at n : ℕ) → d ≡ e → Celled d m back at n → Celled e m back at n
same_depth d e m back at n same c = subst (λ (x : ℕ). Celled x m back at n) same c

pub same_line : (d e : ℕ) (memory : List ℕ) (back : Bool) (at n : ℕ) (l : List ℕ) → d ≡ e → l ≡ tabulate n (cells_colour e memory back at) → l ≡ tabulate n (cells_colour d memory back at)
same_line d e memory back at n l same h = h ∙ ap (λ (x : ℕ). tabulate n (cells_colour x memory back at)) (sym same)

-- one that is none of the first four
pub sixteen : (d : ℕ) → is_depth d ≡ true → (d ≡ 1 → ⊥) → (d ≡ 2 → ⊥) → (d ≡ 4 → ⊥) → (d ≡ 8 → ⊥) → d ≡ 16
unfolding is_depth
sixteen d h a b c e = eqb-true d 16 (rw (ne_eqb d 1 a, ne_eqb d 2 b, ne_eqb d 4 c, ne_eqb d 8 e) at h)
