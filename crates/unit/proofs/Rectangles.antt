-- One rectangle, counted from its own first pixel and from its surface's: an address is in the one exactly when it is in the other.
use mathlib.Core.Path.{◌≡◌, refl, sym, ap, ◌∙◌}
use mathlib.Core.Bool.{Bool, true, false, ◌&&◌}
use Prim.Native.Nat.{ℕ, ◌+◌, ◌-◌, ◌*◌, ◌/◌, ◌%◌, ◌≤◌, ◌<◌}
use native.Mathlib.Omega.{arith}
use native.Mathlib.Nat.{add-zero, suc-mul, mul-le-mul_right, mod-lt, div-add-mod', mul-add-div_right, mul-add-mod_self_right, div-eq_of_lt, mod-eq_of_lt}
use lib.Dec.{leb, ltb}
use borrow.Author.Tests.{leb-true, ltb-true, le-leb, lt-ltb}
use Rattle.record.proofs.Choice.{and_left, and_right}
use Rattle.view.specs.View.{among}

-- q whole units and r more
pub whole_units : (u q r n : ℕ) → r < u → n ≡ q * u + r → n / u ≡ q
whole_units u q r n h e =
    let pos : 0 < u = omega arith in
    ap (λ (k : ℕ). k / u) e ∙ mul-add-div_right pos q r ∙ ap (λ (k : ℕ). q + k) (div-eq_of_lt h) ∙ add-zero q

pub rest_units : (u q r n : ℕ) → r < u → n ≡ q * u + r → n % u ≡ r
rest_units u q r n h e = ap (λ (k : ℕ). k % u) e ∙ mul-add-mod_self_right q u r ∙ mod-eq_of_lt h

pub both : (a b c : Bool) → a ≡ true → b ≡ true → c ≡ true → (a && (b && c)) ≡ true
both a b c p q r = rw (p, q, r)

-- two tests that each imply the other
pub same_test : (a b : Bool) → (a ≡ true → b ≡ true) → (b ≡ true → a ≡ true) → a ≡ b
same_test true b f g = sym (f refl)
same_test false true f g = g refl
same_test false false f g = refl

-- a surface's base, line length and bytes of a pixel; a rectangle of width by height pixels at (x, y) in it
pub record Frame : Type 0 where
  pub base : ℕ
  pub line : ℕ
  pub bytes : ℕ
  pub x : ℕ
  pub y : ℕ
  pub width : ℕ
  pub height : ℕ

-- the address of the rectangle's first pixel
abbrev pub first : Frame → ℕ
first g = g.base + (g.y * g.line + g.x * g.bytes)

-- byte k of pixel (i, j) of the rectangle stands at address a
pub record At (g : Frame) (a : ℕ) : Type 0 where
  pub i : ℕ
  pub j : ℕ
  pub k : ℕ
  pub column : i < g.width
  pub line : j < g.height
  pub lane : k < g.bytes
  pub is : a ≡ g.base + ((g.y + j) * g.line + ((g.x + i) * g.bytes + k))

-- the tests, and line, column and lane of an address, counted from the rectangle's first pixel
abbrev pub inside_own : Frame → ℕ → Bool
inside_own g a = leb (first g) a && (ltb ((a - first g) / g.line) g.height && ltb ((a - first g) % g.line / g.bytes) g.width)

-- and from the surface's
abbrev pub inside_surface : Frame → ℕ → Bool
inside_surface g a =
    leb g.base a && (among g.x g.width ((a - g.base) % g.line / g.bytes) && among g.y g.height ((a - g.base) / g.line))

module _ (g : Frame) (a : ℕ) (some : 0 < g.bytes) (room : (g.x + g.width) * g.bytes ≤ g.line) where
  module _ (p : At g a) where
    -- the pixel ends within the rectangle's part of the line
    ends : p.i * g.bytes + p.k < g.width * g.bytes
    ends = omega (arith, p.lane, suc-mul p.i g.bytes, mul-le-mul_right g.bytes p.column)

    within : (g.x + p.i) * g.bytes + p.k < g.line
    within = omega (arith, ends, room)

    own : a - first g ≡ p.j * g.line + (p.i * g.bytes + p.k)
    own = omega (arith, p.is)

    own_small : p.i * g.bytes + p.k < g.line
    own_small = omega (arith, within)

    pub own_line : (a - first g) / g.line ≡ p.j
    own_line = whole_units g.line p.j (p.i * g.bytes + p.k) (a - first g) own_small own

    own_rest : (a - first g) % g.line ≡ p.i * g.bytes + p.k
    own_rest = rest_units g.line p.j (p.i * g.bytes + p.k) (a - first g) own_small own

    pub own_column : (a - first g) % g.line / g.bytes ≡ p.i
    own_column = whole_units g.bytes p.i p.k ((a - first g) % g.line) p.lane own_rest

    pub own_lane : (a - first g) % g.line % g.bytes ≡ p.k
    own_lane = rest_units g.bytes p.i p.k ((a - first g) % g.line) p.lane own_rest

    surface : a - g.base ≡ (g.y + p.j) * g.line + ((g.x + p.i) * g.bytes + p.k)
    surface = omega (arith, p.is)

    pub surface_line : (a - g.base) / g.line ≡ g.y + p.j
    surface_line = whole_units g.line (g.y + p.j) ((g.x + p.i) * g.bytes + p.k) (a - g.base) within surface

    pub surface_rest : (a - g.base) % g.line ≡ (g.x + p.i) * g.bytes + p.k
    surface_rest = rest_units g.line (g.y + p.j) ((g.x + p.i) * g.bytes + p.k) (a - g.base) within surface

    pub surface_column : (a - g.base) % g.line / g.bytes ≡ g.x + p.i
    surface_column = whole_units g.bytes (g.x + p.i) p.k ((a - g.base) % g.line) p.lane surface_rest

    pub surface_lane : (a - g.base) % g.line % g.bytes ≡ p.k
    surface_lane = rest_units g.bytes (g.x + p.i) p.k ((a - g.base) % g.line) p.lane surface_rest

    pub own_inside : inside_own g a ≡ true
    own_inside =
        both _ _ _ (le-leb (first g) a (omega (arith, p.is)))
        (lt-ltb ((a - first g) / g.line) g.height (omega (arith, own_line, p.line)))
        (lt-ltb ((a - first g) % g.line / g.bytes) g.width (omega (arith, own_column, p.column)))

    pub surface_inside : inside_surface g a ≡ true
    surface_inside =
        let u = (a - g.base) % g.line / g.bytes in
        let v = (a - g.base) / g.line in
        both (leb g.base a) (among g.x g.width u) (among g.y g.height v) (le-leb g.base a (omega (arith, p.is)))
        (rw (le-leb g.x u (omega (arith, surface_column)), lt-ltb u (g.x + g.width) (omega (arith, surface_column, p.column))) refl)
        (rw (le-leb g.y v (omega (arith, surface_line)), lt-ltb v (g.y + g.height) (omega (arith, surface_line, p.line))) refl)

  -- from the tests back to the pixel
  pub from_own : inside_own g a ≡ true → At g a
  from_own e =
      let o = a - first g in
      let rest = and_right (leb (first g) a) _ e in
      let f = leb-true (first g) a (and_left (leb (first g) a) _ e) in
      record {
        i = o % g.line / g.bytes;
        j = o / g.line;
        k = o % g.line % g.bytes;
        column = ltb-true (o % g.line / g.bytes) g.width (and_right (ltb (o / g.line) g.height) _ rest);
        line = ltb-true (o / g.line) g.height (and_left (ltb (o / g.line) g.height) _ rest);
        lane = mod-lt (o % g.line) some;
        is = omega (arith, f, div-add-mod' o g.line, div-add-mod' (o % g.line) g.bytes);
      }

  pub from_surface : inside_surface g a ≡ true → At g a
  from_surface e =
      let o = a - g.base in
      let u = o % g.line / g.bytes in
      let v = o / g.line in
      let rest = and_right (leb g.base a) _ e in
      let f = leb-true g.base a (and_left (leb g.base a) _ e) in
      let across = and_left (among g.x g.width u) _ rest in
      let down = and_right (among g.x g.width u) _ rest in
      let u0 = leb-true g.x u (and_left (leb g.x u) _ across) in
      let u1 = ltb-true u (g.x + g.width) (and_right (leb g.x u) _ across) in
      let v0 = leb-true g.y v (and_left (leb g.y v) _ down) in
      let v1 = ltb-true v (g.y + g.height) (and_right (leb g.y v) _ down) in
      let cu : g.x + (u - g.x) ≡ u = omega arith in
      let cv : g.y + (v - g.y) ≡ v = omega arith in
      record {
        i = u - g.x;
        j = v - g.y;
        k = o % g.line % g.bytes;
        column = omega arith;
        line = omega arith;
        lane = mod-lt (o % g.line) some;
        is = rw (cu, cv) (omega (arith, f, div-add-mod' o g.line, div-add-mod' (o % g.line) g.bytes));
      }

  pub same_inside : inside_own g a ≡ inside_surface g a
  same_inside = same_test (inside_own g a) (inside_surface g a) (λ e. surface_inside (from_own e)) (λ e. own_inside (from_surface e))
