-- A command on the plain sheet is the pointwise account of its blit.
use mathlib.Core.Path.{◌≡◌, refl, sym, ap, ap₂, ◌∙◌}
use mathlib.Core.Bool.{Bool, true, false, cond, true≢false}
use mathlib.Core.List.{List}
use mathlib.Core.Logic.{◌⊎◌, inl, inr, ⊎_elim}
use Prim.Native.Nat.{ℕ, ◌+◌, ◌-◌, ◌*◌, ◌/◌, ◌%◌, ◌≤◌, ◌<◌}
use native.Mathlib.Omega.{arith}
use native.Mathlib.Nat.{div-one, mod-eq_of_lt}
use lib.Dec.{eqb}
use lib.ListN.{length, get_or}
use borrow.Author.Tests.{eq-eqb, ne_eqb, eqb-true, eqb-false}
use Rattle.record.proofs.Choice.{yes, no}
use Rattle.record.proofs.Lists.{tabulate_ext}
use Rattle.pixel.specs.Pixel.{get_pixel, byte_of}
use Rattle.pixel.specs.Raster.{raster}
use Rattle.pixel.proofs.Pixels.{get_one, get_two}
use Rattle.screen.specs.Image.{line_bytes}
use Rattle.screen.specs.declared.Image.{Image}
use Rattle.screen.specs.declared.Screen.{Screen}
use Rattle.view.specs.View.{pixel_at}
use Rattle.blit.specs.Blit.{Blit, Source, given, memory, positive, source_pixel}
use Rattle.blit.specs.Rectangle.{row, column, lane, inside, painted_pixel, painted_byte, painted}
use Rattle.blit.specs.Job.{mix_of, pattern_pixel}
use Rattle.blit.specs.declared.Mix.{Mix}
use Rattle.blit.specs.declared.Mix.TheVariants.{Store, Raster, Key}
use Rattle.blit.specs.Words.{word_pixel, host_pixel}
use Rattle.command.specs.Command.{surface_of, line_words}
use Rattle.command.specs.declared.Command.{Command}
use Rattle.command.proofs.Operation.{by_fill, by_move, by_write, by_pattern, by_keyed, by_transparent}
use Rattle.unit.specs.Sheet.{sheet_pixel, sheet_source, sheet_mix, new_pixel, changes, sheet_byte, sheet_command, host_pixel as sheet_host_pixel, pattern_image, pattern_pixel as sheet_pattern_pixel}
use Rattle.unit.proofs.Rectangles.{Frame, At, inside_own, inside_surface, same_inside, from_own, own_line, own_column, own_lane, surface_line, surface_column, surface_lane}

-- equal tests, and equal values where they hold
same_choice : {A : Type 0} (t u : Bool) (x x' y : A) → t ≡ u → (t ≡ true → x ≡ x') → cond t x y ≡ cond u x' y
same_choice true true x x' y e f = f refl
same_choice true false x x' y e f = absurd (true≢false e)
same_choice false true x x' y e f = absurd (true≢false (sym e))
same_choice false false x x' y e f = refl

-- the two pixel sizes
abbrev pub OneOrTwo : ℕ → Type 0
OneOrTwo B = (B ≡ 1) ⊎ (B ≡ 2)

-- a pixel of one or two bytes on the sheet
pub sheet_get : (d B : ℕ) → d ≡ 8 * B → OneOrTwo B → (i : Image) (m : List ℕ) (u v : ℕ)
    → sheet_pixel d i m (pixel_at u v) ≡ get_pixel B m (i.base + (v * i.line + u * B))
unfolding sheet_pixel
sheet_get d B h t i m u v =
    let a = i.base + v * i.line + u * d / 8 in
    ⊎_elim
    (λ e.
    let at : a ≡ i.base + (v * i.line + u * B) = omega (arith, ap (λ (k : ℕ). u * k) h, ap (λ (k : ℕ). u * k) e) in
    sym (no _ (ne_eqb d 16 (λ q. omega arith)) (yes _ (eq-eqb d 8 (omega arith)) (ap (λ (k : ℕ). get_pixel k m (i.base + (v * i.line + u * B))) e ∙ get_one m _ ∙ ap (λ (k : ℕ). get_or m k 0) (sym at)))))
    (λ e.
    let at : a ≡ i.base + (v * i.line + u * B) = omega (arith, ap (λ (k : ℕ). u * k) h, ap (λ (k : ℕ). u * k) e) in
    sym (yes _ (eq-eqb d 16 (omega arith)) (ap (λ (k : ℕ). get_pixel k m (i.base + (v * i.line + u * B))) e ∙ get_two m _ ∙ ap (λ (k : ℕ). get_or m k 0 + 256 * get_or m (k + 1) 0) (sym at))))
    t

-- the two bytes of a word
word_low : (w : ℕ) → word_pixel 1 w 0 ≡ w % 256
unfolding word_pixel
word_low w = get_one _ 0

word_high : (w : ℕ) → w < 65536 → word_pixel 1 w 1 ≡ w / 256
unfolding word_pixel
word_high w h = get_one _ 1 ∙ mod-eq_of_lt (omega arith)

word_whole : (w : ℕ) → w < 65536 → word_pixel 2 w 0 ≡ w
unfolding word_pixel
word_whole w h = get_two _ 0 ∙ omega arith

-- a host pixel of the chip's account is the sheet's
host_one : (width : ℕ) (words : List ℕ) → ((k : ℕ) → get_or words k 0 < 65536) → (i j : ℕ) → (t : Bool) → eqb (i % 2) 0 ≡ t
    → cond t (get_or words (j * ((width + 1) / 2) + i / 2) 0 % 256) (get_or words (j * ((width + 1) / 2) + i / 2) 0 / 256) ≡ host_pixel 1 width words i j
unfolding host_pixel
host_one width words few i j true q =
    let one : (width * 1 + 1) / 2 ≡ (width + 1) / 2 = omega arith in
    let w = get_or words (j * ((width + 1) / 2) + i / 2) 0 in
    sym (ap₂ (λ (l r : ℕ). word_pixel 1 (get_or words (j * l + i / 2) 0) r) one (eqb-true (i % 2) 0 q) ∙ word_low w)
host_one width words few i j false q =
    let one : (width * 1 + 1) / 2 ≡ (width + 1) / 2 = omega arith in
    let odd : i % 2 ≡ 1 = omega (arith, eqb-false (i % 2) 0 q) in
    let w = get_or words (j * ((width + 1) / 2) + i / 2) 0 in
    sym (ap₂ (λ (l r : ℕ). word_pixel 1 (get_or words (j * l + i / 2) 0) r) one odd ∙ word_high w (few _))

host_two : (width : ℕ) (words : List ℕ) → ((k : ℕ) → get_or words k 0 < 65536) → (i j : ℕ) → get_or words (j * width + i) 0 ≡ host_pixel 2 width words i j
unfolding host_pixel
host_two width words few i j =
    let two : (width * 2 + 1) / 2 ≡ width = omega arith in
    let none : i % 1 ≡ 0 = omega arith in
    sym ((λ t. word_pixel 2 (get_or words (j * two t + div-one i t) 0) (none t)) ∙ word_whole (get_or words (j * width + i) 0) (few _))

host_is : (d B : ℕ) → d ≡ 8 * B → OneOrTwo B → (width : ℕ) (words : List ℕ) → ((k : ℕ) → get_or words k 0 < 65536) → (i j : ℕ)
    → sheet_host_pixel d width words i j ≡ host_pixel B width words i j
unfolding sheet_host_pixel line_words
host_is d B h size width words few i j =
    ⊎_elim
    (λ e.
    let eight : d ≡ 8 = omega arith in
    rw eight (host_one width words few i j (eqb (i % 2) 0) refl ∙ ap (λ (k : ℕ). host_pixel k width words i j) (sym e)))
    (λ e.
    let sixteen : d ≡ 16 = omega arith in
    rw sixteen (host_two width words few i j ∙ ap (λ (k : ℕ). host_pixel k width words i j) (sym e)))
    size

-- the address of a rectangle's first pixel, B bytes to a pixel
abbrev pub corner : Screen → Command → ℕ → ℕ
corner s c B = (surface_of s c).base + (c.y * (surface_of s c).line + c.x * B)

-- a blit of a command's rectangle
abbrev pub over : Screen → Command → ℕ → (ℕ → ℕ → ℕ) → Source → Blit
over s c B f source =
    record {
      bytes = B;
      line = (surface_of s c).line;
      width = c.width;
      height = c.height;
      combine = f;
      source = source;
      destination = corner s c B;
    }

module _ (s : Screen) (c : Command) (words old : List ℕ) (B : ℕ) (deep : s.depth ≡ 8 * B) (size : OneOrTwo B) where
  abbrev on : Image
  on = surface_of s c

  some_bytes : 0 < B
  some_bytes = ⊎_elim (λ e. omega arith) (λ e. omega arith) size

  bytes_is : s.depth / 8 ≡ B
  bytes_is = omega arith

  abbrev frame : Frame
  frame = record { base = on.base; line = on.line; bytes = B; x = c.x; y = c.y; width = c.width; height = c.height }

  module _ (room : (c.x + c.width) * B ≤ on.line) (f : ℕ → ℕ → ℕ) (source : Source)
      (pixel : (i j : ℕ) → i < c.width → j < c.height → painted_pixel (over s c B f source) old i j ≡ new_pixel s c words old i j) where
    module _ (a : ℕ) where
      -- the new byte, counted from the rectangle and from the surface
      abbrev own : ℕ
      own = byte_of (lane (over s c B f source) a) (painted_pixel (over s c B f source) old (column (over s c B f source) a) (row (over s c B f source) a))

      abbrev surface : ℕ
      surface =
          byte_of ((a - on.base) % on.line % B)
          (new_pixel s c words old ((a - on.base) % on.line / B - c.x) ((a - on.base) / on.line - c.y))

      new_byte : At frame a → own ≡ surface
      new_byte p =
          let i-is : (a - on.base) % on.line / B - c.x ≡ p.i = omega (arith, surface_column frame a some_bytes room p) in
          let j-is : (a - on.base) / on.line - c.y ≡ p.j = omega (arith, surface_line frame a some_bytes room p) in
          (λ t. byte_of (own_lane frame a some_bytes room p t)
          (painted_pixel (over s c B f source) old (own_column frame a some_bytes room p t) (own_line frame a some_bytes room p t)))
          ∙ ap (byte_of p.k) (pixel p.i p.j p.column p.line)
          ∙ sym (λ t. byte_of (surface_lane frame a some_bytes room p t) (new_pixel s c words old (i-is t) (j-is t)))

      same_byte : painted_byte (over s c B f source) old a ≡ sheet_byte s c words old a
      unfolding painted_byte inside sheet_byte changes
      same_byte =
          rw bytes_is
          (same_choice (inside_own frame a) (inside_surface frame a) own surface (get_or old a 0) (same_inside frame a some_bytes room)
          (λ e. new_byte (from_own frame a some_bytes room e)))

    pub painted_is_sheet : painted (over s c B f source) old ≡ sheet_command s c words old
    unfolding painted sheet_command
    painted_is_sheet = tabulate_ext (length old) (painted_byte (over s c B f source) old) (sheet_byte s c words old) same_byte

  -- what the sheet holds at pixel (x + i, y + j), from the address of pixel (x, y)
  held : (x y i j : ℕ) → sheet_pixel s.depth on old (pixel_at (x + i) (y + j)) ≡ get_pixel B old (on.base + (y * on.line + x * B) + (j * on.line + i * B))
  held x y i j =
      let at : on.base + ((y + j) * on.line + (x + i) * B) ≡ on.base + (y * on.line + x * B) + (j * on.line + i * B) = omega arith in
      sheet_get s.depth B deep size on old (x + i) (y + j) ∙ ap (get_pixel B old) at

  -- a blit that takes the sheet's source pixels and combines as the sheet does
  pub drawn_as : (c.x + c.width) * B ≤ on.line → (mix : Mix) (source : Source)
      → ((x y : ℕ) → mix_of mix B x y ≡ sheet_mix s c x y)
      → ((i j : ℕ) → source_pixel B positive old source (j * on.line + i * B) i j ≡ sheet_source s c words old i j)
      → painted (over s c B (mix_of mix B) source) old ≡ sheet_command s c words old
  unfolding painted_pixel new_pixel
  drawn_as room mix source mixes takes = painted_is_sheet room (mix_of mix B) source pixel
    where
      pixel : (i j : ℕ) → i < c.width → j < c.height → painted_pixel (over s c B (mix_of mix B) source) old i j ≡ new_pixel s c words old i j
      pixel i j hi hj = mixes _ _ ∙ ap₂ (sheet_mix s c) (takes i j) (sym (held c.x c.y i j))

  -- ---- what source and destination make
  fill_mix : c.operation ≡ 0 → (x y : ℕ) → mix_of Store B x y ≡ sheet_mix s c x y
  unfolding sheet_mix
  fill_mix e x y = sym (by_fill c.operation _ _ _ _ _ _ e)

  -- under the raster code, where the operation's cell is that
  module _ (x y : ℕ) where
    coded : raster s.depth c.raster x y ≡ mix_of (Raster c.raster) B x y
    coded = ap (λ (k : ℕ). raster k c.raster x y) deep

    move_mix : c.operation ≡ 1 → mix_of (Raster c.raster) B x y ≡ sheet_mix s c x y
    unfolding sheet_mix
    move_mix e = sym (by_move c.operation _ _ _ _ _ _ e ∙ coded)

    write_mix : c.operation ≡ 2 → mix_of (Raster c.raster) B x y ≡ sheet_mix s c x y
    unfolding sheet_mix
    write_mix e = sym (by_write c.operation _ _ _ _ _ _ e ∙ coded)

    pattern_mix : c.operation ≡ 3 → mix_of (Raster c.raster) B x y ≡ sheet_mix s c x y
    unfolding sheet_mix
    pattern_mix e = sym (by_pattern c.operation _ _ _ _ _ _ e ∙ coded)

    -- unless the source is the key
    keyed_mix : c.operation ≡ 4 → mix_of (Key c.key) B x y ≡ sheet_mix s c x y
    unfolding sheet_mix
    keyed_mix e = sym (by_keyed c.operation _ _ _ _ _ _ e)

    transparent_mix : c.operation ≡ 5 → mix_of (Key c.key) B x y ≡ sheet_mix s c x y
    unfolding sheet_mix
    transparent_mix e = sym (by_transparent c.operation _ _ _ _ _ _ e)

  -- ---- the source pixels
  fill_source : c.operation ≡ 0 → (i j : ℕ) → c.colour ≡ sheet_source s c words old i j
  unfolding sheet_source
  fill_source e i j = sym (by_fill c.operation _ _ _ _ _ _ e)

  move_source : c.operation ≡ 1 → (i j : ℕ) → get_pixel B old (on.base + (c.sy * on.line + c.sx * B) + (j * on.line + i * B)) ≡ sheet_source s c words old i j
  unfolding sheet_source
  move_source e i j = sym (by_move c.operation _ _ _ _ _ _ e ∙ held c.sx c.sy i j)

  transparent_source : c.operation ≡ 5 → (i j : ℕ) → get_pixel B old (on.base + (c.sy * on.line + c.sx * B) + (j * on.line + i * B)) ≡ sheet_source s c words old i j
  unfolding sheet_source
  transparent_source e i j = sym (by_transparent c.operation _ _ _ _ _ _ e ∙ held c.sx c.sy i j)

  -- a pattern's pixel, from its address and from its image
  of_pattern : (i j : ℕ) → pattern_pixel B old c.pattern (c.px + i) (c.py + j) ≡ sheet_pattern_pixel s.depth c old i j
  unfolding pattern_pixel sheet_pattern_pixel
  of_pattern i j =
      let u = (c.px + i) % 8 in
      let v = (c.py + j) % 8 in
      let at : c.pattern + (v * 8 + u) * B ≡ c.pattern + (v * line_bytes s.depth 8 + u * B) =
      ⊎_elim
      (λ e. rw e (omega (arith, ap (λ (n : ℕ). v * (8 * n / 8)) deep, ap (λ (n : ℕ). v * (8 * (8 * n) / 8)) e)))
      (λ e. rw e (omega (arith, ap (λ (n : ℕ). v * (8 * n / 8)) deep, ap (λ (n : ℕ). v * (8 * (8 * n) / 8)) e)))
      size in
      ap (get_pixel B old) at ∙ sym (sheet_get s.depth B deep size (pattern_image s.depth c) old u v)

  pattern_source : (c.operation ≡ 3) ⊎ (c.operation ≡ 4) → (i j : ℕ) → pattern_pixel B old c.pattern (c.px + i) (c.py + j) ≡ sheet_source s c words old i j
  unfolding sheet_source
  pattern_source e i j =
      of_pattern i j ∙ ⊎_elim (λ z. sym (by_pattern c.operation _ _ _ _ _ _ z)) (λ z. sym (by_keyed c.operation _ _ _ _ _ _ z)) e

  write_source : c.operation ≡ 2 → ((k : ℕ) → get_or words k 0 < 65536) → (i j : ℕ) → host_pixel B c.width words i j ≡ sheet_source s c words old i j
  unfolding sheet_source
  write_source e few i j = sym (by_write c.operation _ _ _ _ _ _ e ∙ host_is s.depth B deep size c.width words few i j)

  -- ---- each operation
  module _ (room : (c.x + c.width) * B ≤ on.line) where
    -- a fill: the colour
    pub filled : c.operation ≡ 0 → painted (over s c B (mix_of Store B) (given (λ i j. c.colour))) old ≡ sheet_command s c words old
    filled e = drawn_as room Store (given (λ i j. c.colour)) (fill_mix e) (fill_source e)

    -- a move: source and destination pixel under the raster code
    pub moved : c.operation ≡ 1
        → painted (over s c B (mix_of (Raster c.raster) B) (memory (on.base + (c.sy * on.line + c.sx * B)))) old ≡ sheet_command s c words old
    moved e = drawn_as room (Raster c.raster) (memory (on.base + (c.sy * on.line + c.sx * B))) (λ x y. move_mix x y e) (move_source e)

    -- a pattern fill: the pattern's pixels, with the destination's under the raster code, or unless they are the key
    abbrev pub pattern : Source
    pattern = given (λ i j. pattern_pixel B old c.pattern (c.px + i) (c.py + j))

    pub hatched : c.operation ≡ 3 → painted (over s c B (mix_of (Raster c.raster) B) pattern) old ≡ sheet_command s c words old
    hatched e = drawn_as room (Raster c.raster) pattern (λ x y. pattern_mix x y e) (pattern_source (inl e))

    pub keyed : c.operation ≡ 4 → painted (over s c B (mix_of (Key c.key) B) pattern) old ≡ sheet_command s c words old
    keyed e = drawn_as room (Key c.key) pattern (λ x y. keyed_mix x y e) (pattern_source (inr e))

    -- a transparent move: a move's source, unless it is the key
    pub seen : c.operation ≡ 5
        → painted (over s c B (mix_of (Key c.key) B) (memory (on.base + (c.sy * on.line + c.sx * B)))) old ≡ sheet_command s c words old
    seen e = drawn_as room (Key c.key) (memory (on.base + (c.sy * on.line + c.sx * B))) (λ x y. transparent_mix x y e) (transparent_source e)

    -- a write: the host words' pixels and the destination's under the raster code
    pub written : c.operation ≡ 2 → ((k : ℕ) → get_or words k 0 < 65536)
        → painted (over s c B (mix_of (Raster c.raster) B) (given (host_pixel B c.width words))) old ≡ sheet_command s c words old
    written e few = drawn_as room (Raster c.raster) (given (host_pixel B c.width words)) (λ x y. write_mix x y e) (write_source e few)
