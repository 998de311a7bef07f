-- What drawing leaves alone: on the sheet, and in the memory that a played list leaves.
use Prim.Native.Nat.{ℕ, ◌+◌, ◌-◌, ◌*◌, ◌/◌, ◌%◌, ◌≤◌, ◌<◌}
use mathlib.Core.Path.{◌≡◌, refl, sym, ap, ◌∙◌}
use mathlib.Core.Bool.{Bool, true, false, not, ◌&&◌, true≢false}
use mathlib.Core.List.{List, [], ◌∷◌}
use mathlib.Core.Logic.{⊎_elim}
use native.Mathlib.Omega.{arith}
use native.Mathlib.Nat.{mul-le-mul_right, div-le_self}
use lib.ListN.{length, take, drop}
use lib.Dec.{leb, ltb}
use borrow.Author.Tests.{eq-eqb, leb-true, lt-ltb, le-leb, le-ltb}
use Rattle.record.specs.Bytes.{byte_at}
use Rattle.record.specs.Lists.{AllBelow}
use Rattle.record.specs.Checks.{first_of}
use Rattle.record.proofs.Choice.{and_left, and_right, below_or_not}
use Rattle.record.proofs.Lists.{length_tabulate, get_d_tabulate, nothing_past, length_parts}
use Rattle.screen.specs.Image.{line_bytes}
use Rattle.screen.specs.Screen.{memory_size, fields_of, field_rows}
use Rattle.screen.specs.declared.Image.{Image}
use Rattle.screen.specs.declared.Screen.{Screen}
use Rattle.screen.proofs.Read.{read_accepted, accepts}
use Rattle.command.specs.Command.{command_of, surface_of, words_taken}
use Rattle.command.specs.declared.Command.{Command}
use Rattle.command.specs.Task.{Task, screen_in, commands_in, task_refusal}
use Rattle.command.proofs.Fine.{Fine, fine}
use Rattle.command.proofs.Commands.{AllFine}
use Rattle.compiler.specs.Compile.{compiling}
use Rattle.compiler.proofs.Accepted.{compiled_says}
use Rattle.chip.specs.Play.{played}
use Rattle.unit.specs.Sheet.{changes, sheet_byte, sheet_command, sheet_commands, sheet_after}
use Rattle.unit.specs.Demands.{InBytes, stream_given}
use Rattle.unit.specs.Kept.{is_shown, in_gap, Fit, outside, Kept}
use Rattle.unit.proofs.Rectangles.{Frame, At, both, from_surface, surface_line, surface_rest}
use Rattle.unit.proofs.Drawable.{Surface, surface_ok, bytes}
use Rattle.unit.proofs.Demands.{demand_3}

-- ---- a command on the sheet
module _ (m : ℕ) (s : Screen) (e : first_of (field_rows m s) ≡ 0) (flag : s.flag ≤ 1) (deep : 8 ≤ s.depth) (left : ℕ) (c : Command) (f : Fine m s left c) where
  abbrev on : Image
  on = surface_of s c

  abbrev B : ℕ
  B = s.depth / 8

  o : Surface m B on
  o = surface_ok m s e flag deep c f.surface

  abbrev frame : Frame
  frame = record { base = on.base; line = on.line; bytes = B; x = c.x; y = c.y; width = c.width; height = c.height }

  room : (c.x + c.width) * B ≤ on.line
  room = omega (arith, mul-le-mul_right B f.destination.right, o.shown)

  row : line_bytes s.depth on.width ≡ on.width * B
  row = omega (arith, ap (λ (n : ℕ). on.width * n) (bytes m s e flag deep))

  -- a byte of the rectangle is a shown one
  at_shown : (a : ℕ) → At frame a → is_shown s.depth on a ≡ true
  unfolding is_shown
  at_shown a p =
      let some : 0 < B = omega arith in
      let next : c.x + p.i + 1 ≤ on.width = omega (arith, p.column, f.destination.right) in
      let ends : (c.x + p.i) * B + p.k < on.width * B = omega (arith, p.lane, mul-le-mul_right B next) in
      both (leb on.base a) _ _ (le-leb on.base a (omega (arith, p.is)))
      (lt-ltb ((a - on.base) / on.line) on.height (omega (arith, surface_line frame a some room p, p.line, f.destination.bottom)))
      (lt-ltb ((a - on.base) % on.line) (line_bytes s.depth on.width) (omega (arith, surface_rest frame a some room p, ends, row)))

  changes_shown : (a : ℕ) → changes s c a ≡ true → is_shown s.depth on a ≡ true
  unfolding changes
  changes_shown a h = at_shown a (from_surface frame a (omega arith) room h)

  not_changed : (a : ℕ) → is_shown s.depth on a ≡ false → changes s c a ≡ false
  not_changed a h = chosen (changes s c a) (changes_shown a)
    where
      chosen : (t : Bool) → (t ≡ true → is_shown s.depth on a ≡ true) → t ≡ false
      chosen true g = absurd (true≢false (sym (g refl) ∙ h))
      chosen false g = refl

  -- all other bytes stay
  pub command_keeps : (words old : List ℕ) (a : ℕ) → is_shown s.depth on a ≡ false → byte_at (sheet_command s c words old) a ≡ byte_at old a
  unfolding sheet_command sheet_byte
  command_keeps words old a h =
      ⊎_elim
      (λ p. get_d_tabulate (length old) (sheet_byte s c words old) a p ∙ rw (not_changed a h) refl)
      (λ p. nothing_past (sheet_command s c words old) a (rw (length_tabulate (length old) (sheet_byte s c words old)) p) ∙ sym (nothing_past old a p))
      (below_or_not a (length old))

-- a byte between shown width and line length is no shown one
apart : (n m : ℕ) → leb m n ≡ true → ltb n m ≡ false
apart n m h = le-ltb n m (leb-true m n h)

not_shown : (a b c d : Bool) → (c ≡ true → d ≡ false) → (a && (b && c)) ≡ true → (a && (b && d)) ≡ false
not_shown a b c d f h = rw (and_left a _ h, and_left b _ (and_right a _ h)) (f (and_right b _ (and_right a _ h)))

gap_not_shown : (depth : ℕ) (i : Image) (a : ℕ) → in_gap depth i a ≡ true → is_shown depth i a ≡ false
unfolding in_gap is_shown
gap_not_shown depth i a =
    not_shown (leb i.base a) (ltb ((a - i.base) / i.line) i.height) (leb (line_bytes depth i.width) ((a - i.base) % i.line)) (ltb ((a - i.base) % i.line) (line_bytes depth i.width))
    (apart ((a - i.base) % i.line) (line_bytes depth i.width))

module _ (screen : List ℕ) (left : ℕ) (b words sheet : List ℕ) (a : ℕ) (f : Fit screen left b) where
  fit_keeps : let s = fields_of screen in is_shown s.depth (surface_of s (command_of b)) a ≡ false → byte_at (sheet_command s (command_of b) words sheet) a ≡ byte_at sheet a
  fit_keeps h =
      let r = read_accepted memory_size screen (fields_of screen) (sym (accepts memory_size screen f.accepted)) in
      command_keeps memory_size (fields_of screen) r.2 r.3 f.deep left (command_of b) (fine memory_size (fields_of screen) left b f.not_refused) words sheet a h

  gap_keeps : let s = fields_of screen in in_gap s.depth (surface_of s (command_of b)) a ≡ true → byte_at (sheet_command s (command_of b) words sheet) a ≡ byte_at sheet a
  gap_keeps h = fit_keeps (gap_not_shown (fields_of screen).depth (surface_of (fields_of screen) (command_of b)) a h)

-- ---- a list
list_keeps : (m : ℕ) (s : Screen) → first_of (field_rows m s) ≡ 0 → s.flag ≤ 1 → (commands : List (List ℕ)) → (0 < length commands → 8 ≤ s.depth)
    → (left : ℕ) → AllFine m s left commands → (words old : List ℕ) (a : ℕ) → outside s commands a ≡ true
    → byte_at (sheet_commands s commands words old) a ≡ byte_at old a
unfolding AllFine sheet_commands outside
list_keeps m s e flag [] deep left fines words old a h = refl
list_keeps m s e flag (b ∷ bs) deep left fines words old a h =
    let n = words_taken s (command_of b) in
    let d : 8 ≤ s.depth = deep (omega arith) in
    list_keeps m s e flag bs (λ q. d) (left - n) fines.1 (drop n words) (sheet_command s (command_of b) (take n words) old) a
    (and_right (not (is_shown s.depth (surface_of s (command_of b)) a)) _ h)
    ∙ command_keeps m s e flag d left (command_of b) fines.0 (take n words) old a (not-true _ (and_left _ _ h))
  where
    not-true : (t : Bool) → not t ≡ true → t ≡ false
    not-true true q = sym q
    not-true false q = refl

played_keeps : (t : Task) (buffer memory : List ℕ) (a : ℕ) → InBytes t → AllBelow 256 memory
    → length memory ≡ memory_size → (compiling memory_size t (length buffer)).number ≡ 0
    → outside (screen_in t) (commands_in t) a ≡ true
    → byte_at (played memory_size (stream_given t buffer) memory) a ≡ byte_at memory a
unfolding sheet_after
played_keeps t buffer memory a below byte-memory len e h =
    let c = (compiled_says memory_size t (length buffer) e).task in
    ap (λ (x : List ℕ). byte_at x a) (demand_3 t buffer memory below byte-memory len e).same_bytes
    ∙ rw (eq-eqb (task_refusal memory_size t).number 0 c.number)
    (list_keeps memory_size (screen_in t) c.fields c.flag (commands_in t) (λ q. c.deep (some_bytes t q)) (length t.words) c.fine t.words memory a h)
  where
    some_bytes : (t : Task) → 0 < length (commands_in t) → 0 < length t.list
    some_bytes t q = omega (arith, q, length_parts t.form t.list, div-le_self (length t.list) t.form)

pub kept : Kept
kept = record { command = fit_keeps; gap = gap_keeps; list = played_keeps }
