-- The strip's task: it is accepted and compiles, and what a panel point that shows main then shows is a pixel of the sheet after the strip's
-- commands.
use Prim.Native.Nat.{ℕ, ◌+◌, ◌*◌, ◌%◌, ◌≤◌, ◌<◌}
use mathlib.Core.Path.{◌≡◌, refl, sym, ap, subst, ◌∙◌}
use mathlib.Core.Bool.{Bool, true, false, not, ◌&&◌, cond}
use mathlib.Core.List.{List, [], ◌∷◌, map}
use mathlib.Core.Logic.{⊎_elim}
use native.Mathlib.Omega.{arith}
use lib.ListN.{length, get_or, length-append}
use lib.Dec.{eqb, leb, ltb}
use borrow.Author.Tests.{eq-eqb, le-leb, le-ltb}
use Rattle.record.specs.Lists.{AllBelow}
use Rattle.record.specs.Checks.{Refusal, first_of}
use Rattle.record.proofs.Checks.{row_passes, rows_end}
use Rattle.record.proofs.Stores.{length_stream}
use Rattle.screen.specs.Screen.{memory_size, fields_of, screen_rows, main_image}
use Rattle.screen.specs.declared.Screen.{Screen}
use Rattle.view.specs.View.{Pixel, pixel_at}
use Rattle.view.proofs.Demand.{view_in}
use Rattle.reader.specs.Read.{Reading}
use Rattle.command.specs.Command.{command_bytes}
use Rattle.command.specs.Task.{Task, screen_in, commands_in, list_rows, first_refusal, all_words, task_refusal}
use Rattle.command.specs.declared.Command.{Command}
use Rattle.command.proofs.Task.{words_fit, by_end}
use Rattle.compiler.specs.Stream.{records_in}
use Rattle.compiler.specs.Compile.{room_rows, refusal_of, compiling, stream_of}
use Rattle.compiler.proofs.Answered.{answered_number}
use Rattle.compiler.proofs.Outcome.{by_room}
use Rattle.unit.specs.Sheet.{sheet_pixel, sheet_commands, sheet_after, sheet_shows}
use Rattle.unit.specs.Point.{sheet_point}
use Rattle.unit.specs.Demands.{InBytes}
use Rattle.unit.proofs.Demands.{demand_3}
use Rattle.wear.specs.Strip.{Strip, columns, writes, strip_commands, strip_list, strip_words, column_height, glyph_size}
use Rattle.wear.specs.declared.Ask.{Ask}
use Rattle.wear.proofs.Lists.{length_list, list_parts, columns_count, writes_count}
use Rattle.trend.specs.Trend.{Colours, task_with, ShowsMain, colour_after}
use Rattle.trend.proofs.Drawn.{EachOk, ok_append, taken, drawn, taken_append, none_refused, all_taken, sheet_drawn, list_below}
use Rattle.trend.proofs.Checked.{Known}
use Rattle.trend.proofs.Strips.{columns_ok, writes_ok, columns_take, writes_take, count_low}
use Rattle.trend.proofs.Numbers.{digits_below}

-- a strip whose heights are one for each hour, none above 100, and whose digits are at most five
pub record Shaped (t : Strip) : Type 0 where
  pub count : length t.heights ≡ t.ask.hours
  pub low : (c : ℕ) → get_or t.heights c 0 ≤ 100
  pub few : length t.digits ≤ 5

module _ (screen : List ℕ) (t : Strip) (accepts : first_of (screen_rows memory_size screen) ≡ 0) (k : Known screen t) (colours : Colours t.ask) (shaped : Shaped t) where
  abbrev s : Screen
  s = fields_of screen

  abbrev a : Ask
  a = t.ask

  abbrev cs : List Command
  cs = strip_commands t

  abbrev job : Task
  job = task_with screen t

  -- ---- each command by itself
  bar_low : s.depth ≡ 8 → a.bar ≤ 255
  bar_low e = k.ask.bar (sym k.same ∙ e)

  background_low : s.depth ≡ 8 → a.background ≤ 255
  background_low e = k.ask.background (sym k.same ∙ e)

  number_ok : (ds : List ℕ) → (0 < length ds → a.x + length ds * glyph_size ≤ (main_image s).width) → (0 < length ds → a.y + column_height + glyph_size ≤ (main_image s).height) → EachOk s (writes a 0 ds)
  unfolding writes EachOk
  number_ok [] right bottom = tt
  number_ok (d ∷ ds) right bottom =
      writes_ok s k.surface.narrow k.surface.low a k.ask.wide colours.bar colours.background bar_low background_low (length (d ∷ ds))
      (right (omega arith)) (bottom (omega arith)) 0 (d ∷ ds) (omega arith)

  all_ok : EachOk s cs
  unfolding strip_commands
  all_ok =
      ok_append s (columns a 0 t.heights) (writes a 0 t.digits)
      (columns_ok s k.surface.narrow k.surface.low a k.ask.wide colours.bar colours.background bar_low background_low
      k.held.right k.held.bottom 0 t.heights (omega (arith, shaped.count)) shaped.low)
      (number_ok t.digits k.held.number_right k.held.number_bottom)

  -- ---- the list as a whole
  count_is : length cs ≤ 53
  unfolding strip_commands
  count_is =
      omega (arith, length-append (columns a 0 t.heights) (writes a 0 t.digits), columns_count a 0 t.heights, count_low t.heights, writes_count a 0 t.digits, shaped.count, shaped.few, k.ask.hours)

  takes_all : taken s cs ≡ length (strip_words t)
  unfolding strip_commands
  takes_all =
      taken_append s (columns a 0 t.heights) (writes a 0 t.digits)
      ∙ omega (arith, columns_take s a 0 t.heights, writes_take s a k.same t.site t.factory 0 t.digits)

  list_passes : first_of (list_rows 32 s (strip_list t)) ≡ 0
  unfolding list_rows
  list_passes =
      let n = length_list cs in
      let whole : eqb (length (strip_list t) % 32) 0 ≡ true = eq-eqb (length (strip_list t) % 32) 0 (omega arith) in
      let few : leb (length (strip_list t)) (64 * 32) ≡ true = le-leb (length (strip_list t)) (64 * 32) (omega (arith, count_is)) in
      let deep : ltb s.depth 8 ≡ false = le-ltb s.depth 8 (⊎_elim (λ e. omega (arith, k.deep)) (λ e. omega (arith, k.deep)) k.size) in
      sym (row_passes 10 _ (ap not (λ i. whole i && few i)) (row_passes 11 _ (ap (λ (b : Bool). ltb 0 (length (strip_list t)) && b) deep ∙ none (ltb 0 (length (strip_list t)))) rows_end))
    where
      none : (b : Bool) → (b && false) ≡ false
      none true = refl
      none false = refl

  commands_are : commands_in job ≡ map command_bytes cs
  commands_are = list_parts cs

  pub accepted : (task_refusal memory_size job).number ≡ 0
  accepted =
      let first : (first_refusal memory_size s 0 (length (strip_words t)) (commands_in job)).number ≡ 0 =
      ap (λ (bs : List (List ℕ)). (first_refusal memory_size s 0 (length (strip_words t)) bs).number) commands_are ∙ none_refused s memory_size cs all_ok 0 (length (strip_words t)) (omega (arith, takes_all)) in
      ap (λ (r : Refusal). r.number) (by_end memory_size job accepts list_passes first)
      ∙ sym (words_fit job (omega (arith, all_taken s cs all_ok, takes_all, ap (λ (bs : List (List ℕ)). all_words s bs) commands_are)))

  -- ---- it compiles where the stream has room
  pub compiles : (room : ℕ) → length (stream_of job) ≤ room → (compiling memory_size job room).number ≡ 0
  unfolding compiling stream_of room_rows
  compiles room h =
      answered_number (refusal_of memory_size job room) (screen_in job) (8 * length (records_in job))
      ∙ ap (λ (r : Refusal). r.number) (by_room memory_size job room accepted)
      ∙ sym (row_passes 17 _ (le-ltb room (8 * length (records_in job)) (omega (arith, h, length_stream (records_in job)))) rows_end)

  -- ---- the sheet
  sheet_is : (memory : List ℕ) → sheet_after memory_size job memory ≡ drawn s cs (strip_words t) memory
  unfolding sheet_after
  sheet_is memory =
      (λ i. cond (eq-eqb (task_refusal memory_size job).number 0 accepted i) (sheet_commands s (commands_are i) (strip_words t) memory) memory)
      ∙ sheet_drawn s cs all_ok (strip_words t) memory

  in_bytes : AllBelow 256 screen → InBytes job
  in_bytes bytes =
      record {
        screen = bytes;
        list = list_below s cs all_ok;
        words = digits_below a k.ask.depth colours.bar colours.background k.ask.bar k.ask.background t.site t.factory t.digits;
      }

  -- what a point that shows main shows of a sheet
  point_is : (sheet : List ℕ) (p q u v : ℕ) → ShowsMain s p q u v → sheet_shows s sheet p q ≡ sheet_pixel s.depth (main_image s) sheet (pixel_at u v)
  unfolding sheet_shows
  point_is sheet p q u v h = rw (h.pixel, h.main) refl

  pub colour_is : AllBelow 256 screen → (buffer memory : List ℕ) → AllBelow 256 memory → length memory ≡ memory_size → length (stream_of job) ≤ length buffer
      → (p q u v : ℕ) → ShowsMain s p q u v → colour_after job buffer memory p q ≡ sheet_pixel s.depth (main_image s) (drawn s cs (strip_words t) memory) (pixel_at u v)
  unfolding sheet_point
  colour_is bytes buffer memory byte-memory len fits p q u v h =
      ap (λ (r : Reading). r.colour) ((demand_3 job buffer memory (in_bytes bytes) byte-memory len (compiles (length buffer) fits)).same_points p q h.column h.line)
      ∙ ap (λ (sheet : List ℕ). sheet_shows s sheet p q) (sheet_is memory)
      ∙ point_is (drawn s cs (strip_words t) memory) p q u v h

  -- its pixel is one of the image's
  pub shown_in : (p q u v : ℕ) → ShowsMain s p q u v → (u < (main_image s).width) × (v < (main_image s).height)
  shown_in p q u v h = subst (λ (x : Pixel). (x.u < (main_image s).width) × (x.v < (main_image s).height)) h.pixel (view_in memory_size s k.fields p q h.column h.line)
