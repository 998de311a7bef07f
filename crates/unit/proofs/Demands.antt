-- The three demands, and the first two for the S1D13706.
use mathlib.Core.Path.{◌≡◌, refl, sym, ap, subst, ◌∙◌}
use mathlib.Core.Bool.{cond}
use mathlib.Core.List.{List}
use Prim.Native.Nat.{ℕ, ◌%◌, ◌≤◌, ◌<◌}
use native.Mathlib.Omega.{arith}
use lib.Dec.{eqb}
use lib.ListN.{length}
use borrow.Author.Tests.{eq-eqb, ne_eqb}
use Rattle.record.specs.Lists.{AllBelow}
use Rattle.record.specs.Record.{stream_bytes, records_of}
use Rattle.record.specs.Checks.{first_of}
use Rattle.record.specs.declared.Record.{Record}
use Rattle.record.proofs.Stores.{length_stream}
use Rattle.record.proofs.Records.{records_back}
use Rattle.screen.specs.Screen.{memory_size, fields_of, field_rows}
use Rattle.screen.specs.Values.{values_of}
use Rattle.screen.specs.declared.Screen.{Screen}
use Rattle.screen.specs.declared.ScreenValues.{ScreenValues}
use Rattle.screen.proofs.Read.{accepts, read_accepted}
use Rattle.screen.proofs.Fits.{values_fit_lem}
use Rattle.view.specs.Shows.{Shows, shown_bit}
use Rattle.view.specs.declared.Place.{Place}
use Rattle.view.proofs.Demand.{demand_2 as view_demand_2}
use Rattle.reader.specs.Read.{looked_at, reading, display_of}
use Rattle.command.specs.Task.{Task, screen_in, commands_in, task_refusal}
use Rattle.command.proofs.Task.{Accepted}
use Rattle.compiler.specs.Stream.{draw_records, records_in}
use Rattle.compiler.specs.Compile.{Compiling, compiling, stream_of, buffer_after}
use Rattle.compiler.proofs.Answered.{stream_given_lem}
use Rattle.compiler.proofs.Accepted.{compiled_says}
use Rattle.older.specs.Bytes.{older_memory, older_values}
use Rattle.older.specs.Compile.{older_records, registers_in, bytes_in, older_compiling, older_buffer}
use Rattle.older.proofs.Bytes.{values_back, records_small, registers_are, bytes_are}
use Rattle.older.proofs.Outcome.{eighteen, answer_is, screen_accepted}
use Rattle.chip.specs.Play.{Playing, new_chip, playing, played}
use Rattle.chip.proofs.Answers.{accepted_by_lem}
use Rattle.chip.proofs.Commands.{quiet}
use Rattle.chip.proofs.Plays.{Plays, plays_accepted, plays_played}
use Rattle.unit.specs.Sheet.{sheet_commands, sheet_after}
use Rattle.unit.specs.Point.{sheet_point, LooksTruly}
use Rattle.unit.specs.Demands.{Demand1, Demand2, Demand2Read, Demand3, InBytes, DrawnTruly, stream_given, display_by, display_given, OlderDemand1, writes_given, values_given, older_display, SetTruly, OlderDemand2}
use Rattle.unit.proofs.Tables.{compile_decided, older_decided, play_decided, read_decided}
use Rattle.unit.proofs.Listed.{Ends}
use Rattle.unit.proofs.Points.{reads_sheet, looks_truly}
use Rattle.unit.proofs.Whole.{rest_ends, whole_plays, plays_small, sheet_bytes, sheet_length}

-- ---- demand 1
pub kept : {A : Type 0} (n : ℕ) (x y : A) → 0 < n → cond (eqb n 0) x y ≡ y
kept n x y h = rw (ne_eqb n 0 (λ z. omega arith)) refl

pub demand_1 : Demand1
unfolding buffer_after played
demand_1 =
    record {
      compiled = compile_decided memory_size;
      stream_kept = λ t old h. kept (compiling memory_size t (length old)).number _ _ h;
      plays = play_decided memory_size;
      memory_kept = λ stream memory h. kept (playing memory_size stream memory).number _ _ h;
      reads = read_decided memory_size;
    }

-- ---- demand 2
pub demand_2 : Demand2
demand_2 bytes p q e hp hq =
    let r = read_accepted memory_size bytes (fields_of bytes) (sym (accepts memory_size bytes e)) in
    view_demand_2 memory_size (fields_of bytes) r.2 p q hp hq

pub demand_2_read : Demand2Read
demand_2_read bytes memory p q e below len hp hq =
    let r = read_accepted memory_size bytes (fields_of bytes) (sym (accepts memory_size bytes e)) in
    looks_truly memory_size (fields_of bytes) r.2 r.3 (omega arith) memory len below p q hp hq

-- ---- demand 3
module _ (t : Task) (buffer : List ℕ) (e : (compiling memory_size t (length buffer)).number ≡ 0) where
  -- the stream that playing is given
  pub stream_is : stream_given t buffer ≡ stream_bytes (records_in t)
  unfolding buffer_after stream_of
  stream_is =
      let g = (compiled_says memory_size t (length buffer) e).given in
      stream_given_lem (compiling memory_size t (length buffer)) (stream_bytes (records_in t)) buffer e
      (ap (λ (c : Compiling). c.length) g ∙ sym (length_stream (records_in t)))

module _ (t : Task) (buffer memory : List ℕ) (below : InBytes t) (byte-memory : AllBelow 256 memory) (len : length memory ≡ memory_size)
    (e : (compiling memory_size t (length buffer)).number ≡ 0) where
  abbrev s : Screen
  s = screen_in t

  abbrev stream : List ℕ
  stream = stream_given t buffer

  abbrev sheet : List ℕ
  sheet = sheet_commands s (commands_in t) t.words memory

  limit : memory_size ≤ 262144
  limit = omega arith

  known : Accepted memory_size t
  known = (compiled_says memory_size t (length buffer) e).task

  ends : Ends memory_size (quiet (values_of s) new_chip.blit) (draw_records s t.words (commands_in t)) memory sheet
  ends = rest_ends memory_size limit t known below.list below.words memory len

  whole : Plays memory_size new_chip (records_in t) memory ends.chip sheet
  unfolding ends
  whole = whole_plays memory_size limit t known below.list below.words memory len

  back : records_of stream ≡ records_in t
  back = ap records_of (stream_is t buffer e) ∙ records_back (records_in t) (plays_small memory_size new_chip ends.chip (records_in t) memory sheet whole)

  plays : Plays memory_size new_chip (records_of stream) memory ends.chip sheet
  plays = subst (λ (x : List Record). Plays memory_size new_chip x memory ends.chip sheet) (sym back) whole

  cut : length stream % 8 ≡ 0
  cut = ap (λ (x : List ℕ). length x % 8) (stream_is t buffer e) ∙ omega (arith, length_stream (records_in t))

  playing_is : playing memory_size stream memory ≡ accepted_by_lem ends.chip.screen
  playing_is = plays_accepted memory_size stream memory len cut plays ends.idle

  sheet_is : sheet_after memory_size t memory ≡ sheet
  unfolding sheet_after
  sheet_is = rw (eq-eqb (task_refusal memory_size t).number 0 known.number) refl

  memory_is : played memory_size stream memory ≡ sheet
  memory_is = plays_played memory_size stream memory len cut plays ends.idle

  display_is : display_given t buffer ≡ display_of s
  unfolding display_of
  display_is =
      λ i.
      let c = (compiled_says memory_size t (length buffer) e).given i in
      record { depth = c.depth; rotation = c.rotation; flag = c.flag; width = s.width; height = s.height }

  -- the last six screen values are the screen's own
  pub values_given_lem : (playing memory_size stream memory).values ≡ values_of s
  values_given_lem = ap (λ (x : Playing). x.values) playing_is ∙ ends.screen

  drawn_truly : DrawnTruly t buffer memory
  drawn_truly =
      record {
        not_refused = ap (λ (x : Playing). x.number) playing_is;
        same_bytes = memory_is ∙ sym sheet_is;
        same_points = λ p q hp hq.
            (λ i. reading memory_size (display_is i) (playing_is i).values p q (memory_is i))
            ∙ ap (λ (v : ScreenValues). reading memory_size (display_of s) v p q sheet) ends.screen
            ∙ reads_sheet memory_size s known.fields known.flag limit sheet (sheet_length s (commands_in t) t.words memory ∙ len) (sheet_bytes s (commands_in t) t.words memory byte-memory) p q hp hq
            ∙ ap (λ (x : List ℕ). sheet_point s x p q) (sym sheet_is);
      }

pub demand_3 : Demand3
demand_3 t buffer memory below byte-memory len e = drawn_truly t buffer memory below byte-memory len e

-- ---- the S1D13706
pub older_demand_1 : OlderDemand1
unfolding older_buffer
older_demand_1 =
    record {
      compiled = older_decided;
      stream_kept = λ t old h. kept (older_compiling t (length old)).number _ _ h;
      reads = read_decided older_memory;
    }

module _ (t : Task) (buffer : List ℕ) (e : (older_compiling t (length buffer)).number ≡ 0) where
  abbrev older : Screen
  older = screen_in t

  small : older_memory ≤ 262144
  small = omega arith

  pub fine : (first_of (field_rows older_memory older) ≡ 0) × (older.flag ≤ 1)
  fine =
      let r = read_accepted older_memory t.screen older (sym (accepts older_memory t.screen (screen_accepted t (length buffer) e))) in
      (r.2, r.3)

  -- the records of the stream, and what they make
  writes_are : writes_given t buffer ≡ older_records older
  unfolding older_buffer
  writes_are =
      ap records_of
      (stream_given_lem (older_compiling t (length buffer)) (stream_bytes (older_records older)) buffer e
      (ap (λ (c : Compiling). c.length) (answer_is t (length buffer) e) ∙ omega (arith, length_stream (older_records older), eighteen older)))
      ∙ records_back (older_records older) (records_small older)

  values_are : values_given t buffer ≡ values_of older
  values_are =
      ap (λ (rs : List Record). older_values (bytes_in rs)) writes_are
      ∙ ap older_values (bytes_are older)
      ∙ values_back (values_of older) (values_fit_lem older_memory older small fine.0 fine.1)

  older_display_lem : older_display t buffer ≡ display_of older
  unfolding display_of
  older_display_lem = ap (λ (c : Compiling). display_by c older) (answer_is t (length buffer) e)

  set_truly : SetTruly t buffer
  unfolding display_of
  set_truly =
      record {
        registers = ap registers_in writes_are ∙ registers_are older;
        values = values_are;
        shows = λ p q hp hq.
            subst (λ (w : Place). Shows older_memory older.depth w (shown_bit older p q))
            (sym (λ i. looked_at (older_display_lem i) (values_are i) p q))
            (view_demand_2 older_memory older fine.0 p q hp hq);
        reads = λ memory bytes len p q hp hq.
            subst (LooksTruly older_memory older memory p q)
            (sym (λ i. reading older_memory (older_display_lem i) (values_are i) p q memory))
            (looks_truly older_memory older fine.0 fine.1 small memory len bytes p q hp hq);
      }

pub older_demand_2 : OlderDemand2
older_demand_2 t buffer e = set_truly t buffer e
