-- The records of a screen and of a command, played from any chip that waits for no data.
use Prim.Native.Nat.{ℕ, suc, ◌+◌, ◌*◌, ◌%◌, ◌≤◌, ◌<◌}
use mathlib.Core.Path.{◌≡◌, refl, sym, ap, ◌∙◌, subst}
use mathlib.Core.Bool.{Bool, true, false, ◌&&◌, cond}
use mathlib.Core.List.{List, [], ◌∷◌, ◌++◌}
use mathlib.Core.Logic.{⊎_elim}
use native.Mathlib.Nat.{add-zero, suc-mul, mul-le-mul_right}
use native.Mathlib.Numerals.{add-one}
use native.Mathlib.Omega.{arith}
use lib.Dec.{eqb}
use lib.ListN.{length, get_or}
use borrow.Author.Tests.{eq-eqb, ne_eqb, le-leb}
use Rattle.record.specs.Checks.{first_of}
use Rattle.record.specs.Record.{record_with}
use Rattle.record.specs.declared.Record.{Record}
use Rattle.record.proofs.Choice.{and_left, and_right, below_or_not}
use Rattle.screen.specs.Fields.{up_to, edges_fit, origin_fits, values_fit}
use Rattle.screen.specs.declared.ScreenValues.{ScreenValues}
use Rattle.blit.specs.Blit.{Blit, positive, chip_blit}
use Rattle.blit.specs.Words.{words_across, host_pixel, chip_word}
use Rattle.blit.proofs.Words.{host_word, writing, write_first, write_last, write_next, write_line}
use Rattle.chip.specs.Register.{control_fits, command_fits, listed, fits, screen_after, blit_after}
use Rattle.chip.specs.Start.{operation, bytes_of, source_of, destination_of, line_of, width_of, height_of, foreground_of, startable, within, write_of, started}
use Rattle.chip.specs.Admit.{written, admit_rows, refusal, no_data, due_after, due_of, chip_after, effect}
use Rattle.chip.specs.declared.Chip.{Chip}
use Rattle.chip.specs.declared.Due.{Due}
use Rattle.chip.specs.declared.Registers.{Registers}
use Rattle.chip.proofs.Plays.{Plays, plays_none, plays_cons, plays_one, plays_append, plays_from}
use Rattle.chip.proofs.Admits.{not_started}
use Rattle.chip.proofs.Dues.{due_at, some_words, same_line, next_line, last_word}

-- ---- one record

-- a register write that starts nothing
pub write_taken : (m : ℕ) (c : Chip) (n v : ℕ) → listed n ≡ true → fits n v ≡ true → eqb n 0x8000 ≡ false → eqb n 0x10000 ≡ false → c.due.any ≡ false
    → refusal m c (record_with n v) ≡ 0
unfolding refusal admit_rows first_of
write_taken m c n v l f s d i = rw (l, f, s, d, i)

-- a start
pub start_taken : (m : ℕ) (c : Chip) (v : ℕ) → fits 0x8000 v ≡ true → v % 2 ≡ 1 → startable (written c (record_with 0x8000 v)) ≡ true
    → within m (written c (record_with 0x8000 v)) ≡ true → c.due.any ≡ false → refusal m c (record_with 0x8000 v) ≡ 0
unfolding refusal admit_rows first_of listed
start_taken m c v f o s w i = rw (f, eq-eqb (v % 2) 1 o, s, w, i)

-- a data word that is due
pub word_taken : (m : ℕ) (c : Chip) (v : ℕ) → v < 65536 → c.due.any ≡ true → refusal m c (record_with 0x10000 v) ≡ 0
unfolding refusal admit_rows first_of listed fits
word_taken m c v h d = rw (le-leb v 65535 (omega arith), d)

-- ---- the six screen records

abbrev pub screen_writes_lem : ScreenValues → List Record
screen_writes_lem v =
    record_with 0x40 v.main.start ∷ record_with 0x44 v.main.offset ∷ record_with 0x50 v.window.start ∷ record_with 0x54 v.window.offset
    ∷ record_with 0x58 v.x ∷ record_with 0x5C v.y ∷ []

-- a chip that waits for no data
abbrev pub quiet : ScreenValues → Registers → Chip
quiet s b = record { screen = s; blit = b; due = no_data }

module _ (m : ℕ) (c : Chip) (v : ScreenValues) (old : List ℕ) (idle : c.due.any ≡ false) (ok : values_fit v ≡ true) where
  pub screen_played : Plays m c (screen_writes_lem v) old (quiet v c.blit) old
  unfolding values_fit listed fits chip_after screen_after blit_after due_of effect
  screen_played =
      let main = and_left (origin_fits v.main) _ ok in
      let rest = and_right (origin_fits v.main) _ ok in
      let window = and_left (origin_fits v.window) _ rest in
      let edges = and_right (origin_fits v.window) _ rest in
      plays_cons (write_taken m _ 0x40 v.main.start refl (and_left (up_to 0xFFFF v.main.start) _ main) refl refl idle)
      (plays_cons (write_taken m _ 0x44 v.main.offset refl (and_right (up_to 0xFFFF v.main.start) _ main) refl refl refl)
      (plays_cons (write_taken m _ 0x50 v.window.start refl (and_left (up_to 0xFFFF v.window.start) _ window) refl refl refl)
      (plays_cons (write_taken m _ 0x54 v.window.offset refl (and_right (up_to 0xFFFF v.window.start) _ window) refl refl refl)
      (plays_cons (write_taken m _ 0x58 v.x refl (and_left (edges_fit v.x) _ edges) refl refl refl)
      (plays_one (write_taken m _ 0x5C v.y refl (and_right (edges_fit v.x) _ edges) refl refl refl))))))

-- ---- the nine records of a command

-- the nine blit registers in the stream's order, the start last
abbrev pub blit_writes : Registers → List Record
blit_writes b =
    record_with 0x8008 b.command ∷ record_with 0x800C b.source ∷ record_with 0x8010 b.destination ∷ record_with 0x8014 b.offset ∷ record_with 0x8018 b.width
    ∷ record_with 0x801C b.height ∷ record_with 0x8020 b.background ∷ record_with 0x8024 b.foreground ∷ record_with 0x8000 b.control ∷ []

-- each value is in its field, and 8000h has bit 0 set
pub record InFields (b : Registers) : Type 0 where
  pub command : command_fits b.command ≡ true
  pub source : b.source ≤ 0x3FFFF
  pub destination : b.destination ≤ 0x3FFFF
  pub offset : b.offset ≤ 0x7FF
  pub width : b.width ≤ 0x3FF
  pub height : b.height ≤ 0x3FF
  pub background : b.background ≤ 0xFFFF
  pub foreground : b.foreground ≤ 0xFFFF
  pub control : control_fits b.control ≡ true
  pub starts : b.control % 2 ≡ 1

-- a started write waits for its first word, any other blit for none
abbrev pub first_due : Registers → Due
first_due b = record { any = eqb (operation b) 0; line = 0; word = 0 }

abbrev pub started_chip : ScreenValues → Registers → Chip
started_chip s b = record { screen = s; blit = b; due = first_due b }

module _ (m : ℕ) (b : Registers) (f : InFields b) (can : startable b ≡ true) (inside : within m b ≡ true) where
  -- 8000h, once the other eight are written
  last_write : (s : ScreenValues) (k : ℕ) (old : List ℕ)
      → let c = quiet s (record { control = k; command = b.command; source = b.source; destination = b.destination; offset = b.offset; width = b.width; height = b.height; background = b.background; foreground = b.foreground }) in
      Plays m c (record_with 0x8000 b.control ∷ []) old (started_chip s b) (started b old)
  unfolding fits chip_after screen_after blit_after due_of effect
  last_write s k old =
      subst
      (λ (t : Bool). Plays m
      (quiet s (record { control = k; command = b.command; source = b.source; destination = b.destination; offset = b.offset; width = b.width; height = b.height; background = b.background; foreground = b.foreground }))
      (record_with 0x8000 b.control ∷ []) old
      (record { screen = s; blit = b; due = record { any = t && eqb (operation b) 0; line = 0; word = 0 } })
      (cond t (started b old) old))
      (eq-eqb (b.control % 2) 1 f.starts)
      (plays_one (start_taken m _ b.control f.control f.starts can inside refl))

  pub blit_played : (c : Chip) (old : List ℕ) → c.due.any ≡ false → Plays m c (blit_writes b) old (started_chip c.screen b) (started b old)
  unfolding listed fits chip_after screen_after blit_after due_of effect
  blit_played c old idle =
      plays_cons (write_taken m _ 0x8008 b.command refl f.command refl refl idle)
      (plays_cons (write_taken m _ 0x800C b.source refl (le-leb _ _ f.source) refl refl refl)
      (plays_cons (write_taken m _ 0x8010 b.destination refl (le-leb _ _ f.destination) refl refl refl)
      (plays_cons (write_taken m _ 0x8014 b.offset refl (le-leb _ _ f.offset) refl refl refl)
      (plays_cons (write_taken m _ 0x8018 b.width refl (le-leb _ _ f.width) refl refl refl)
      (plays_cons (write_taken m _ 0x801C b.height refl (le-leb _ _ f.height) refl refl refl)
      (plays_cons (write_taken m _ 0x8020 b.background refl (le-leb _ _ f.background) refl refl refl)
      (plays_cons (write_taken m _ 0x8024 b.foreground refl (le-leb _ _ f.foreground) refl refl refl)
      (last_write c.screen c.blit.control old))))))))

-- ---- the data words of a write

-- a chip that waits for word t of line j
abbrev pub waiting : ScreenValues → Registers → ℕ → ℕ → Chip
waiting s b j t = record { screen = s; blit = b; due = due_at j t }

unfoldable pub word_writes : List ℕ → List Record
word_writes [] = []
word_writes (w ∷ ws) = record_with 0x10000 w ∷ word_writes ws

unfoldable pub AllWords : List ℕ → Type 0
AllWords [] = Unit {0}
AllWords (w ∷ ws) = (w < 65536) × AllWords ws

-- one word, with the records behind it
word_played : (m : ℕ) (s : ScreenValues) (b : Registers) (j t w : ℕ) (rs : List Record) (old : List ℕ) {c : Chip} {new : List ℕ} → w < 65536
    → Plays m (record { screen = s; blit = b; due = due_after b (due_at j t) }) rs (chip_word (write_of b (λ i k. 0)) j t w old) c new
    → Plays m (waiting s b j t) (record_with 0x10000 w ∷ rs) old c new
unfolding chip_after screen_after blit_after effect
word_played m s b j t w rs old h p = plays_cons (word_taken m _ w h refl) p

module _ (m : ℕ) (s : ScreenValues) (b : Registers) (words old : List ℕ) where
  abbrev per : ℕ
  per = words_across (bytes_of b) (width_of b)

  -- the memory once all words before word t of line j have come
  abbrev so_far : ℕ → ℕ → List ℕ
  so_far j t = writing (write_of b (λ i k. 0)) words j t old

  -- the words ws that are left from word t of line j on
  record Left (ws : List ℕ) (j t : ℕ) : Type 0 where
    pub word : t < per
    pub line : j < height_of b
    pub count : length ws + (j * per + t) ≡ height_of b * per
    pub same : (i : ℕ) → get_or ws i 0 ≡ get_or words (j * per + t + i) 0

  first_left : (w : ℕ) (ws : List ℕ) (j t : ℕ) → Left (w ∷ ws) j t → w ≡ get_or words (j * per + t) 0
  first_left w ws j t l = l.same 0 ∙ ap (λ (n : ℕ). get_or words n 0) (add-zero (j * per + t))

  -- there is a word left
  not_done : (j t : ℕ) → Left [] j t → ⊥
  not_done j t l = omega (arith, l.count, l.word, suc-mul j per, mul-le-mul_right per l.line)

  module _ (w : ℕ) (ws : List ℕ) (j t : ℕ) (l : Left (w ∷ ws) j t) where
    stay : t + 1 < per → Left ws j (t + 1)
    stay p =
        record {
          word = p;
          line = l.line;
          count = omega (arith, l.count);
          same = λ i. l.same (suc i) ∙ ap (λ (n : ℕ). get_or words n 0) (omega arith);
        }

    turn : per ≤ t + 1 → j + 1 < height_of b → Left ws (j + 1) 0
    turn p q =
        let e : (j + 1) * per ≡ j * per + per = ap (λ (n : ℕ). n * per) (add-one j) ∙ suc-mul j per in
        record {
          word = some_words b;
          line = q;
          count = omega (arith, l.count, l.word, e);
          same = λ i. l.same (suc i) ∙ ap (λ (n : ℕ). get_or words n 0) (omega (arith, l.word, e));
        }

    none_left : per ≤ t + 1 → height_of b ≤ j + 1 → length ws ≡ 0
    none_left p q =
        let e : height_of b ≡ suc j = omega (arith, l.line) in
        let k : height_of b * per ≡ j * per + per = ap (λ (n : ℕ). n * per) e ∙ suc-mul j per in
        omega (arith, l.count, l.word, k)

    abbrev blank : Blit
    blank = write_of b (λ i k. 0)

    hosts : chip_word blank j t w (so_far j t) ≡ chip_word blank j t (host_word blank words j t) (so_far j t)
    unfolding write_of
    hosts = ap (λ (x : ℕ). chip_word blank j t x (so_far j t)) (first_left w ws j t l)

    drawn_on : t + 1 < per → chip_word blank j t w (so_far j t) ≡ so_far j (t + 1)
    unfolding write_of
    drawn_on p = hosts ∙ write_next blank words old (omega arith) (omega arith) j t p

    drawn_line : per ≤ t + 1 → chip_word blank j t w (so_far j t) ≡ so_far (j + 1) 0
    unfolding write_of
    drawn_line p = hosts ∙ write_line blank words old (omega arith) (omega arith) j t (omega (arith, l.word))

  no_words : (ws : List ℕ) → length ws ≡ 0 → word_writes ws ≡ []
  unfolding word_writes
  no_words [] e = refl
  no_words (w ∷ ws) e = absurd (omega arith)

  abbrev at : Due → Chip
  at d = record { screen = s; blit = b; due = d }

  -- the last word of the last line leaves none
  finished : (ws : List ℕ) (j : ℕ) → length ws ≡ 0 → j + 1 ≡ height_of b → Plays m (at no_data) (word_writes ws) (so_far (j + 1) 0) (quiet s b) (so_far (height_of b) 0)
  finished ws j e h =
      subst (λ (rs : List Record). Plays m (at no_data) rs (so_far (j + 1) 0) (quiet s b) (so_far (height_of b) 0)) (sym (no_words ws e))
      (subst (λ (n : ℕ). Plays m (at no_data) [] (so_far (j + 1) 0) (quiet s b) (so_far n 0)) h (plays_none m (at no_data) (so_far (j + 1) 0)))

  words_left : (ws : List ℕ) (j t : ℕ) → AllWords ws → Left ws j t → Plays m (waiting s b j t) (word_writes ws) (so_far j t) (quiet s b) (so_far (height_of b) 0)
  unfolding word_writes AllWords
  words_left [] j t a l = absurd (not_done j t l)
  words_left (w ∷ ws) j t a l =
      word_played m s b j t w (word_writes ws) (so_far j t) a.0
      (⊎_elim
      (λ p. plays_from (ap at (same_line b (due_at j t) p)) (drawn_on w ws j t l p) (words_left ws j (t + 1) a.1 (stay w ws j t l p)))
      (λ p. ⊎_elim
      (λ q. plays_from (ap at (next_line b (due_at j t) p q)) (drawn_line w ws j t l p) (words_left ws (j + 1) 0 a.1 (turn w ws j t l p q)))
      (λ q. plays_from (ap at (last_word b (due_at j t) p q)) (drawn_line w ws j t l p) (finished ws j (none_left w ws j t l p q) (omega (arith, l.line))))
      (below_or_not (j + 1) (height_of b)))
      (below_or_not (t + 1) per))

-- all words of a write, from its start on: the chip waits for no more, and the memory has the whole write
pub words_played : (m : ℕ) (s : ScreenValues) (b : Registers) (words old : List ℕ) → AllWords words → length words ≡ height_of b * words_across (bytes_of b) (width_of b)
    → Plays m (waiting s b 0 0) (word_writes words) old (quiet s b) (chip_blit (write_of b (host_pixel (bytes_of b) (width_of b) words)) positive old)
unfolding write_of
words_played m s b words old a e =
    let per : ℕ = words_across (bytes_of b) (width_of b) in
    let blank : Blit = write_of b (λ i k. 0) in
    let all : Left m s b words old words 0 0 =
    record {
      word = some_words b;
      line = omega arith;
      count = omega arith;
      same = λ i. ap (λ (n : ℕ). get_or words n 0) (omega arith);
    } in
    plays_from refl (sym (write_first blank words old))
    (subst (λ (new : List ℕ). Plays m (waiting s b 0 0) (word_writes words) (writing blank words 0 0 old) (quiet s b) new)
    (write_last blank words old) (words_left m s b words old words 0 0 a all))

-- ---- whole commands

module _ (m : ℕ) (b : Registers) (f : InFields b) (can : startable b ≡ true) (inside : within m b ≡ true) (c : Chip) (old : List ℕ) (idle : c.due.any ≡ false) where
  -- a fill or move
  pub drawn_played : (operation b ≡ 0 → ⊥) → Plays m c (blit_writes b) old (quiet c.screen b) (started b old)
  drawn_played some =
      subst (λ (t : Bool). Plays m c (blit_writes b) old (record { screen = c.screen; blit = b; due = record { any = t; line = 0; word = 0 } }) (started b old))
      (ne_eqb (operation b) 0 some) (blit_played m b f can inside c old idle)

  -- a write and its words
  pub write_played : operation b ≡ 0 → (words : List ℕ) → AllWords words → length words ≡ height_of b * words_across (bytes_of b) (width_of b)
      → Plays m c (blit_writes b ++ word_writes words) old (quiet c.screen b) (chip_blit (write_of b (host_pixel (bytes_of b) (width_of b) words)) positive old)
  write_played e words a n =
      plays_append (blit_played m b f can inside c old idle)
      (plays_from (λ t. record { screen = c.screen; blit = b; due = record { any = eq-eqb (operation b) 0 e t; line = 0; word = 0 } }) (sym (not_started b old e))
      (words_played m c.screen b words old a n))

-- what the bits of a value in its field are
module _ (b : Registers) (f : InFields b) where
  pub source_is : source_of b ≡ b.source
  source_is = omega (arith, f.source)

  pub destination_is : destination_of b ≡ b.destination
  destination_is = omega (arith, f.destination)

  pub line_is : line_of b ≡ 2 * b.offset
  line_is = omega (arith, f.offset)

  pub width_is : width_of b ≡ b.width + 1
  width_is = omega (arith, f.width)

  pub height_is : height_of b ≡ b.height + 1
  height_is = omega (arith, f.height)

  pub foreground_is : foreground_of b ≡ b.foreground
  foreground_is = omega (arith, f.foreground)
