-- What each step of a script leaves: on the desk, in the host words, the stream and the memories, and as the answers of
-- compiling and playing.
--
-- The desk holds the screen record, from byte 32 on a command with room for the long form, at 80 how many commands there are (0 or 1), at 84
-- how many host words, and at 88 whether the list is in the long form.
use Rattle.std.specs.Prelude.{Result}
use Rattle.refusal.specs.declared.Refused.{Refused}
use Rattle.std.specs.Prelude.{ℕ, ◌*◌, ◌%◌, List, [], ◌∷◌, Bool, ◌||◌, cond, take, drop, replicate, eqb}
use Rattle.screen.specs.Screen.{memory_size}
use Rattle.command.specs.Task.{short_form, long_form, Task, task}
use Rattle.refusal.specs.Number.{told_by}
use Rattle.compiler.specs.Compile.{Compiling, compiling, buffer_after, answer_of as compiledFrom}
use Rattle.compiler.specs.declared.Compiled.{Compiled}
use Rattle.older.specs.Compile.{older_compiling, older_buffer}
use Rattle.chip.specs.Play.{playing, played, answer_of as playedFrom}
use Rattle.screen.specs.declared.ScreenValues.{ScreenValues}
use Rattle.script.specs.Script.{number_at, number_put, fields_put, stored, words_put}

-- ---- the steps that leave something: the first four letters of a line as a number, the first letter lowest
-- scre
abbrev pub screen_step : ℕ
screen_step = 0x65726373

-- comm
abbrev pub command_step : ℕ
command_step = 0x6D6D6F63

-- long
abbrev pub long_step : ℕ
long_step = 0x676E6F6C

-- word
abbrev pub word_step : ℕ
word_step = 0x64726F77

-- stor
abbrev pub store_step : ℕ
store_step = 0x726F7473

-- patc
abbrev pub patch_step : ℕ
patch_step = 0x63746170

-- exam
abbrev pub example_step : ℕ
example_step = 0x6D617865

-- keep
abbrev pub keep_step : ℕ
keep_step = 0x7065656B

-- comp
abbrev pub compile_step : ℕ
compile_step = 0x706D6F63

-- olde
abbrev pub older_step : ℕ
older_step = 0x65646C6F

-- play
abbrev pub play_step : ℕ
play_step = 0x79616C70

-- ---- what is set
-- where a screen line's numbers go: the last two are left out there, and so are 0
abbrev pub screen_places : List ℕ
screen_places = 0 ∷ 1 ∷ 2 ∷ 4 ∷ 6 ∷ 8 ∷ 12 ∷ 16 ∷ 18 ∷ 20 ∷ 22 ∷ 80 ∷ 84 ∷ []

-- where a command line's numbers go: the last is left out there, so that the list is in the short form
abbrev pub command_places : List ℕ
command_places = 32 ∷ 33 ∷ 34 ∷ 36 ∷ 38 ∷ 40 ∷ 42 ∷ 44 ∷ 46 ∷ 48 ∷ 84 ∷ 88 ∷ []

-- where a long line's numbers go: key colour, pattern x, y and address
abbrev pub long_places : List ℕ
long_places = 64 ∷ 66 ∷ 67 ∷ 68 ∷ []

-- the desk: the screen record without commands and words, or with the line's command as the only one, or that command with the long form's fields
unfoldable pub desk_after : ℕ → List ℕ → List ℕ → List ℕ
desk_after k line desk =
    cond (eqb k screen_step) (fields_put line 0 screen_places desk)
    (cond (eqb k command_step) (number_put (fields_put line 0 command_places desk) 80 1)
    (cond (eqb k long_step) (number_put (fields_put line 0 long_places desk) 88 1) desk))

-- the host words
unfoldable pub words_after : ℕ → List ℕ → List ℕ → List ℕ
words_after k line words = cond (eqb k word_step) (words_put line words) words

-- the stream, with a number of it changed
unfoldable pub stream_patched : ℕ → List ℕ → List ℕ → List ℕ
stream_patched k line stream = cond (eqb k patch_step) (stored line stream) stream

-- a step that keeps the memory, and leaves zeros
abbrev pub keeps : ℕ → Bool
keeps k = eqb k example_step || eqb k keep_step

-- the memory that is kept
unfoldable pub kept_after : ℕ → List ℕ → List ℕ → List ℕ
kept_after k memory kept = cond (keeps k) memory kept

-- the memory before playing
unfoldable pub memory_after : ℕ → List ℕ → List ℕ → List ℕ
memory_after k line memory = cond (keeps k) (replicate memory_size 0) (cond (eqb k store_step) (stored line memory) memory)

-- ---- compiling and playing
-- what is compiled: the screen record
abbrev pub screen_on : List ℕ → List ℕ
screen_on desk = take 32 desk

-- the list's form
abbrev pub form_on : List ℕ → ℕ
form_on desk = cond (eqb (number_at desk 88) 0) short_form long_form

-- the command, if there is one
abbrev pub list_on : List ℕ → List ℕ
list_on desk = take (form_on desk * (number_at desk 80 % 2)) (drop 32 desk)

-- as many host words as the desk says, or as there are
abbrev pub words_on : List ℕ → List ℕ → List ℕ
words_on desk words = take (number_at desk 84) words

-- all of it
abbrev pub task_on : List ℕ → List ℕ → Task
task_on desk words = task (form_on desk) (screen_on desk) (list_on desk) (words_on desk words)

-- the answer of the last compiling, for the S1D13A05 or the older S1D13706, into a stream buffer of `room` bytes, as it tells of a refusal
unfoldable pub compiled_after : {E : Type 0} → (Refused → E) → ℕ → Result Compiled E → List ℕ → List ℕ → ℕ → Result Compiled E
compiled_after told k old desk words room =
    cond (eqb k compile_step) (told_by told (compiledFrom (compiling memory_size (task_on desk words) room)))
    (cond (eqb k older_step) (told_by told (compiledFrom (older_compiling (task_on desk words) room))) old)

-- the stream buffer
unfoldable pub stream_after : ℕ → List ℕ → List ℕ → List ℕ → List ℕ
stream_after k desk words stream =
    cond (eqb k compile_step) (buffer_after memory_size (task_on desk words) stream)
    (cond (eqb k older_step) (older_buffer (task_on desk words) stream) stream)

-- what is played: the stream in the length that compiling gave
abbrev pub stream_on : Compiling → List ℕ → List ℕ
stream_on c stream = take c.length stream

-- the answer of the last playing, as it tells of a refusal
unfoldable pub played_after : {E : Type 0} → (Refused → E) → ℕ → Result ScreenValues E → Compiling → List ℕ → List ℕ → Result ScreenValues E
played_after told k old c stream memory = cond (eqb k play_step) (told_by told (playedFrom (playing memory_size (stream_on c stream) memory))) old

-- the memory after playing
unfoldable pub memory_played : ℕ → Compiling → List ℕ → List ℕ → List ℕ
memory_played k c stream memory = cond (eqb k play_step) (played memory_size (stream_on c stream) memory) memory
