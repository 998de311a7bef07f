-- The steps' letters, and what some lines leave, computed.
use Prim.Native.Nat.{ℕ}
use mathlib.Core.Path.{◌≡◌, refl}
use mathlib.Core.List.{List, [], ◌∷◌, ◌++◌, map}
use lib.ListN.{length, take, replicate}
use Rattle.std.specs.Prelude.{Result, Ok}
use Rattle.refusal.proofs.Numbers.{told_self}
use Rattle.refusal.specs.declared.Refused.{Refused}
use Rattle.screen.specs.Screen.{memory_size}
use Rattle.command.specs.Task.{short_form, long_form, task}
use Rattle.compiler.specs.Compile.{Compiling, compiling, buffer_after, compiling_of, compiling_by, answer_of as compiledFrom}
use Rattle.compiler.specs.declared.Compiled.{Compiled}
use Rattle.older.specs.Compile.{older_compiling, older_buffer}
use Rattle.chip.specs.Play.{playing, played, answer_of as playedFrom}
use Rattle.screen.specs.declared.ScreenValues.{ScreenValues}
use Rattle.script.specs.Script.{number_at, number_put, scan_byte, scan_bytes, number_of, fields_put, words_put}
use Rattle.script.specs.Steps.{screen_step, command_step, long_step, word_step, store_step, patch_step, example_step, keep_step, compile_step, older_step, play_step, desk_after, words_after, stream_patched, kept_after, memory_after, screen_on, form_on, list_on, words_on, compiled_after, stream_after, stream_on, played_after, memory_played}

-- scre, comm, long, word, stor, patc, exam, keep, comp, olde, play
pub letter_cases : map (λ l. number_at l 0) ((115 ∷ 99 ∷ 114 ∷ 101 ∷ []) ∷ (99 ∷ 111 ∷ 109 ∷ 109 ∷ []) ∷ (108 ∷ 111 ∷ 110 ∷ 103 ∷ []) ∷ (119 ∷ 111 ∷ 114 ∷ 100 ∷ []) ∷ (115 ∷ 116 ∷ 111 ∷ 114 ∷ []) ∷ (112 ∷ 97 ∷ 116 ∷ 99 ∷ []) ∷ (101 ∷ 120 ∷ 97 ∷ 109 ∷ []) ∷ (107 ∷ 101 ∷ 101 ∷ 112 ∷ []) ∷ (99 ∷ 111 ∷ 109 ∷ 112 ∷ []) ∷ (111 ∷ 108 ∷ 100 ∷ 101 ∷ []) ∷ (112 ∷ 108 ∷ 97 ∷ 121 ∷ []) ∷ [])
    ≡ screen_step ∷ command_step ∷ long_step ∷ word_step ∷ store_step ∷ patch_step ∷ example_step ∷ keep_step ∷ compile_step ∷ older_step ∷ play_step ∷ []
unfolding number_at
letter_cases = refl

-- eight letters, and `4 1 0 320 240`
abbrev line : List ℕ
line = 0 ∷ 0 ∷ 0 ∷ 0 ∷ 0 ∷ 0 ∷ 0 ∷ 0 ∷ 52 ∷ 32 ∷ 49 ∷ 32 ∷ 48 ∷ 32 ∷ 51 ∷ 50 ∷ 48 ∷ 32 ∷ 50 ∷ 52 ∷ 48 ∷ []

-- the desk after a screen line, after a command line, after a long line, and after another command line
abbrev screened : List ℕ
screened = desk_after screen_step line (replicate 92 0)

abbrev commanded : List ℕ
commanded = desk_after command_step line screened

abbrev lengthened : List ℕ
lengthened = desk_after long_step line commanded

-- depth 4, rotation 1, no window, 320 x 240; no command and no words
pub screen_cases_lem : (take 8 screened ≡ 4 ∷ 1 ∷ 0 ∷ 0 ∷ 64 ∷ 1 ∷ 240 ∷ 0 ∷ []) × (list_on screened ≡ []) × (words_on screened (7 ∷ []) ≡ [])
unfolding number_at number_put scan_byte scan_bytes number_of fields_put desk_after
screen_cases_lem = (refl, refl, refl)

-- operation 4, surface 1, code 0, at (320, 240): one command, in the short form
pub command_cases : (take 8 commanded ≡ take 8 screened)
    × (list_on commanded ≡ 4 ∷ 1 ∷ 0 ∷ 0 ∷ 64 ∷ 1 ∷ 240 ∷ 0 ∷ replicate 24 0)
    × (form_on screened ∷ form_on commanded ∷ form_on lengthened ∷ form_on (desk_after command_step line lengthened) ∷ [] ≡ short_form ∷ short_form ∷ long_form ∷ short_form ∷ [])
unfolding number_at number_put scan_byte scan_bytes number_of fields_put desk_after
command_cases = (refl, refl, refl)

-- the same command in the long form: key colour 4, pattern x 1, y 0, address 320
pub long_cases : list_on lengthened ≡ 4 ∷ 1 ∷ 0 ∷ 0 ∷ 64 ∷ 1 ∷ 240 ∷ 0 ∷ replicate 24 0 ++ (4 ∷ 0 ∷ 1 ∷ 0 ∷ 64 ∷ 1 ∷ replicate 10 0)
unfolding number_at number_put scan_byte scan_bytes number_of fields_put desk_after
long_cases = refl

-- an example and `keep` keep the memory, and `store` does not
pub kept_cases : map (λ k. kept_after k (1 ∷ []) (2 ∷ [])) (example_step ∷ keep_step ∷ store_step ∷ []) ≡ (1 ∷ []) ∷ (1 ∷ []) ∷ (2 ∷ []) ∷ []
unfolding kept_after
kept_cases = refl

-- a new memory holds zeros
pub memory_cases : map (λ k. take 2 (memory_after k [] (1 ∷ 2 ∷ []))) (example_step ∷ keep_step ∷ word_step ∷ []) ≡ (0 ∷ 0 ∷ []) ∷ (0 ∷ 0 ∷ []) ∷ (1 ∷ 2 ∷ []) ∷ []
unfolding memory_after
memory_cases = refl

-- `0 0 5`: word 0 is 5 at `word`, and at no other step; number 0 at address 0 at `patch` and at `store`, each in its own buffer
abbrev five : List ℕ
five = 0 ∷ 0 ∷ 0 ∷ 0 ∷ 0 ∷ 0 ∷ 0 ∷ 0 ∷ 48 ∷ 32 ∷ 48 ∷ 32 ∷ 53 ∷ []

pub set_cases : (map (λ k. words_after k five (7 ∷ 8 ∷ [])) (word_step ∷ store_step ∷ []) ≡ (5 ∷ 8 ∷ []) ∷ (7 ∷ 8 ∷ []) ∷ [])
    × (map (λ k. stream_patched k five (1 ∷ 2 ∷ 3 ∷ 4 ∷ 5 ∷ [])) (patch_step ∷ store_step ∷ []) ≡ (0 ∷ 0 ∷ 0 ∷ 0 ∷ 5 ∷ []) ∷ (1 ∷ 2 ∷ 3 ∷ 4 ∷ 5 ∷ []) ∷ [])
    × (map (λ k. memory_after k five (1 ∷ 2 ∷ 3 ∷ 4 ∷ 5 ∷ [])) (store_step ∷ patch_step ∷ []) ≡ (0 ∷ 0 ∷ 0 ∷ 0 ∷ 5 ∷ []) ∷ (1 ∷ 2 ∷ 3 ∷ 4 ∷ 5 ∷ []) ∷ [])
unfolding number_put scan_byte scan_bytes number_of words_put words_after stream_patched memory_after
set_cases = (refl, refl, refl)

-- what is compiled has 32 bytes of screen record; what is played, as many as compiling gave
pub part_cases : (length (screen_on commanded) ≡ 32) × (stream_on (compiling_of (Ok (record { length = 2; depth = 8; rotation = 0; flag = 0 }))) (1 ∷ 2 ∷ 3 ∷ []) ≡ 1 ∷ 2 ∷ [])
unfolding compiling_by number_at number_put scan_byte scan_bytes number_of fields_put desk_after
part_cases = (refl, refl)

-- compiling and playing happen at their own steps, on any desk and any memory
module _ (c : Result Compiled Refused) (a : Compiling) (p : Result ScreenValues Refused) (desk words stream memory : List ℕ) (room : ℕ) where
  pub compile_cases : (compiled_after (λ r. r) compile_step c desk words room ≡ compiledFrom (compiling memory_size (task (form_on desk) (screen_on desk) (list_on desk) (words_on desk words)) room))
      × (stream_after compile_step desk words stream ≡ buffer_after memory_size (task (form_on desk) (screen_on desk) (list_on desk) (words_on desk words)) stream)
      × (compiled_after (λ r. r) older_step c desk words room ≡ compiledFrom (older_compiling (task (form_on desk) (screen_on desk) (list_on desk) (words_on desk words)) room))
      × (stream_after older_step desk words stream ≡ older_buffer (task (form_on desk) (screen_on desk) (list_on desk) (words_on desk words)) stream)
      × (compiled_after (λ r. r) play_step c desk words room ≡ c)
      × (stream_after play_step desk words stream ≡ stream)
  unfolding compiled_after stream_after
  compile_cases = (told_self _, refl, told_self _, refl, refl, refl)

  pub play_cases : (played_after (λ r. r) play_step p a stream memory ≡ playedFrom (playing memory_size (stream_on a stream) memory))
      × (memory_played play_step a stream memory ≡ played memory_size (stream_on a stream) memory)
      × (played_after (λ r. r) compile_step p a stream memory ≡ p)
      × (memory_played compile_step a stream memory ≡ memory)
  unfolding played_after memory_played
  play_cases = (told_self _, refl, refl, refl)
