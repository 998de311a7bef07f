-- How many records a stream's parts are.
use Prim.Native.Nat.{ℕ, suc, ◌+◌, ◌*◌, ◌≤◌}
use mathlib.Core.Path.{◌≡◌, refl, ap}
use mathlib.Core.List.{List, [], ◌∷◌}
use native.Mathlib.Omega.{arith}
use lib.ListN.{length, take, drop, length-append, length-drop}
use lib.Seq.{length-take-le}
use Rattle.screen.specs.declared.Screen.{Screen}
use Rattle.command.specs.Command.{command_of, words_taken}
use Rattle.command.specs.Values.{blit_registers, blit_values}
use Rattle.command.specs.Task.{all_words}
use Rattle.command.specs.declared.Command.{Command}
use Rattle.compiler.specs.Stream.{records_with, screen_records, data_records, command_records, draw_records, records_for}

pub length_screen : (s : Screen) → length (screen_records s) ≡ 6
unfolding screen_records records_with
length_screen s = refl

pub length_data : (words : List ℕ) → length (data_records words) ≡ length words
unfolding data_records
length_data [] = refl
length_data (w ∷ ws) = ap suc (length_data ws)

pub length_registers : (s : Screen) (c : Command) → length (records_with blit_registers (blit_values s c)) ≡ 9
unfolding records_with blit_values
length_registers s c = refl

pub length_command : (s : Screen) (c : Command) (words : List ℕ) → length (command_records s c words) ≡ 9 + length words
unfolding command_records
length_command s c words = rw (length-append, length_registers, length_data)

-- the records of commands that have their words
pub length_draw : (s : Screen) (words : List ℕ) (commands : List (List ℕ)) → all_words s commands ≤ length words → length (draw_records s words commands) ≡ 9 * length commands + all_words s commands
unfolding draw_records all_words
length_draw s words [] h = refl
length_draw s words (b ∷ bs) h =
    let n = words_taken s (command_of b) in
    let k : length (take n words) ≡ n = length-take-le n words (omega arith) in
    let r : all_words s bs ≤ length (drop n words) = rw length-drop (omega arith) in
    omega (arith, length-append (command_records s (command_of b) (take n words)) (draw_records s (drop n words) bs), length_command s (command_of b) (take n words), k, length_draw s (drop n words) bs r)

-- the whole stream
pub length_records : (s : Screen) (words : List ℕ) (commands : List (List ℕ)) → all_words s commands ≤ length words → length (records_for s commands words) ≡ 6 + 9 * length commands + all_words s commands
unfolding records_for
length_records s words commands h =
    omega (arith, length-append (screen_records s) (draw_records s words commands), length_screen s, length_draw s words commands h)
