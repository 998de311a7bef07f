-- The steps' letters, and some verdicts, computed.
use Prim.Native.Nat.{ℕ}
use mathlib.Core.Path.{◌≡◌, refl}
use mathlib.Core.Bool.{Bool, true, false}
use mathlib.Core.List.{List, [], ◌∷◌, map}
use Rattle.std.specs.Prelude.{Ok, Err}
use Rattle.refusal.specs.Number as refusals
use Rattle.refusal.specs.declared.Refused.{Refused}
use Rattle.refusal.specs.declared.Refusal.TheVariants.{Rotation, WindowDwords, StreamLength}
use Rattle.compiler.specs.Compile.{compiling_of, compiling_by}
use Rattle.script.specs.Script.{number_at, scan_byte, scan_bytes, number_of}
use Rattle.script.specs.Steps.{example_step, store_step, compile_step, older_step, play_step}
use Rattle.script.specs.Verdict.{reg_step, records_step, point_step, same_step, done_step, is_answer, is_played, is_record, has_records, is_point, same_bytes, is_comment, holds, judged}
use Rattle.script.specs.declared.Tally.{Tally}

-- reg and a blank, reco, poin, same, done
pub letter_cases : map (λ l. number_at l 0) ((114 ∷ 101 ∷ 103 ∷ 32 ∷ []) ∷ (114 ∷ 101 ∷ 99 ∷ 111 ∷ []) ∷ (112 ∷ 111 ∷ 105 ∷ 110 ∷ []) ∷ (115 ∷ 97 ∷ 109 ∷ 101 ∷ []) ∷ (100 ∷ 111 ∷ 110 ∷ 101 ∷ []) ∷ [])
    ≡ reg_step ∷ records_step ∷ point_step ∷ same_step ∷ done_step ∷ []
unfolding number_at
letter_cases = refl

-- `reg     1 58h Ah 1Dh`
abbrev line : List ℕ
line = 114 ∷ 101 ∷ 103 ∷ 32 ∷ 32 ∷ 32 ∷ 32 ∷ 32 ∷ 49 ∷ 32 ∷ 53 ∷ 56 ∷ 104 ∷ 32 ∷ 65 ∷ 104 ∷ 32 ∷ 49 ∷ 68 ∷ 104 ∷ []

-- record 1 is register 58h at 1D000Ah
abbrev stream : List ℕ
stream = 0x54 ∷ 0 ∷ 0 ∷ 0 ∷ 9 ∷ 0 ∷ 0 ∷ 0 ∷ 0x58 ∷ 0 ∷ 0 ∷ 0 ∷ 0xA ∷ 0 ∷ 0x1D ∷ 0 ∷ []

-- so it is in a stream of two records, and is not in one of one record
pub record_cases : (is_record line (compiling_of (Ok (record { length = 16; depth = 8; rotation = 0; flag = 0 }))) stream ≡ true) × (is_record line (compiling_of (Ok (record { length = 8; depth = 8; rotation = 0; flag = 0 }))) stream ≡ false)
unfolding compiling_by number_at scan_byte scan_bytes number_of is_record
record_cases = (refl, refl)

pub same_cases : (same_bytes (1 ∷ 2 ∷ []) (1 ∷ 2 ∷ []) ≡ true)
    × (same_bytes (1 ∷ 2 ∷ []) (1 ∷ 3 ∷ []) ≡ false)
    × (same_bytes (1 ∷ []) (1 ∷ 2 ∷ []) ≡ false)
unfolding same_bytes
same_cases = (refl, refl, refl)

-- an empty line, one of a #, and one of a letter
pub comment_cases : map is_comment ([] ∷ (35 ∷ []) ∷ (97 ∷ []) ∷ []) ≡ true ∷ true ∷ false ∷ []
comment_cases = refl

abbrev tally : Bool → Bool → Tally
tally e a = record { example = e; all = a }

-- a line that differs is noted of its example and of all; the next example begins anew, and all does not
pub judged_cases : (judged store_step (tally true true) false ≡ tally false false)
    × (judged store_step (tally false false) true ≡ tally false false)
    × (judged example_step (tally false false) true ≡ tally true false)
unfolding judged
judged_cases = (refl, refl, refl)

-- `comp`, and 8 as its number: compiling refused with 8, at whatever place
abbrev eight : List ℕ
eight = 99 ∷ 111 ∷ 109 ∷ 112 ∷ 32 ∷ 32 ∷ 32 ∷ 32 ∷ 56 ∷ []

pub answer_cases : (is_answer eight (compiling_of (Err (record { refusal = WindowDwords; place = 3 }))) ≡ true) × (is_answer eight (compiling_of (Err (record { refusal = Rotation; place = 8 }))) ≡ false) × (is_answer eight (compiling_of (Ok (record { length = 64; depth = 8; rotation = 0; flag = 0 }))) ≡ false)
unfolding refusals.number compiling_by scan_byte scan_bytes number_of
answer_cases = (refl, refl, refl)

-- eight records are 64 bytes
pub records_cases : (has_records eight (compiling_of (Ok (record { length = 64; depth = 8; rotation = 0; flag = 0 }))) ≡ true) × (has_records eight (compiling_of (Ok (record { length = 8; depth = 8; rotation = 0; flag = 0 }))) ≡ false)
unfolding compiling_by scan_byte scan_bytes number_of
records_cases = (refl, refl)

-- the verdict on a line, with compiling accepted and playing refused, and two memories that differ
abbrev verdict : ℕ → List ℕ → Bool
verdict k l = holds {E = Refused} k l (compiling_of (Ok (record { length = 64; depth = 8; rotation = 0; flag = 0 }))) (Err (record { refusal = StreamLength; place = 0 })) [] [] (1 ∷ []) (2 ∷ [])

-- `older`, without a number
abbrev bare : List ℕ
bare = 111 ∷ 108 ∷ 100 ∷ 101 ∷ 114 ∷ []

-- compiling that was accepted, at either of its steps: its number is 0, and not 8
pub compiled_cases : verdict compile_step eight ∷ verdict older_step eight ∷ verdict compile_step bare ∷ verdict older_step bare ∷ [] ≡ false ∷ false ∷ true ∷ true ∷ []
unfolding compiling_by scan_byte scan_bytes number_of holds
compiled_cases = refl

-- playing that was refused does not hold, nor a line that is no step; a step that sets, and a comment, do
pub verdict_cases : verdict play_step [] ∷ verdict same_step [] ∷ verdict point_step eight ∷ verdict 0 eight ∷ verdict store_step eight ∷ verdict done_step eight ∷ verdict 0 (35 ∷ []) ∷ []
    ≡ false ∷ false ∷ false ∷ false ∷ true ∷ true ∷ true ∷ []
unfolding is_played is_point same_bytes holds
verdict_cases = refl
