use mathlib.Core.Path.{◌≡◌}
use Prim.Native.Nat.{◌≤◌, ◌<◌, ◌^◌}
use lib.ListN.{length, drop}
use Rattle.text.specs.Numbers.{digits_behind, number_of}
use Rattle.text_lines.proofs.number_of.Given as goal

abbrev pub invariant-loop-c : goal.invariant-loop-c
invariant-loop-c l = record { digits : l.n < 10 ^ l.c-index; few : length l.text ≤ 9; rest : number_of l.text ≡ digits_behind l.n (drop l.c-index l.text) }
