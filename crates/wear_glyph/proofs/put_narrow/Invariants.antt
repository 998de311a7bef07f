use Prim.Native.Nat.{◌*◌}
use mathlib.Core.Path.{◌≡◌}
use Rattle.wear.specs.declared.Ask.{Ask}
use Rattle.wear.proofs.Rows.{Glyphing, pair_words}
use Rattle.wear_glyph.proofs.put_narrow.Given as goal

abbrev pub invariant-loop-j : goal.invariant-loop-j
invariant-loop-j l = (a : Ask) → a.depth ≡ 8 → l.p ≡ pair_words a → Glyphing a l.glyph l.at 32 l.initial.words l.words (4 * l.j)
