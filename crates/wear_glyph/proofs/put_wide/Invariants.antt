use mathlib.Core.Path.{◌≡◌}
use Rattle.wear.specs.declared.Ask.{Ask}
use Rattle.wear.proofs.Rows.{Glyphing, colours}
use Rattle.wear_glyph.proofs.put_wide.Given as goal

abbrev pub invariant-loop-k : goal.invariant-loop-k
invariant-loop-k l = (a : Ask) → (a.depth ≡ 8 → ⊥) → l.p ≡ colours a → Glyphing a l.glyph l.at 64 l.initial.words l.words l.k
