use native.Mathlib.Omega.{arith}
use Rattle.wear.proofs.Fonts.{found_none, found_site, found_factory}
use Rattle.wear_glyph.proofs.find_glyph.Goals as goal

pub returns-then-factory-digit : goal.returns-then-factory-digit
returns-then-factory-digit c = found_none _ _ _ c.if-factory-digit.true

pub returns-then-at-site : goal.returns-then-at-site
returns-then-at-site c = found_site _ _ _ c.if-factory-digit.false (omega arith)

pub returns : goal.returns
returns c = found_factory _ _ _ c.if-factory-digit.false (omega arith)
