use native.Mathlib.Omega.{arith}
use mathlib.Core.Path.{◌≡◌, refl, sym, ap, ◌∙◌}
use Rattle.std.specs.Prelude.{Result, Ok}
use Rattle.refusal.specs.declared.Refusal.{Refusal}
use Rattle.wear.specs.declared.Glyph.{Glyph}
use Rattle.wear.specs.Font.{Finding, finding_of}
use Rattle.wear.proofs.Fonts.{site_ends, factory_ends, site_part, factory_part, no_part, eight_bytes}
use Rattle.wear_glyph.proofs.glyph.Goals as goal

-- where an answer says that the glyph stands
found : {r : Result Glyph Refusal} {g x : Glyph} {f : Finding} → r ≡ Ok g → g ≡ x → finding_of r ≡ f → finding_of (Ok x) ≡ f
found e i h = ap finding_of (sym (e ∙ ap (λ (t : Glyph). Ok t) i)) ∙ h

pub overflow_add-result : goal.overflow_add-result
overflow_add-result c = omega (arith, site_ends _ _ _ _ (found c.in-Ok-Site.is (rw c.in-Ok-Site.is at c.in-Ok-Site.field-0-is) c.find_glyph-found.ensures))

pub slice_bounds-result-end : goal.slice_bounds-result-end
slice_bounds-result-end c = omega (arith, site_ends _ _ _ _ (found c.in-Ok-Site.is (rw c.in-Ok-Site.is at c.in-Ok-Site.field-0-is) c.find_glyph-found.ensures))

pub returns-in-Ok-Site : goal.returns-in-Ok-Site
returns-in-Ok-Site c = site_part _ _ _ _ _ (found c.in-Ok-Site.is (rw c.in-Ok-Site.is at c.in-Ok-Site.field-0-is) c.find_glyph-found.ensures) (eight_bytes _ _ _ refl refl)

pub overflow_add-result-in-Ok-Factory : goal.overflow_add-result-in-Ok-Factory
overflow_add-result-in-Ok-Factory c = omega (arith, factory_ends _ _ _ _ (found c.in-Ok-Factory.is (rw c.in-Ok-Factory.is at c.in-Ok-Factory.field-0-is) c.find_glyph-found.ensures))

pub slice_bounds-result-end-in-Ok-Factory : goal.slice_bounds-result-end-in-Ok-Factory
slice_bounds-result-end-in-Ok-Factory c = omega (arith, factory_ends _ _ _ _ (found c.in-Ok-Factory.is (rw c.in-Ok-Factory.is at c.in-Ok-Factory.field-0-is) c.find_glyph-found.ensures))

pub returns-in-Ok-Factory : goal.returns-in-Ok-Factory
returns-in-Ok-Factory c = factory_part _ _ _ _ _ (found c.in-Ok-Factory.is (rw c.in-Ok-Factory.is at c.in-Ok-Factory.field-0-is) c.find_glyph-found.ensures) (eight_bytes _ _ _ refl refl)

pub returns-in-Err : goal.returns-in-Err
returns-in-Err c = no_part _ _ _ _ _ (ap finding_of (sym c.in-Err.is) ∙ c.find_glyph-found.ensures) (record { place = refl; bytes = refl })
