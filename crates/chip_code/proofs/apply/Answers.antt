-- A write that starts nothing, and a start.
use mathlib.Core.Path.{◌≡◌, refl, sym, ap, ◌∙◌}
use mathlib.Core.Bool.{true}
use Rattle.screen.specs.Screen.{memory_size}
use Rattle.chip.specs.Start.{startable, within, started}
use Rattle.chip.specs.Admit.{starts}
use Rattle.chip.specs.declared.Registers.{Registers}
use Rattle.chip.proofs.Admits.{admits, start_effect, no_effect}
use Rattle.chip_code.proofs.apply.Goals as goal

pub returns-then-not-starts_blit : goal.returns-then-not-starts_blit
returns-then-not-starts_blit c = let a = c.args in
    no_effect a.c a.r a.memory.now _ c.requires.1 (sym c.starts_blit.ensures ∙ c.if-not-starts_blit.true) refl

pub start-requires : goal.start-requires
start-requires c = let a = c.args in
    let s : starts a.r ≡ true = sym c.starts_blit.ensures ∙ c.if-not-starts_blit.false in
    let ok = admits memory_size a.c a.r c.requires.0 in
    (ap startable c.blit_after-next.ensures ∙ ok.startable s, ap (within memory_size) c.blit_after-next.ensures ∙ ok.within s, c.requires.2)

pub returns : goal.returns
returns c = let a = c.args in
    let m = a.memory.now in
    start_effect a.c a.r m _ c.requires.1 (sym c.starts_blit.ensures ∙ c.if-not-starts_blit.false)
    (c.start.ensures ∙ ap (λ (b : Registers). started b m) c.blit_after-next.ensures)
