use Rattle.strip_show.proofs.Made.{screen_refused, screen_accepted}
use mathlib.Core.Path.{sym, ◌∙◌}
use Rattle.strip_show.proofs.show_strip.Goals as goal

pub returns-in-Err : goal.returns-in-Err
returns-in-Err g c = let a = c.args in screen_refused a.ring a.a a.site.now a.screen.now a.memory.now _ (sym c.read_screen.ensures.value ∙ c.in-Err.is)

pub returns-in-Ok : goal.returns-in-Ok
returns-in-Ok g c = let a = c.args in screen_accepted a.ring a.a a.site.now a.screen.now a.memory.now _ (sym c.read_screen.ensures.value ∙ c.in-Ok.is) _ c.ask_for-ask.ensures _ c.show_asked.ensures
