use Rattle.strip_show.proofs.Made.{list_front, words_front, drawn, not_drawn}
use Rattle.strip_show.specs.Drawn.{strip_made}
use Rattle.wear.specs.Strip.{strip_for}
use mathlib.Core.Path.{sym, ap, ◌∙◌}
use mathlib.Core.List.{List}
use Prim.Native.Nat.{ℕ}
use lib.Seq.{length-take-le}
use Rattle.strip_show.proofs.show_asked.Goals as goal

pub slice_bounds-list-end : goal.slice_bounds-list-end
slice_bounds-list-end g c = let e = c.wear_strip-made.ensures in (list_front _ _ _ _ e.result_value _ c.in-Ok.is _ e.list_after).within

pub slice_bounds-run-end : goal.slice_bounds-run-end
slice_bounds-run-end g c = let e = c.wear_strip-made.ensures in sym (length-take-le _ _ (list_front _ _ _ _ e.result_value _ c.in-Ok.is _ e.list_after).within)

pub slice_bounds-words-end : goal.slice_bounds-words-end
slice_bounds-words-end g c = let e = c.wear_strip-made.ensures in (words_front _ _ _ _ e.result_value _ c.in-Ok.is _ e.words_after).within

pub slice_bounds-run-end-in-Ok : goal.slice_bounds-run-end-in-Ok
slice_bounds-run-end-in-Ok g c = let e = c.wear_strip-made.ensures in sym (length-take-le _ _ (words_front _ _ _ _ e.result_value _ c.in-Ok.is _ e.words_after).within)

pub returns-in-Err : goal.returns-in-Err
returns-in-Err g c = let e = c.wear_strip-made.ensures in let a = c.args in not_drawn (strip_for a.ring a.ask a.site.now c.factory_font-factory.result) c.list_room-list.result c.word_room-words.result _ e.result_value (sym c.list_room-list.ensures.value) (sym c.word_room-words.ensures.value) _ e.value c.in-Err.is a.screen.now a.memory.now ∙ ap (λ (f : List ℕ). strip_made (strip_for a.ring a.ask a.site.now f) a.screen.now a.memory.now) c.factory_font-factory.ensures

pub returns-in-Ok : goal.returns-in-Ok
returns-in-Ok g c = let e = c.wear_strip-made.ensures in let a = c.args in drawn _ _ _ _ e.result_value _ c.in-Ok.is (sym c.list_room-list.ensures.value) (sym c.word_room-words.ensures.value) _ _ a.screen.now a.memory.now _ e.list_after e.words_after c.run.ensures ∙ ap (λ (f : List ℕ). strip_made (strip_for a.ring a.ask a.site.now f) a.screen.now a.memory.now) c.factory_font-factory.ensures
