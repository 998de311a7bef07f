use native.Mathlib.Omega.{arith}
use mathlib.Core.Path.{sym, ap, subst, ◌∙◌}
use Rattle.std.specs.Prelude.{Err}
use Rattle.std.proofs.lemmas.Result.{err_from_is_err_and}
use mathlib.Core.List.{List}
use lib.ListN.{length, get_or}
use lib.Seq.{length-take-le}
use Prim.Native.Nat.{ℕ, ◌<◌, ◌≤◌}
use Rattle.ring.specs.Kept.{ring_in}
use Rattle.wear.specs.Limits.{Drawable}
use Rattle.wear.specs.Strip.{strip_for}
use Rattle.wear.proofs.Lists.{asked_hours, ring_drawable, digits_drawable, digits_few, strip_of}
use Rattle.refusal.specs.declared.Refusal.{Refusal}
use Rattle.wear_code.proofs.Asked.{passed, refused}
use Rattle.wear_code.proofs.strip_in.Goals as goal

pub returns-in_err-check_ask : goal.returns-in_err-check_ask
returns-in_err-check_ask c =
    let a = c.args in
    let k = err_from_is_err_and c.from_residual.result c.from_residual.ensures.1 in
    let told = refused (strip_for (ring_in a.cells.now) a.a a.site.now a.factory.now) a.list.now a.words.now _ c.in_err-check_ask.field-0.0 _ c.check_ask.ensures c.in_err-check_ask.was (k.1 ∙ ap (λ (r : Refusal). Err r) k.2) in
    record { result_value = told.numbers; value = told.answer; list_after = told.list_kept; words_after = told.words_kept }

pub heights_in-told-requires : goal.heights_in-told-requires
heights_in-told-requires c = (asked_hours _ _ (passed c.check_ask.ensures c.in_ok-check_ask.was)).1

pub slice_bounds-told-end : goal.slice_bounds-told-end
slice_bounds-told-end c = omega (arith, c.heights_in-told.ensures.result_len, (asked_hours _ _ (passed c.check_ask.ensures c.in_ok-check_ask.was)).1)

pub slice_bounds-make_strip-end : goal.slice_bounds-make_strip-end
slice_bounds-make_strip-end c =
    sym (length-take-le _ _ (omega (arith, c.heights_in-told.ensures.result_len, (asked_hours _ _ (passed c.check_ask.ensures c.in_ok-check_ask.was)).1)))

pub make_strip-requires : goal.make_strip-requires
make_strip-requires c = record { factory_value = passed c.check_ask.ensures c.in_ok-check_ask.was; drawable = subst Drawable (sym c.heights_in-told.ensures.result_value) (ring_drawable _ _ (asked_hours _ _ (passed c.check_ask.ensures c.in_ok-check_ask.was)).1); all_below = subst (λ (l : List ℕ). (k : ℕ) → get_or l k 0 < 10) (sym c.digits_in-d.ensures.digits_value) (digits_drawable (get_or c.args.cells.now 0 0) (get_or c.args.cells.now 1 0)); digits_len_bound = subst (λ (l : List ℕ). length l ≤ 5) (sym c.digits_in-d.ensures.digits_value) (digits_few (get_or c.args.cells.now 0 0) (get_or c.args.cells.now 1 0)) }

pub returns : goal.returns
returns c = let a = c.args in let told = strip_of (ring_in a.cells.now) a.a a.site.now a.factory.now a.list.now a.words.now _ _ c.heights_in-told.ensures.result_value c.digits_in-d.ensures.digits_value (asked_hours _ _ (passed c.check_ask.ensures c.in_ok-check_ask.was)).0 _ _ _ (c.make_strip.ensures.result_value, (c.make_strip.ensures.list_after, c.make_strip.ensures.words_after)) in record { result_value = told.0; value = told.1.0; list_after = told.1.1.0; words_after = told.1.1.1 }
