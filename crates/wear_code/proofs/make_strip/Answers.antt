use mathlib.Core.Bool.{not}
use native.Mathlib.Omega.{arith}
use mathlib.Core.Path.{refl, ap}
use Prim.Native.Nat.{◌+◌, ◌*◌}
use lib.ListN.{length}
use lib.Seq.{length-sets}
use Rattle.wear.specs.Strip.{strip_with, columns, list_bytes}
use Rattle.wear.proofs.Lists.{asked, asked_font, count_most, words_most, strip_length, strip_far, strip_short, strip_made_lem, columns_near, writes_near, list_room, word_room, whole_strip, refused_strip}
use Rattle.refusal.specs.Number.{number}
use Rattle.refusal.specs.declared.Refusal.TheVariants.{Room, WearRange}
use Rattle.wear_code.proofs.make_strip.Goals as goal

pub columns_reach-requires : goal.columns_reach-requires
columns_reach-requires c = record { checked = asked _ _ c.requires.factory_value; drawable = c.requires.drawable }

pub overflow_add-bytes : goal.overflow_add-bytes
overflow_add-bytes c = omega (arith, c.column_commands.ensures, count_most c.args.heights.now, c.requires.drawable.count, c.requires.digits_len_bound)

pub overflow_mul-bytes : goal.overflow_mul-bytes
overflow_mul-bytes c = omega (arith, c.column_commands.ensures, count_most c.args.heights.now, c.requires.drawable.count, c.requires.digits_len_bound)

pub overflow_mul-count : goal.overflow_mul-count
overflow_mul-count c = omega (arith, words_most (length c.args.digits.now) c.args.a.depth c.words_per_glyph.result c.requires.digits_len_bound c.words_per_glyph.ensures)

pub returns-then-not-reach : goal.returns-then-not-reach
unfolding number
returns-then-not-reach c = let a = c.args in let told = refused_strip (strip_with a.a a.heights.now a.digits.now a.site.now a.factory.now) a.list.now a.words.now WearRange (strip_far a.a a.heights.now a.digits.now a.site.now a.factory.now (length a.list.now) (length a.words.now) c.requires.factory_value _ _ _ (ap (λ n. 32 * (n + length a.digits.now)) c.column_commands.ensures) c.words_per_glyph.ensures refl _ _ c.columns_reach.ensures c.writes_reach.ensures (ap not c.if-not-reach.true)) in record { result_value = told.0; list_after = told.1.0; words_after = told.1.1 }

pub returns-then-short : goal.returns-then-short
unfolding number
returns-then-short c = let a = c.args in let told = refused_strip (strip_with a.a a.heights.now a.digits.now a.site.now a.factory.now) a.list.now a.words.now Room (strip_short a.a a.heights.now a.digits.now a.site.now a.factory.now (length a.list.now) (length a.words.now) c.requires.factory_value _ _ _ (ap (λ n. 32 * (n + length a.digits.now)) c.column_commands.ensures) c.words_per_glyph.ensures refl _ _ c.columns_reach.ensures c.writes_reach.ensures (ap not c.if-not-reach.false) c.if-short.true) in record { result_value = told.0; list_after = told.1.0; words_after = told.1.1 }

pub put_columns-at-requires : goal.put_columns-at-requires
put_columns-at-requires c = let a = c.args in record { checked = asked _ _ c.requires.factory_value; drawable = c.requires.drawable; heights_value = columns_near a.a a.heights.now a.digits.now a.site.now a.factory.now (length a.list.now) (length a.words.now) c.requires.factory_value _ _ _ (ap (λ n. 32 * (n + length a.digits.now)) c.column_commands.ensures) c.words_per_glyph.ensures refl _ _ c.columns_reach.ensures c.writes_reach.ensures (ap not c.if-not-reach.false); heights_in_bounds = omega (arith, strip_length a.a a.heights.now a.digits.now a.site.now a.factory.now, list_room a.a a.heights.now a.digits.now a.site.now a.factory.now (length a.list.now) (length a.words.now) c.requires.factory_value _ _ _ (ap (λ n. 32 * (n + length a.digits.now)) c.column_commands.ensures) c.words_per_glyph.ensures refl c.if-short.false) }

pub put_writes-requires : goal.put_writes-requires
put_writes-requires c = let a = c.args in record { digits_len_bound = c.requires.digits_len_bound; digits_value = writes_near a.a a.heights.now a.digits.now a.site.now a.factory.now (length a.list.now) (length a.words.now) c.requires.factory_value _ _ _ (ap (λ n. 32 * (n + length a.digits.now)) c.column_commands.ensures) c.words_per_glyph.ensures refl _ _ c.columns_reach.ensures c.writes_reach.ensures (ap not c.if-not-reach.false); digits_in_bounds = omega (arith, strip_length a.a a.heights.now a.digits.now a.site.now a.factory.now, list_room a.a a.heights.now a.digits.now a.site.now a.factory.now (length a.list.now) (length a.words.now) c.requires.factory_value _ _ _ (ap (λ n. 32 * (n + length a.digits.now)) c.column_commands.ensures) c.words_per_glyph.ensures refl c.if-short.false, c.put_columns-at.ensures.value, ap (λ l. length l) c.put_columns-at.ensures.list_after, length-sets a.list.now 0 (list_bytes (columns a.a 0 a.heights.now))) }

pub put_digits-requires : goal.put_digits-requires
put_digits-requires c = let a = c.args in record { checked = asked _ _ c.requires.factory_value; in_bounds = asked_font _ _ c.requires.factory_value; all_below = c.requires.all_below; digits_in_bounds = word_room a.a a.heights.now a.digits.now a.site.now a.factory.now (length a.list.now) (length a.words.now) c.requires.factory_value _ _ _ (ap (λ n. 32 * (n + length a.digits.now)) c.column_commands.ensures) c.words_per_glyph.ensures refl c.if-short.false }

pub returns : goal.returns
returns c = let a = c.args in let told = whole_strip a.a a.heights.now a.digits.now a.site.now a.factory.now a.list.now a.words.now _ _ _ _ _ _ _ (strip_made_lem a.a a.heights.now a.digits.now a.site.now a.factory.now (length a.list.now) (length a.words.now) c.requires.factory_value _ _ _ (ap (λ n. 32 * (n + length a.digits.now)) c.column_commands.ensures) c.words_per_glyph.ensures refl _ _ c.columns_reach.ensures c.writes_reach.ensures (ap not c.if-not-reach.false) c.if-short.false) (ap (λ n. 32 * (n + length a.digits.now)) c.column_commands.ensures) c.words_per_glyph.ensures refl (list_room a.a a.heights.now a.digits.now a.site.now a.factory.now (length a.list.now) (length a.words.now) c.requires.factory_value _ _ _ (ap (λ n. 32 * (n + length a.digits.now)) c.column_commands.ensures) c.words_per_glyph.ensures refl c.if-short.false) (word_room a.a a.heights.now a.digits.now a.site.now a.factory.now (length a.list.now) (length a.words.now) c.requires.factory_value _ _ _ (ap (λ n. 32 * (n + length a.digits.now)) c.column_commands.ensures) c.words_per_glyph.ensures refl c.if-short.false) c.put_columns-at.ensures.list_after c.put_columns-at.ensures.value c.put_writes.ensures c.put_digits.ensures in record { result_value = told.0; list_after = told.1.0; words_after = told.1.1 }
