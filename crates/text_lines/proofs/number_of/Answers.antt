use Rattle.text.proofs.Numbers.{no_letters, too_long, number_start, digit_turn, no_digit, digit_range, number_end, more_digits, few_digits}
use Rattle.text.specs.Numbers.{is_digit, digits_behind}
use native.Mathlib.Omega.{arith}
use mathlib.Core.Bool.{true}
use mathlib.Core.Path.{◌≡◌, refl, sym, ap, ◌∙◌}
use Prim.Native.Nat.{ℕ, ◌+◌, ◌*◌}
use lib.ListN.{get_or, drop}
use Rattle.text_lines.proofs.number_of.Goals as goal
use Rattle.text_lines.proofs.number_of.Goals.{then-is_empty-via-then-is_empty, then-is_empty-via-else-is_empty+then-text-gt9}

pub returns-then-is_empty : goal.returns-then-is_empty
returns-then-is_empty c = elim c.then-is_empty.branch [ then-is_empty-via-then-is_empty w ↦ no_letters _ (sym c.is_empty.ensures ∙ w.if-is_empty.true) | then-is_empty-via-else-is_empty+then-text-gt9 w ↦ too_long _ w.if-text-gt9.true ]

pub loop-c-init : goal.loop-c-init
loop-c-init c = record { digits = omega arith; few = omega arith; rest = number_start _ (sym c.is_empty.ensures ∙ c.if-is_empty.false) c.if-text-gt9.false }

pub returns-then-not-is_ascii_digit : goal.returns-then-not-is_ascii_digit
returns-then-not-is_ascii_digit c = let l = c.loop-c in sym (l.invariant.rest ∙ no_digit _ (get_or c.args.text.now l.c-index 0) l.n l.c-index refl c.loop-c-test.true (sym c.is_ascii_digit.ensures.value ∙ c.if-not-is_ascii_digit.true))

pub overflow_mul-n : goal.overflow_mul-n
overflow_mul-n c = let l = c.loop-c in omega (arith, few_digits l.n l.c-index l.invariant.digits (omega arith))

pub overflow_add-n : goal.overflow_add-n
overflow_add-n c = let l = c.loop-c in
    let d = digit_range (get_or c.args.text.now l.c-index 0) (sym c.is_ascii_digit.ensures.value ∙ c.if-not-is_ascii_digit.false) in
    omega (arith, few_digits l.n l.c-index l.invariant.digits (omega arith))

pub loop-c-preserved : goal.loop-c-preserved
loop-c-preserved c = let l = c.loop-c in
    let v = get_or c.args.text.now l.c-index 0 in
    let e : is_digit v ≡ true = sym c.is_ascii_digit.ensures.value ∙ c.if-not-is_ascii_digit.false in
    let d = digit_range v e in
    record {
      digits = more_digits l.n c.from.result l.c-index l.invariant.digits (omega arith);
      few = l.invariant.few;
      rest = l.invariant.rest ∙ digit_turn _ v l.n l.c-index refl c.loop-c-test.true e ∙ ap (λ (x : ℕ). digits_behind (10 * l.n + x) (drop (l.c-index + 1) c.args.text.now)) (sym c.from.ensures);
    }

pub returns : goal.returns
returns c = let l = c.loop-c in sym (l.invariant.rest ∙ number_end _ l.n l.c-index c.loop-c-test.false)
