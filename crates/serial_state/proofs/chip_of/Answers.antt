use borrow.Author.Rules.{rules}
use mathlib.Core.List.{List, [], ◌∷◌, map}
use Prim.Native.Nat.{ℕ}
use mir.Val.{WTs, vint, of_list}
use mir.Syntax.{w32}
use mathlib.Core.Path.{sym, subst}
use mathlib.Core.Bool.{not}
use lib.Dec.{eqb}
use Rattle.screen.specs.Narrow.{Narrow}
use Rattle.serial.specs.State.{chip_of}
use Rattle.serial.proofs.Ways.{narrow_given}
use Rattle.serial_state.proofs.chip_of.Goals as goal

-- what is known of an array of 32-bit numbers, as `narrow_given` takes it
words : (xs : List ℕ) → WTs (of_list (map (λ (x : ℕ). vint w32 x) xs)) → WTs (of_list (map (λ (x : ℕ). vint w32 x) (map (λ (x : ℕ). x) xs)))
words [] p = p
words (x ∷ xs) p = (p.0, words xs p.1)

pub returns : goal.returns
unfolding chip_of
returns c = let p = c.args.p in
    let e = c.values_given-screen.ensures in (
      (λ t. record { screen = e t; blit = p.blit; due = record { any = not (eqb p.due 0); line = p.line; word = p.word } }),
      subst Narrow (sym e) (narrow_given p.values (words p.values (search rules))),
    )
