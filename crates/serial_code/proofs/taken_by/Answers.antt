use mathlib.Core.Path.{refl}
use native.Mathlib.Omega.{arith}
use borrow.Author.Tests.{ne_eqb}
use Rattle.refusal.specs.Number.{number, number_at, place_at}
use Rattle.refusal.proofs.Numbers.{number_positive}
use Rattle.chip.specs.Play.{running_of}
use Rattle.serial_code.proofs.taken_by.Goals as goal

pub returns-in-Some : goal.returns-in-Some
unfolding running_of number_at place_at
returns-in-Some c =
    let e = c.in-Some.refused in
    let p = number_positive e.refusal in
    rw (c.in-Some.is, ne_eqb (number e.refusal) 0 (λ z. omega (arith, p, z))) refl
