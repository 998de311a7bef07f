-- What the first pass over the commands finds. Only contracts of this crate cite it.
use Rattle.std.specs.Prelude.{ℕ, List, Result}
use Rattle.refusal.specs.Number.{answered_at}
use Rattle.refusal.specs.declared.Refused.{Refused}
use Rattle.screen.specs.declared.Screen.{Screen}
use Rattle.command.specs.Task.{first_refusal, all_words}

-- the first refusal of 12 to 15 and 29, or the host words that the commands take
unfoldable pub pass_of : ℕ → Screen → ℕ → List (List ℕ) → Result ℕ Refused
pass_of m s left commands =
    let f = first_refusal m s 0 left commands in
    answered_at f.number f.place (all_words s commands)
