-- What `default` gives where no data is due.
use mathlib.Core.Path.{◌≡◌}
use mathlib.Core.Bool.{false}
use Rattle.chip.specs.Admit.{no_data}
use Rattle.chip.specs.declared.Due.{Due}

pub none_due : (d : Due) → (d.any ≡ false) × ((d.line ≡ 0) × (d.word ≡ 0)) → d ≡ no_data
none_due d e = λ t. record { any = e.0 t; line = e.1.0 t; word = e.1.1 t }
