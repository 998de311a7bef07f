-- Turning is decided by its table, and a refusal writes nothing.
use Prim.Native.Nat.{ℕ}
use mathlib.Core.Path.{refl, sym}
use mathlib.Core.List.{List}
use lib.Dec.{lit<}
use lib.ListN.{length}
use Rattle.record.specs.Checks.{Numbered}
use Rattle.record.proofs.Checks.{Placeless, placeless}
use Rattle.unit.proofs.Tables.{decided}
use Rattle.unit.proofs.Demands.{kept}
use Rattle.form.specs.Turn.{turn_rows, turning, turned_into}
use Rattle.form.specs.Claims.{TurnDecided}

module _ (from to : ℕ) (list : List ℕ) (room : ℕ) where
  pub turn_numbered : Numbered (turn_rows from to list room)
  unfolding Numbered turn_rows
  turn_numbered = (lit< tt, (lit< tt, (lit< tt, tt)))

  turn_placeless : Placeless (turn_rows from to list room)
  unfolding Placeless turn_rows
  turn_placeless = (refl, (refl, (refl, tt)))

pub turn_decided : TurnDecided
unfolding turning turned_into
turn_decided =
    record {
      turned = λ from to list room. decided refl (sym (placeless (turn_rows from to list room) (turn_placeless from to list room))) (turn_numbered from to list room);
      kept = λ from to list target h. kept (turning from to list (length target)).number _ _ h;
    }
