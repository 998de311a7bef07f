use Rattle.older.specs.Bytes.{older_values}
use native.Mathlib.Omega.{arith}
use Rattle.older_code.proofs.values_from.Goals as goal

pub returns : goal.returns
unfolding older_values
returns c = record {
  value = simp (c.u24_at.ensures, c.u24_at-2.ensures, c.u16_at.ensures, c.u16_at-2.ensures, c.u16_at-x.ensures, c.u16_at-y.ensures, c.u16_at-x_end.ensures, c.u16_at-y_end.ensures);
  narrow = record {
    main_start = omega arith;
    main_offset = omega arith;
    window_start = omega arith;
    window_offset = omega arith;
    x = omega arith;
    y = omega arith;
  };
}
