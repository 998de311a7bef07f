use mathlib.Core.Path.{refl}
use Rattle.picture.proofs.Line.{columns_length, buffer_length, points_stored}
use Rattle.picture_code.proofs.put_points.Goals as goal

pub slice_bounds-read_line-end : goal.slice_bounds-read_line-end
slice_bounds-read_line-end c = columns_length 1024 _ _ c.min-n.ensures

pub slice_bounds-put_colours-end : goal.slice_bounds-put_colours-end
slice_bounds-put_colours-end c = buffer_length 1024 c.min-n.result c.read_line.new.line c.read_line.auto.line

pub returns : goal.returns
returns c =
    let a = c.args in
    let stored = c.put_colours.ensures in
    record {
      value = stored.value;
      prefix_len = stored.prefix_len;
      line_after = points_stored
          a.d
          a.values
          a.q
          a.memory.now
          1024
          c.min-n.result
          c.read_line.new.line
          refl
          c.min-n.ensures
          c.read_line.ensures.line_after
          a.line.now
          c.put_colours.new.line
          _
          stored.line_after;
    }
