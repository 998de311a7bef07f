use mathlib.Core.Path.{◌≡◌}
use Prim.Native.Nat.{◌*◌, ◌≤◌}
use lib.ListN.{length, get_or}
use Rattle.text.proofs.Joined.{Filling}
use Rattle.picture.specs.Picture.{pixel_size, pixel_bytes}
use Rattle.picture_code.proofs.put_colours.Given as goal

abbrev pub invariant-loop-i : goal.invariant-loop-i
invariant-loop-i l =
    (l.size ≡ pixel_size l.depth) × ((l.size * l.n ≤ length l.initial.line) × Filling (λ p. pixel_bytes l.depth (get_or l.colours p 0)) l.n l.initial.line l.line l.i)
