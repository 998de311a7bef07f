use native.Mathlib.Nat.{le-pred_of_lt}
use Rattle.screen.proofs.Fits.{fields_say}
use Rattle.view.specs.Walk.{place_of}
use Rattle.view_code.proofs.place_of.Goals as goal

pub walk_to-requires : goal.walk_to-requires
walk_to-requires c = (le-pred_of_lt (fields_say c.args.values c.requires).window.start, le-pred_of_lt (fields_say c.args.values c.requires).window.offset)

pub returns-then-in_window : goal.returns-then-in_window
unfolding place_of
returns-then-in_window c = simp (simp (c.in_window.ensures, c.per_dword-k.ensures) at c.if-in_window.true, c.walk_to.ensures, c.minus-x.ensures, c.minus-y.ensures, c.corner_p.ensures, c.corner_q.ensures, c.per_dword-k.ensures)

pub walk_to-requires-2 : goal.walk_to-requires-2
walk_to-requires-2 c = (le-pred_of_lt (fields_say c.args.values c.requires).main.start, le-pred_of_lt (fields_say c.args.values c.requires).main.offset)

pub returns : goal.returns
unfolding place_of
returns c = simp (simp (c.in_window.ensures, c.per_dword-k.ensures) at c.if-in_window.false, c.walk_to-2.ensures, c.per_dword-k.ensures)
