use native.Mathlib.Omega.{arith}
use mathlib.Core.Path.{refl}
use lib.ListN.{length-set}
use Rattle.text.proofs.Stored.{put_none, put_start, put_turn, put_end}
use Rattle.text_code.proofs.put.Goals as goal

pub returns-then-text-at : goal.returns-then-text-at
returns-then-text-at c = put_none _ _ _ c.if-text-at.true

pub loop-i-init : goal.loop-i-init
loop-i-init c = let a = c.args in record { room = omega arith; most = omega arith; same = refl; rest = put_start a.text.now a.bytes.now a.at }

pub loop-i-preserved : goal.loop-i-preserved
loop-i-preserved c = let l = c.loop-i.invariant in record { room = l.room; most = l.most; same = simp length-set (omega arith); rest = put_turn _ _ _ _ _ _ _ l.most c.loop-i-test.true l.rest }

pub returns : goal.returns
returns c = let l = c.loop-i.invariant in put_end _ _ _ _ _ _ l.room l.same l.most c.loop-i-test.false l.rest
