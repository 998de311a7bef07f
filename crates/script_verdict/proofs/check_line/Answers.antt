use Rattle.std.proofs.Common.{arith, ◌≢◌}
use mathlib.Core.Path.{sym}
use mathlib.Core.Bool.{◌||◌}
use mathlib.Core.Logic.{⊎_elim}
use Rattle.record.proofs.Choice.{no, or_go}
use borrow.Author.Tests.{ne_eqb}
use Rattle.script.specs.Verdict.{holds}
use Rattle.script_verdict.proofs.check_line.Goals as goal

pub returns-in-1886220131 : goal.returns-in-1886220131
unfolding holds
returns-in-1886220131 g c = ⊎_elim (λ e. rw e c.is_answer.ensures) (λ e. rw e c.is_answer.ensures) c.in-1886220131.is

pub returns-in-2036427888 : goal.returns-in-2036427888
unfolding holds
returns-in-2036427888 g c = rw c.in-2036427888.is c.is_played.ensures

pub returns-in-543647090 : goal.returns-in-543647090
unfolding holds
returns-in-543647090 g c = rw c.in-543647090.is c.is_record.ensures

pub returns-in-1868785010 : goal.returns-in-1868785010
unfolding holds
returns-in-1868785010 g c = rw c.in-1868785010.is c.has_records.ensures

pub returns-in-1852403568 : goal.returns-in-1852403568
unfolding holds
returns-in-1852403568 g c = rw c.in-1852403568.is c.is_point.ensures

pub returns-in-1701667187 : goal.returns-in-1701667187
unfolding holds
returns-in-1701667187 g c = rw c.in-1701667187.is c.is_same.ensures

pub returns-in_default : goal.returns-in_default
unfolding holds
returns-in_default g c =
    let compile : c.args.k ≢ 1886220131 = grind arith in
    let older : c.args.k ≢ 1701080175 = grind arith in
    let play : c.args.k ≢ 2036427888 = omega arith in
    let reg : c.args.k ≢ 543647090 = omega arith in
    let records : c.args.k ≢ 1868785010 = omega arith in
    let point : c.args.k ≢ 1852403568 = omega arith in
    let same : c.args.k ≢ 1701667187 = omega arith in
    no _ (sym (or_go (ne_eqb _ _ compile) (sym (ne_eqb _ _ older))))
    (no _ (ne_eqb _ _ play)
    (no _ (ne_eqb _ _ reg)
    (no _ (ne_eqb _ _ records)
    (no _ (ne_eqb _ _ point) (no _ (ne_eqb _ _ same) (λ t. c.is_setting.ensures t || c.is_comment.ensures t))))))
