use Prim.Native.Nat.{◌<◌}
use mathlib.Core.Path.{ap, ◌∙◌}
use native.Mathlib.Omega.{arith}
use native.Mathlib.Nat.{zero-mul}
use lib.ListN.{length}
use Rattle.std.specs.Slice.Iter.{chunks_exact_rest}
use Rattle.std.proofs.lemmas.List.{length_push}
use Rattle.command.specs.Task.{is_form}
use Rattle.command.specs.Command.{command_of}
use Rattle.command.proofs.Forms.{form_least}
use Rattle.compiler.proofs.SecondPass.{writing_start, writing_step, writing_end, words_there, room_there, part_length}
use Rattle.compiler_pass.proofs.Parts.{cut, cut_end}
use Rattle.compiler_pass.proofs.second_pass.Goals as goal

pub loop-part-init : goal.loop-part-init
loop-part-init c = record {
  writing = writing_start _ _ _ _ _ _ c.requires.list_value c.requires.list_in_bounds;
  size = cc;
  left = rw zero-mul (cc);
}

pub command_of-c-requires : goal.command_of-c-requires
command_of-c-requires c = let a = c.args in
    let l = c.loop-part in
    let i = length l.yielded in
    let some : 0 < a.form = omega (arith, form_least a.form c.requires.form_value) in
    let step = c.in-Some.ensures.steps in
    let t = cut a.form a.list.now some (chunks_exact_rest l.part-iterator) i l.invariant.left c.in-Some.part.now (chunks_exact_rest c.next.new.self) step.1.0 (step.1.1 ∙ l.invariant.size) in
    ap is_form (step.1.1 ∙ l.invariant.size) ∙ c.requires.form_value

pub overflow_add-end : goal.overflow_add-end
overflow_add-end c = let a = c.args in
    let l = c.loop-part in
    let i = length l.yielded in
    let some : 0 < a.form = omega (arith, form_least a.form c.requires.form_value) in
    let step = c.in-Some.ensures.steps in
    let t = cut a.form a.list.now some (chunks_exact_rest l.part-iterator) i l.invariant.left c.in-Some.part.now (chunks_exact_rest c.next.new.self) step.1.0 (step.1.1 ∙ l.invariant.size) in
    let e = c.command_of-c.ensures ∙ ap command_of t.part_is in
    omega (arith, words_there _ _ _ _ _ _ l.buffer _ i l.used l.at l.invariant.writing _ t.more e, c.words_taken-n.ensures, c.well_formed)

pub offset_bounds-words-used : goal.offset_bounds-words-used
offset_bounds-words-used c = let a = c.args in
    let l = c.loop-part in
    let i = length l.yielded in
    let some : 0 < a.form = omega (arith, form_least a.form c.requires.form_value) in
    let step = c.in-Some.ensures.steps in
    let t = cut a.form a.list.now some (chunks_exact_rest l.part-iterator) i l.invariant.left c.in-Some.part.now (chunks_exact_rest c.next.new.self) step.1.0 (step.1.1 ∙ l.invariant.size) in
    let e = c.command_of-c.ensures ∙ ap command_of t.part_is in
    omega (arith, words_there _ _ _ _ _ _ l.buffer _ i l.used l.at l.invariant.writing _ t.more e, c.well_formed)

pub slice_bounds-put_command-end : goal.slice_bounds-put_command-end
slice_bounds-put_command-end c = let a = c.args in
    let l = c.loop-part in
    let i = length l.yielded in
    let some : 0 < a.form = omega (arith, form_least a.form c.requires.form_value) in
    let step = c.in-Some.ensures.steps in
    let t = cut a.form a.list.now some (chunks_exact_rest l.part-iterator) i l.invariant.left c.in-Some.part.now (chunks_exact_rest c.next.new.self) step.1.0 (step.1.1 ∙ l.invariant.size) in
    let e = c.command_of-c.ensures ∙ ap command_of t.part_is in
    omega (arith, words_there _ _ _ _ _ _ l.buffer _ i l.used l.at l.invariant.writing _ t.more e, c.words_taken-n.ensures)

pub put_command-requires : goal.put_command-requires
put_command-requires c = let a = c.args in
    let l = c.loop-part in
    let i = length l.yielded in
    let some : 0 < a.form = omega (arith, form_least a.form c.requires.form_value) in
    let step = c.in-Some.ensures.steps in
    let t = cut a.form a.list.now some (chunks_exact_rest l.part-iterator) i l.invariant.left c.in-Some.part.now (chunks_exact_rest c.next.new.self) step.1.0 (step.1.1 ∙ l.invariant.size) in
    let e = c.command_of-c.ensures ∙ ap command_of t.part_is in
    let n = c.words_taken-n in
    omega (arith, room_there _ _ _ _ _ _ l.buffer _ i l.used l.at l.invariant.writing _ t.more e, n.ensures, part_length _ _ _ _ _ _ l.buffer _ i l.used l.at l.invariant.writing _ t.more e n.result n.ensures)

pub overflow_add-at : goal.overflow_add-at
overflow_add-at c = let a = c.args in
    let l = c.loop-part in
    let i = length l.yielded in
    let some : 0 < a.form = omega (arith, form_least a.form c.requires.form_value) in
    let step = c.in-Some.ensures.steps in
    let t = cut a.form a.list.now some (chunks_exact_rest l.part-iterator) i l.invariant.left c.in-Some.part.now (chunks_exact_rest c.next.new.self) step.1.0 (step.1.1 ∙ l.invariant.size) in
    let e = c.command_of-c.ensures ∙ ap command_of t.part_is in
    omega (arith, room_there _ _ _ _ _ _ l.buffer _ i l.used l.at l.invariant.writing _ t.more e, c.words_taken-n.ensures, l.invariant.writing.same, c.well_formed)

pub overflow_mul-at : goal.overflow_mul-at
overflow_mul-at c = let a = c.args in
    let l = c.loop-part in
    let i = length l.yielded in
    let some : 0 < a.form = omega (arith, form_least a.form c.requires.form_value) in
    let step = c.in-Some.ensures.steps in
    let t = cut a.form a.list.now some (chunks_exact_rest l.part-iterator) i l.invariant.left c.in-Some.part.now (chunks_exact_rest c.next.new.self) step.1.0 (step.1.1 ∙ l.invariant.size) in
    let e = c.command_of-c.ensures ∙ ap command_of t.part_is in
    omega (arith, room_there _ _ _ _ _ _ l.buffer _ i l.used l.at l.invariant.writing _ t.more e, c.words_taken-n.ensures, l.invariant.writing.same, c.well_formed)

pub overflow_add-at-in-loop-part : goal.overflow_add-at-in-loop-part
overflow_add-at-in-loop-part c = let a = c.args in
    let l = c.loop-part in
    let i = length l.yielded in
    let some : 0 < a.form = omega (arith, form_least a.form c.requires.form_value) in
    let step = c.in-Some.ensures.steps in
    let t = cut a.form a.list.now some (chunks_exact_rest l.part-iterator) i l.invariant.left c.in-Some.part.now (chunks_exact_rest c.next.new.self) step.1.0 (step.1.1 ∙ l.invariant.size) in
    let e = c.command_of-c.ensures ∙ ap command_of t.part_is in
    omega (arith, room_there _ _ _ _ _ _ l.buffer _ i l.used l.at l.invariant.writing _ t.more e, c.words_taken-n.ensures, l.invariant.writing.same, c.well_formed)

pub loop-part-preserved : goal.loop-part-preserved
loop-part-preserved c = let a = c.args in
    let l = c.loop-part in
    let i = length l.yielded in
    let some : 0 < a.form = omega (arith, form_least a.form c.requires.form_value) in
    let step = c.in-Some.ensures.steps in
    let t = cut a.form a.list.now some (chunks_exact_rest l.part-iterator) i l.invariant.left c.in-Some.part.now (chunks_exact_rest c.next.new.self) step.1.0 (step.1.1 ∙ l.invariant.size) in
    let e = c.command_of-c.ensures ∙ ap command_of t.part_is in
    let n = c.words_taken-n in
    record {
      writing = rw length_push (writing_step _ _ _ _ _ _ l.buffer _ i l.used l.at l.invariant.writing _ t.more e n.result _ n.ensures c.put_command.ensures);
      size = step.0 ∙ l.invariant.size;
      left = rw length_push t.rest_is;
    }

pub returns : goal.returns
returns c = let a = c.args in
    let l = c.loop-part in
    let i = length l.yielded in
    let some : 0 < a.form = omega (arith, form_least a.form c.requires.form_value) in
    let less = c.in-None.ensures.steps.1.0 in
    writing_end _ _ _ _ _ _ _ _ i l.used l.at l.invariant.writing (cut_end a.form a.list.now some (chunks_exact_rest l.part-iterator) i l.invariant.left (omega (arith, less, l.invariant.size)))
