use Prim.Native.Nat.{◌+◌, ◌-◌}
use native.Mathlib.Omega.{arith}
use mathlib.Core.Path.{◌≡◌, sym, ap, ◌∙◌}
use lib.ListN.{length, take, length-take, length-drop}
use lib.Seq.{sets, length-sets, length-take-le}
use borrow.Rule.Slice.PartMut.{put_mid}
use Rattle.command.proofs.Forms.{form_least}
use Rattle.form.proofs.Loops.{short_stored, long_stored}
use Rattle.form_code.proofs.Parts.{part_copied, part_zeroed}
use Rattle.form_code.proofs.put_record.Goals as goal

pub copy_from_slice-requires : goal.copy_from_slice-requires
copy_from_slice-requires c = sym (length-take-le 32 c.args.b.now c.requires.in_bounds)

pub copy_from_slice-requires-2 : goal.copy_from_slice-requires-2
copy_from_slice-requires-2 c = simp (length-take, length-drop) (omega (arith, form_least c.args.form c.requires.form_value))

pub returns-then-form-eq48 : goal.returns-then-form-eq48
returns-then-form-eq48 c = let a = c.args in
    let first : put_mid a.at (a.at + 32 - a.at) a.target.now c.copy_from_slice-2.new.self ≡ sets a.target.now a.at (take 32 a.b.now) =
    part_copied a.target.now c.copy_from_slice-2.new.self a.at (a.at + 32) (omega arith) (omega arith) (take 32 a.b.now) (omega (arith, length-take-le 32 a.b.now c.requires.in_bounds)) (c.copy_from_slice-2.ensures.after ∙ c.copy_from_slice.ensures.after) in
    long_stored a.target.now a.b.now a.at a.form c.if-form-eq48.true c.requires.in_bounds first
    (part_zeroed _ c.fill.new.self (a.at + 32) (a.at + 48) (omega arith) (omega (arith, ap length first, length-sets a.target.now a.at (take 32 a.b.now))) 16 (omega arith) (c.fill.ensures.after (λ y e. e)))

pub returns-else-form-eq48 : goal.returns-else-form-eq48
returns-else-form-eq48 c = let a = c.args in
    short_stored a.target.now a.b.now a.at a.form c.requires.form_value c.if-form-eq48.false
    (part_copied a.target.now c.copy_from_slice-2.new.self a.at (a.at + 32) (omega arith) (omega (arith, form_least a.form c.requires.form_value)) (take 32 a.b.now) (omega (arith, length-take-le 32 a.b.now c.requires.in_bounds)) (c.copy_from_slice-2.ensures.after ∙ c.copy_from_slice.ensures.after))
