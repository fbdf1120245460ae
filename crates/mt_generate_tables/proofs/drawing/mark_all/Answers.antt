use Rattle.std.proofs.Common.{sym, ◌∙◌, arith}
use Rattle.mt_generate_tables.proofs.Codes.{all_marks, first_marks, marks_passed, marks_set, true-false}
use Rattle.mt_generate_tables.proofs.drawing.mark_all.Goals as goal
use Rattle.mt_generate_tables.proofs.drawing.mark_all.Goals.{then-others-place, else-others-place}

pub loop-place-init : goal.loop-place-init
loop-place-init c = first_marks c.args.marks.now c.args.others.now

pub loop-place-preserved : goal.loop-place-preserved
loop-place-preserved c =
    let some = c.args.marks.now in
    let others = c.args.others.now in
    elim c.if-others-place.branch [
      | then-others-place w ↦ rw w.marks-is (marks_set some others c.loop-place.place c.loop-place.marks c.loop-place.invariant (omega (arith, c.requires, c.loop-place-test.true)) w.if-others-place.true)
      | else-others-place w ↦ rw w.marks-is (marks_passed some others c.loop-place.place c.loop-place.marks c.loop-place.invariant (λ set. true-false (sym set ∙ w.if-others-place.false)))
    ]

pub returns : goal.returns
returns c = all_marks c.args.marks.now c.args.others.now c.loop-place.place c.loop-place.marks c.loop-place.invariant c.loop-place-test.false
