use Rattle.std.proofs.Common.{◌≡◌, length, rules, sym}
use Rattle.mt_cql.specs.Shape.{shape}
use Rattle.mt_eval.proofs.OverGaps.{both_over}
use Rattle.mt_eval.proofs.Unions.{nine_none}
use Rattle.mt_eval.proofs.gap.+with_labels_over.Goals as goal

pub returns-in-Seq-clause-labels : goal.returns-in-Seq-clause-labels
returns-in-Seq-clause-labels t c =
    let nine : length c.args.labels ≡ 9 = search rules in
    rw c.in-Seq.is
    (both_over (shape c.in-Seq.left.value) (shape c.in-Seq.right.value) c.args.turns c.args.at.now c.with_labels_over-some.new.at c.args.labels c.with_labels_over-some.result c.with_labels_over.result nine
    (rw c.deref.ensures at c.with_labels_over-some.ensures.end) (rw c.deref.ensures at c.with_labels_over-some.ensures.labels) (rw c.deref-in-Seq.ensures at c.with_labels_over.ensures.labels))

pub returns-in-Begin-clause-labels : goal.returns-in-Begin-clause-labels
returns-in-Begin-clause-labels t c = let nine : length c.args.labels ≡ 9 = search rules in rw c.in-Begin.is (sym (nine_none c.args.labels nine))

pub returns-in-End-clause-labels : goal.returns-in-End-clause-labels
returns-in-End-clause-labels t c = let nine : length c.args.labels ≡ 9 = search rules in rw c.in-End.is (sym (nine_none c.args.labels nine))

pub returns-in-Whole-clause-labels : goal.returns-in-Whole-clause-labels
returns-in-Whole-clause-labels t c = let nine : length c.args.labels ≡ 9 = search rules in rw c.in-Whole.is (sym (nine_none c.args.labels nine))

pub returns-in-Choice-clause-labels : goal.returns-in-Choice-clause-labels
returns-in-Choice-clause-labels t c = let nine : length c.args.labels ≡ 9 = search rules in rw c.in-Choice.is (sym (nine_none c.args.labels nine))

pub returns-in-Repeat-clause-labels : goal.returns-in-Repeat-clause-labels
returns-in-Repeat-clause-labels t c = let nine : length c.args.labels ≡ 9 = search rules in rw c.in-Repeat.is (sym (nine_none c.args.labels nine))
