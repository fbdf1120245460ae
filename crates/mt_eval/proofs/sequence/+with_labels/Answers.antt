use Rattle.std.proofs.Common.{◌≡◌, length, rules}
use Rattle.mt_cql.specs.Shape.{shape}
use Rattle.mt_eval.proofs.Unions.{both_labels}
use Rattle.mt_eval.proofs.sequence.+with_labels.Goals as goal

pub returns-in-Seq-clause-labels : goal.returns-in-Seq-clause-labels
returns-in-Seq-clause-labels t c =
    let nine : length c.args.labels ≡ 9 = search rules in
    rw c.in-Seq.is
    (both_labels (shape c.in-Seq.left.value) (shape c.in-Seq.right.value) c.args.at.now c.with_labels-some.new.at c.args.labels c.with_labels-some.result c.with_labels.result nine
    (rw c.deref.ensures at c.with_labels-some.ensures.end) (rw c.deref.ensures at c.with_labels-some.ensures.labels) (rw c.deref-in-Seq.ensures at c.with_labels.ensures.labels))
