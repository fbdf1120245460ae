use Rattle.mt_cql.specs.Shape.{shape}
use Rattle.mt_eval.proofs.OverGaps.{in_right, is_gap}
use Rattle.mt_eval.proofs.gap.+gap_of.Goals as goal

pub returns-in-Some : goal.returns-in-Some
returns-in-Some t c =
    let left = c.in-Seq.left.value in
    let right = c.in-Seq.right.value in
    let gap = c.in-Some.gap in
    rw (c.in-Seq.is, c.moved.ensures.least, c.moved.ensures.most)
    (in_right (shape left) (shape right) gap.before gap.least gap.most c.moved.result.before (rw c.deref-in-Seq.ensures at (c.is_sequence-in-Seq.ensures.0 c.if-not-is_sequence.false))
    (rw c.deref-in-Seq-2.ensures at c.in-Some.ensures) (rw c.deref-in-Some.ensures at c.moved.ensures.before))

pub returns-else-not-is_unlabelled : goal.returns-else-not-is_unlabelled
returns-else-not-is_unlabelled t c =
    rw c.in-Repeat.is (is_gap (shape c.in-Repeat.inner.value) c.in-Repeat.least c.in-Repeat.most (rw c.deref-in-Repeat.ensures at (c.is_unlabelled.ensures c.if-not-is_unlabelled.false)))
