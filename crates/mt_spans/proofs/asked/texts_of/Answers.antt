use Rattle.std.proofs.Common.{ℕ, length, arith}
use Rattle.mt_spans.proofs.Ascending.{none_before, one_left_out, one_more}
use Rattle.mt_spans.proofs.asked.texts_of.Goals as goal
use Rattle.mt_spans.proofs.asked.texts_of.Goals.{then-contains+in_ok-push, else-contains}

pub loop-text-init : goal.loop-text-init
loop-text-init c = rw c.new-texts.ensures (none_before (length c.args.segment.now.texts) 0)

pub loop-text-preserved : goal.loop-text-preserved
loop-text-preserved c =
    let count : ℕ = length c.args.segment.now.texts in
    elim c.if-contains.branch [
      | then-contains+in_ok-push w ↦ rw w.texts-is (rw w.in_ok-push.ensures.ok (one_more count c.loop-text.text-counter c.loop-text.texts c.loop-text.invariant (omega (c.loop-text-test.true, c.texts-text-end.ensures.count, arith))))
      | else-contains w ↦ rw w.texts-is (one_left_out count c.loop-text.text-counter c.loop-text.texts c.loop-text.invariant)
    ]

pub returns : goal.returns
returns c = record { ascending = c.loop-text.invariant.pairs; within = c.loop-text.invariant.within }
