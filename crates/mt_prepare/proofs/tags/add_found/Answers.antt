use Rattle.std.proofs.Common.{arith}
use Rattle.mt_prepare.proofs.Found.{found_yes, found_no, as_span}
use Rattle.mt_prepare.proofs.tags.add_found.Goals as goal
use Rattle.mt_prepare.proofs.tags.add_found.Goals.{then-finds+in_ok-push, else-finds}

pub loop-instance-preserved : goal.loop-instance-preserved
loop-instance-preserved g c = elim c.if-finds.branch [
  | then-finds+in_ok-push w ↦ record {
    found = rw w.spans-is
        (found_yes c.args.judge.now c.args.instances.now c.args.text c.loop-instance.instance-index c.instance-item.result c.args.spans.now.items c.loop-instance.spans.items w.push.new.self.items (omega arith) c.instance-item.is
        (c.finds.ensures.found.0 w.if-finds.true) (as_span w.push.new.self.items c.loop-instance.spans.items w.span_in.result c.args.text c.instance-item.result w.in_ok-push.ensures.items w.span_in.ensures) c.loop-instance.invariant.found);
    rises = omega (arith, c.loop-instance.invariant.rises, c.finds.ensures.rises);
  }
  | else-finds w ↦ record {
    found = rw w.spans-is
        (found_no c.args.judge.now c.args.instances.now c.args.text c.loop-instance.instance-index c.instance-item.result c.args.spans.now.items c.loop-instance.spans.items (omega arith) c.instance-item.is
        (λ finds. let yes = c.finds.ensures.found.1 finds in let no = w.if-finds.false in cc) c.loop-instance.invariant.found);
    rises = omega (arith, c.loop-instance.invariant.rises, c.finds.ensures.rises);
  }
]
