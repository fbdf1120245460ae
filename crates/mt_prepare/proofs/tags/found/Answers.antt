use Rattle.std.proofs.Common.{arith}
use Rattle.mt_prepare.proofs.Found.{texts_more}
use Rattle.mt_prepare.proofs.tags.found.Goals as goal

pub loop-text-preserved : goal.loop-text-preserved
loop-text-preserved g c = record {
  found =
      texts_more c.args.segment.now c.args.kind c.loop-text.text c.args.judge.now c.loop-text.spans.items c.add_found.new.spans.items c.loop-text.invariant.found
      (rw c.structs_in.ensures at c.in_ok-add_found.ensures.found);
  rises = omega (arith, c.loop-text.invariant.rises, c.in_ok-add_found.ensures.rises);
}
