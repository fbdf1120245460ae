use Rattle.mt_segment.proofs.Instances.{instances_more}
use Rattle.mt_segment.proofs.structs.all_instances.Goals as goal

pub loop-kind-preserved : goal.loop-kind-preserved
loop-kind-preserved c = instances_more c.args.texts.now c.loop-kind.all c.add_kind.new.all c.loop-kind.kind c.loop-kind.invariant c.in_ok-add_kind.ensures
