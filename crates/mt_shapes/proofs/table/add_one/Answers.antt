use Rattle.mt_shapes.proofs.Whole.{between}
use Rattle.mt_shapes.proofs.table.add_one.Goals as goal

pub returns : goal.returns
returns c = between c.args.last c.args.begin c.args.end c.args.out.now.items c.merge_one.new.out.items c.requires.order c.in_ok-merge_one.ensures
