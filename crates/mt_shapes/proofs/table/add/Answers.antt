use Rattle.mt_shapes.proofs.Matches.{of_listed, none_of}
use Rattle.mt_shapes.proofs.table.add.Goals as goal

pub returns-then-is_empty : goal.returns-then-is_empty
returns-then-is_empty c = none_of c.args.last c.args.shape c.args.begins c.args.out.now.items c.requires.fine (c.is_empty.ensures.none c.if-is_empty.true)

pub returns : goal.returns
returns c = of_listed c.args.last c.args.shape c.args.begins c.args.out.now.items c.merge.new.out.items c.in_ok-merge.ensures
