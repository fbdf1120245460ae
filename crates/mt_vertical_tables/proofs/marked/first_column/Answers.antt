use Rattle.std.proofs.Common.{arith}
use Rattle.mt_vertical_tables.proofs.Marks.{first_is, only_is}
use Rattle.mt_vertical_tables.proofs.marked.first_column.Goals as goal

pub returns-in-Some : goal.returns-in-Some
returns-in-Some c = first_is c.args.text.now c.range.result.now c.in-Some.place (c.in-Some.ensures 9 c.args.text.now c.requires.marks (omega arith)) c.range.ensures.value

pub returns-in-None : goal.returns-in-None
returns-in-None c = only_is c.args.text.now (c.in-None.ensures 9 c.args.text.now c.requires.marks (omega arith))
