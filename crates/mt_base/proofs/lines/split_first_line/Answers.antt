use Rattle.std.proofs.Common.{eqb-true}
use Rattle.mt_base.proofs.FirstLine.{first_to, only}
use Rattle.mt_base.proofs.lines.split_first_line.Goals as goal

pub returns-in-Some : goal.returns-in-Some
returns-in-Some c = first_to c.args.bytes.now _ c.in-Some.at c.in-Some.ensures.0 (eqb-true _ _ c.in-Some.ensures.1) c.without_return.ensures

pub returns-in-None : goal.returns-in-None
returns-in-None c = only c.args.bytes.now c.requires c.in-None.ensures
