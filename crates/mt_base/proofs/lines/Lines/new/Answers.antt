use Rattle.mt_base.proofs.FirstLine.{length-lines}
use Rattle.mt_base.proofs.lines.Lines.new.Goals as goal

pub returns-clause-count : goal.returns-clause-count
returns-clause-count c = length-lines c.args.bytes.now
