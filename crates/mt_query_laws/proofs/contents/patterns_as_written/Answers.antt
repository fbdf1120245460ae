use Rattle.mt_query_laws.proofs.PatternOrder.{in_order}
use Rattle.mt_query_laws.proofs.contents.patterns_as_written.Goals as goal

pub returns : goal.returns
returns c = in_order
