use Rattle.mt_query_laws.proofs.SmallParts.{few_tests, few_patterns, few_operands}
use Rattle.mt_query_laws.proofs.contents.contents_are_few.Goals as goal

pub returns : goal.returns
returns c = record { tests = few_tests; patterns = few_patterns; operands = few_operands }
