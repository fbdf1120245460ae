use Rattle.mt_query_laws.proofs.SmallParts.{head_is_part, operands_are_parts}
use Rattle.mt_query_laws.proofs.contents.parts_are_small.Goals as goal

pub returns : goal.returns
returns c = record { head = head_is_part; operands = operands_are_parts }
