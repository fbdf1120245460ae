use Rattle.std.proofs.Common.{◌≡◌, sym, ◌∙◌, subst, length}
use Rattle.mt_segment_spec.specs.Tables.{AreTables}
use Rattle.mt_segment.specs.Lists.{groups}
use Rattle.mt_segment.specs.Joined.{of_one_text}
use Rattle.mt_segment.proofs.Parted.{one_text}
use Rattle.mt_segment.proofs.segment.Segment.of_text.Goals as goal
use Rattle.mt_segment.proofs.segment.Segment.of_text.Goals.{After-from_vec}

same : (c : After-from_vec) → of_one_text c.args.name c.args.tokens c.args.attrs.items c.args.structs ≡ record { texts = c.push.new.self; attrs = c.from_vec.result; structs = groups (length c.push.new.self) c.len-kinds.result c.args.structs }
same c = one_text c.args.name c.args.tokens c.args.attrs.items c.from_vec.result c.args.structs c.in_ok-texts.texts c.push.new.self c.len-kinds.result c.in_ok-texts.ensures c.in_ok-push.ensures.ok c.from_vec.ensures c.len-kinds.ensures

pub from_parts-requires-clause-tables : goal.from_parts-requires-clause-tables
from_parts-requires-clause-tables c = subst AreTables (same (goal.at.from_parts-requires-clause-tables c).After-from_vec) c.requires

pub returns : goal.returns
returns c = c.from_parts.ensures ∙ sym (same (goal.at.returns c).After-from_vec)
