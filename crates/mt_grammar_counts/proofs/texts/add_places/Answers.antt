use Rattle.std.proofs.Common.{arith}
use Rattle.mt_grammar_counts.proofs.GroupLists.{attr_within}
use Rattle.mt_grammar_counts.proofs.texts.add_places.Goals as goal

pub base-requires : goal.base-requires
base-requires g c = let low = attr_within c.args.text.now.registry.now c.args.text.now.segment.now c.requires.text.under in omega (arith, low, c.ws_attr-attr.ensures)
