use Rattle.mt_grammar.proofs.Marks.{is_mark}
use Rattle.mt_grammar.proofs.heading.has_mark.Goals as goal

pub returns : goal.returns
returns c = is_mark c.args.heading.now c.contains.result c.contains.ensures.cases
