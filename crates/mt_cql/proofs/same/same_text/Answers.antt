use Rattle.std.proofs.Common.{◌∙◌}
use Rattle.mt_cql.proofs.SameTexts.{texts_alike}
use Rattle.mt_cql.proofs.same.same_text.Goals as goal

pub returns : goal.returns
returns c = c.eq.ensures ∙ texts_alike c.args.left.now c.args.right.now
