use Rattle.std.proofs.Common.{sym, ◌∙◌, ap, length}
use Rattle.mt_base.proofs.Rows.{length-rows}
use Rattle.mt_base.proofs.tokens.Tokens.len.Goals as goal

pub returns : goal.returns
returns c = sym (length-rows c.self.inside.columns c.self.inside.count c.self.inside.values) ∙ ap (λ t. length t.tokens) c.self.view_is
