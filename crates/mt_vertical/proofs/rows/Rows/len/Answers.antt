use Rattle.std.proofs.Common.{sym, ◌∙◌, ap, length, map}
use Rattle.mt_vertical.proofs.Added.{bytes_of}
use Rattle.mt_base.proofs.Rows.{length-rows}
use Rattle.mt_vertical.proofs.rows.Rows.len.Goals as goal

pub returns : goal.returns
returns c = sym (length-rows c.self.inside.columns c.self.inside.count (map bytes_of c.self.inside.values.items)) ∙ ap (λ t. length t.tokens) c.self.view_is
