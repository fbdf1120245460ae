use Rattle.std.proofs.Common.{length, sym, ◌∙◌}
use Rattle.std.proofs.lemmas.Bool.{eqb-true}
use Rattle.mt_rows.proofs.Joined.{plain_rows}
use Rattle.mt_rows.proofs.rows.Rows.are_unlabelled.Goals as goal

pub returns : goal.returns
returns c = λ none.
    rw (← c.self.view_is) (plain_rows c.self.inside.spans.items c.self.inside.labels (eqb-true (length c.self.inside.labels) 0 (sym c.is_empty.ensures ∙ none)))
