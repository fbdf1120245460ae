use Rattle.mt_cql.specs.Shape.{shape}
use Rattle.mt_eval.proofs.GapRows.{made_over}
use Rattle.mt_eval.proofs.gap.row_with.Goals as goal

pub returns : goal.returns
returns c =
    made_over (shape c.args.expr.now) c.args.turns c.args.text c.args.begin c.with_labels_over-labels.new.at c.new-2.result c.new.result c.with_labels_over-labels.result c.new-2.ensures c.new.ensures c.with_labels_over-labels.ensures.end
    c.with_labels_over-labels.ensures.labels
