use Rattle.mt_cql.specs.Shape.{shape}
use Rattle.mt_eval.proofs.Rowed.{made}
use Rattle.mt_eval.proofs.sequence.row_at.Goals as goal

pub returns : goal.returns
returns c =
    made (shape c.args.sequence.now.expr.now) c.args.text c.args.begin c.with_labels-labels.new.at c.new-2.result c.new.result c.with_labels-labels.result c.new-2.ensures c.new.ensures c.with_labels-labels.ensures.end c.with_labels-labels.ensures.labels
