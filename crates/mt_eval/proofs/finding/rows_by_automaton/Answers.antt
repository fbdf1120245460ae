use Rattle.mt_cql.specs.Shape.{shape}
use Rattle.mt_eval.proofs.Exprs.{valid_at}
use Rattle.mt_eval.proofs.Names.{of_expr}
use Rattle.mt_eval.proofs.finding.rows_by_automaton.Goals as goal

pub compile-requires : goal.compile-requires
compile-requires g c =
    c.labels_stand.ensures.valid c.requires.query.registry (shape c.args.expr.now)
    (valid_at c.args.asked.now.segment.now c.args.asked.now.query.now c.requires.query c.requires.valid.0 (shape c.args.expr.now) c.requires.valid.1 c.requires.valid.2)

pub new-requires-clause-names : goal.new-requires-clause-names
new-requires-clause-names g c =
    of_expr c.requires.query.registry c.args.asked.now.segment.now c.requires.query.under (shape c.args.expr.now)
    (valid_at c.args.asked.now.segment.now c.args.asked.now.query.now c.requires.query c.requires.valid.0 (shape c.args.expr.now) c.requires.valid.1 c.requires.valid.2)
