use Rattle.mt_cql.specs.Shape.{shape}
use Rattle.mt_prepare.proofs.Readying.{all_added}
use Rattle.mt_prepare.proofs.prepared.make_ready.Goals as goal

pub add_expr-requires-clause-spans : goal.add_expr-requires-clause-spans
add_expr-requires-clause-spans g c = c.empty.ensures.known c.args.segment.now c.requires.spans

pub returns-clause-ready : goal.returns-clause-ready
returns-clause-ready g c =
    all_added c.add_expr.result c.args.segment.now (shape c.args.expr.now) c.empty.new.expr c.add_expr.new.ready c.empty.ensures.tests c.empty.ensures.tags c.add_expr.ensures.ready
