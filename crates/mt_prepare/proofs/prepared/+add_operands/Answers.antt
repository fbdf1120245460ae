use Rattle.mt_cql.specs.Shape.{filters_shape, shape}
use Rattle.mt_eval_spec.specs.RowsIn.{operands}
use Rattle.mt_prepare.proofs.Readying.{operands_on}
use Rattle.mt_prepare.proofs.prepared.+add_operands.Goals as goal

pub returns-in_ok-add_operands-in-More-clause-ready : goal.returns-in_ok-add_operands-in-More-clause-ready
returns-in_ok-add_operands-in-More-clause-ready g t c =
    rw c.in-More.is
    (operands_on c.add_operands-in-More.result c.args.segment.now (shape c.in-More.filter.value.head) (operands (filters_shape c.in-More.filter.value.filters)) (operands (filters_shape c.in-More.others.value))
    c.args.exprs.now c.add.new.self c.add_operands.new.exprs c.add_operands-in-More.new.exprs (rw c.deref.ensures at c.in_ok-add-in-More.ensures.ready)
    (rw c.deref-in-More.ensures at c.in_ok-add_operands-in-More.ensures.ready) (rw c.deref-in-More-2.ensures at c.add_operands-in-More.ensures.ready))
