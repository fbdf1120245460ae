use Rattle.std.proofs.Common.{length}
use Rattle.mt_cql.specs.Shape.{filters_shape}
use Rattle.mt_eval_spec.specs.RowsIn.{operands}
use Rattle.mt_eval.proofs.run.+let_pass.Given as goal

abbrev pub decreases-let_pass : goal.decreases-let_pass
decreases-let_pass g l = length (operands (filters_shape l.filters.now))
