use Rattle.mt_vertical.proofs.LongColumns.{short_line}
use Rattle.mt_vertical.proofs.outline.has_long_value.Goals as goal

pub returns-then-line-le-VALUE_BYTES_LIMIT-clause-short : goal.returns-then-line-le-VALUE_BYTES_LIMIT-clause-short
returns-then-line-le-VALUE_BYTES_LIMIT-clause-short c = λ e. short_line _ _ c.if-line-le-VALUE_BYTES_LIMIT.true
