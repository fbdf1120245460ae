use Rattle.std.proofs.Common.{Err, ap}
use Rattle.mt_search.specs.declared.error.RowsError.{RowsError}
use Rattle.mt_answer.proofs.Answers.{has_total}
use Rattle.mt_answer.proofs.Declines.{rows_decline}
use Rattle.mt_answer.proofs.totals.total.Goals as goal

pub returns-in-Ok-clause-total : goal.returns-in-Ok-clause-total
returns-in-Ok-clause-total g c = λ cql read. has_total c.one_meaning.ensures c.args.corpus.now cql c.args.query.now c.in-Ok.total read c.in-Ok.ensures.whole c.in-Ok.ensures.total c.in-Ok.ensures.few

pub returns-in-Err-clause-declined : goal.returns-in-Err-clause-declined
returns-in-Err-clause-declined g c = λ cql read. rw c.declined_by.ensures (rows_decline c.one_meaning.ensures c.args.corpus.now cql c.args.query.now _ _ c.in-Err.error read c.in-Err.ensures.blames
    (λ images agree e. c.in-Err.ensures.over images agree (ap (λ (x : RowsError). Err x) e)))
