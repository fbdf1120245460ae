use Rattle.std.proofs.Common.{inl, Err, arith}
use Rattle.mt_corpus_spec.specs.Groups.{corpus_of}
use Rattle.mt_search.proofs.Taken.{nowhere}
use Rattle.mt_totals.proofs.TalliesJoined.{not_over}
use Rattle.mt_totals.proofs.totals.unfiltered_total.Goals as goal

pub returns-in-Ok-clause-total : goal.returns-in-Ok-clause-total
returns-in-Ok-clause-total g c = λ images by. (c.in-Ok.ensures.tally images by).spans_are

pub returns-in-Ok-clause-within : goal.returns-in-Ok-clause-within
returns-in-Ok-clause-within g c = λ images by over.
    not_over images c.args.corpus.now.registry (corpus_of c.args.corpus.now.groups) c.args.query.now c.requires.filters c.rows_are_one.ensures c.in-Ok.tally.rows (c.in-Ok.ensures.tally images by).rows_are c.in-Ok.ensures.few over

pub returns-in-Err-TooManyRows-clause-over : goal.returns-in-Err-TooManyRows-clause-over
returns-in-Err-TooManyRows-clause-over g c = λ images by h. inl (c.in-Err-TooManyRows.ensures.too_many images by (λ k. Err (c.in-Err-TooManyRows.field-0-is k)))

pub returns-in_err-patterns-clause-takes : goal.returns-in_err-patterns-clause-takes
returns-in_err-patterns-clause-takes g c = λ plain images by. nowhere images c.args.corpus.now.registry c.args.query.now c.args.corpus.now.groups _ (omega arith)
