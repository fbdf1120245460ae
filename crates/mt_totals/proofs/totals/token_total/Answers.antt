use Rattle.std.proofs.Common.{inl, Err, arith}
use Rattle.mt_corpus_spec.specs.Groups.{corpus_of}
use Rattle.mt_search.proofs.Taken.{nowhere}
use Rattle.mt_totals.proofs.Spanned.{as_many_spans, not_over}
use Rattle.mt_totals.proofs.totals.token_total.Goals as goal

pub returns-in-Ok-clause-total : goal.returns-in-Ok-clause-total
returns-in-Ok-clause-total g c = λ images by.
    as_many_spans images c.args.corpus.now.registry (corpus_of c.args.corpus.now.groups) c.args.query.now c.requires.alone c.have_spans.ensures c.in-Ok.total (c.in-Ok.ensures.total images by)

pub returns-in-Ok-clause-within : goal.returns-in-Ok-clause-within
returns-in-Ok-clause-within g c = λ images by over.
    not_over images c.args.corpus.now.registry (corpus_of c.args.corpus.now.groups) c.args.query.now c.requires.alone c.rows_are_one.ensures c.in-Ok.total (c.in-Ok.ensures.total images by) c.in-Ok.ensures.few over

pub returns-in-Err-TooManyRows-clause-over : goal.returns-in-Err-TooManyRows-clause-over
returns-in-Err-TooManyRows-clause-over g c = λ images by h. inl (c.in-Err-TooManyRows.ensures.too_many images by (λ k. Err (c.in-Err-TooManyRows.field-0-is k)))

pub returns-in_err-patterns-clause-takes : goal.returns-in_err-patterns-clause-takes
returns-in_err-patterns-clause-takes g c = λ plain images by. nowhere images c.args.corpus.now.registry c.args.query.now c.args.corpus.now.groups _ (omega arith)
