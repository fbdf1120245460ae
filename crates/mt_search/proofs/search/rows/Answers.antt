use Rattle.std.proofs.Common.{Err, arith}
use Rattle.mt_corpus_spec.specs.Groups.{corpus_of}
use Rattle.mt_search.proofs.Finding.{not_over}
use Rattle.mt_search.proofs.Taken.{nowhere}
use Rattle.mt_search.proofs.search.rows.Goals as goal

pub returns-in-Ok-clause-kept : goal.returns-in-Ok-clause-kept
returns-in-Ok-clause-kept g c = λ images by. rw c.new.ensures ((c.in-Ok.ensures.finds images by).kept)

pub returns-in-Ok-clause-within : goal.returns-in-Ok-clause-within
returns-in-Ok-clause-within g c = λ images by over.
    not_over images c.args.corpus.now.registry c.over_is_some.ensures c.rows_are_one.ensures (corpus_of c.args.corpus.now.groups) c.args.query.now _ _ _ (c.in-Ok.ensures.finds images by) over

pub returns-in-Err-TooManyRows-clause-over : goal.returns-in-Err-TooManyRows-clause-over
returns-in-Err-TooManyRows-clause-over g c = λ images by h.
    (c.over_is_some.ensures images c.args.corpus.now.registry (corpus_of c.args.corpus.now.groups) c.args.query.now).back (c.in-Err-TooManyRows.ensures.too_many images by (λ k. Err (c.in-Err-TooManyRows.field-0-is k)))

pub returns-in_err-patterns-clause-takes : goal.returns-in_err-patterns-clause-takes
returns-in_err-patterns-clause-takes g c = λ plain images by. nowhere images c.args.corpus.now.registry c.args.query.now c.args.corpus.now.groups _ (omega arith)
