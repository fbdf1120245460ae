use Rattle.mt_corpus_spec.specs.Groups.{corpus_of}
use Rattle.mt_totals.proofs.Spanned.{spans_of}
use Rattle.mt_totals.proofs.totals.span_total.Goals as goal

pub returns-clause-total : goal.returns-clause-total
returns-clause-total g c = λ images by. spans_of images c.args.corpus.now.registry (corpus_of c.args.corpus.now.groups) c.args.query.now c.in_ok-rows.rows c.span_count.result (c.in_ok-rows.ensures.kept images by) c.span_count.ensures
