use Rattle.std.proofs.Common.{sym, ◌∙◌}
use Rattle.mt_spans.proofs.Corpora.{one_differs, all_differ}
use Rattle.mt_spans.proofs.corpus.is_held.Goals as goal

pub loop-text-preserved : goal.loop-text-preserved
loop-text-preserved c =
    one_differs c.args.texts.now c.args.name.now c.loop-text.text-index c.text-item.result c.as_str.result.now c.loop-text-test.true c.text-item.is c.loop-text.invariant (c.as_str.ensures ∙ c.name.ensures) (sym c.if-eq.ensures)

pub returns : goal.returns
returns c = λ e. all_differ c.args.texts.now c.args.name.now c.loop-text.text-index c.loop-text-test.false c.loop-text.invariant
