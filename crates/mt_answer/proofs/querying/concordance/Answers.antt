use Rattle.mt_corpus_spec.specs.Groups.{corpus_of}
use Rattle.mt_answer.proofs.Answers.{spans_lie}
use Rattle.mt_answer.proofs.querying.concordance.Goals as goal

pub kwic_lines-requires : goal.kwic_lines-requires
kwic_lines-requires c = record {
  images = c.requires.images.images;
  registry = c.args.corpus.now.registry;
  groups = c.args.corpus.now.groups;
  stand = c.held.ensures.stand c.requires.images.images c.requires.images.agree;
  lie = rw c.as_slice.ensures (spans_lie (corpus_of c.args.corpus.now.groups) c.args.rows.now c.in_ok-spans.spans c.requires.inside c.in_ok-spans.ensures);
}
