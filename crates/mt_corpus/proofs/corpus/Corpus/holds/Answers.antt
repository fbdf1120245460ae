use Rattle.std.proofs.Common.{ap}
use Rattle.mt_corpus_spec.specs.Images.{Corpus}
use Rattle.mt_corpus.proofs.Holding.{holds_tells}
use Rattle.mt_corpus.proofs.corpus.Corpus.holds.Goals as goal

pub returns : goal.returns
returns c =
    holds_tells c.self.inside.registry c.self.inside.segments c.self.inside.live _ c.self.inside.texts c.self.inside.tokens c.self.invariant c.args.self.now.groups c.args.name.now c.contains_key.result (ap (λ (v : Corpus). v.groups) c.self.view_is) c.contains_key.ensures
