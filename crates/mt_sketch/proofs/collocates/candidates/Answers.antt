use Rattle.std.proofs.Common.{subst}
use Rattle.mt_counts.specs.Tallies.{ListsOnce}
use Rattle.mt_counts.specs.Counted.{Counted}
use Rattle.mt_counts.specs.Listed.{IsPair}
use Rattle.mt_sketch.proofs.Ranking.{candidates_told}
use Rattle.mt_sketch.proofs.Telling.{if_ok_two}
use Rattle.mt_sketch.proofs.collocates.candidates.Goals as goal

pub returns : goal.returns
returns c =
    let listed = subst (λ (counted : Counted). ListsOnce (IsPair counted c.args.name.now c.args.lemma.now) c.in_ok-pairs.pairs) c.counts.ensures c.in_ok-pairs.ensures in
    if_ok_two c.ranked.result
    (λ words is small. candidates_told c.args.triples.now c.requires.within c.args.name.now c.args.lemma.now c.args.left c.args.least c.requires.left c.requires.some c.in_ok-pairs.pairs words listed is small)
    c.ranked.ensures.words c.ranked.ensures.small
