use Rattle.mt_triples.proofs.Telling.{if_ok_so}
use Rattle.std.specs.List.{Contains}
use Rattle.mt_word_sketch_spec.specs.Ranks.{FirstRanked}
use Rattle.mt_word_sketch_spec.specs.Order.{ranked_of}
use Rattle.mt_sketch.specs.Told.{AreShown, frequencies_of}
use Rattle.mt_sketch.proofs.Ranking.{shown_told}
use Rattle.mt_sketch.proofs.collocates.shown.Goals as goal

pub returns : goal.returns
returns c =
    if_ok_so {P = λ top. FirstRanked ranked_of (Contains c.in_ok-candidates.candidates) c.args.max top} {Q = λ top. AreShown (frequencies_of c.args.triples.now) c.args.name.now c.args.lemma.now c.args.least c.args.max top} c.first.result
    (λ top h. shown_told (frequencies_of c.args.triples.now) c.args.name.now c.args.lemma.now c.args.least c.args.max c.in_ok-candidates.candidates top c.in_ok-candidates.ensures h)
    c.first.ensures
