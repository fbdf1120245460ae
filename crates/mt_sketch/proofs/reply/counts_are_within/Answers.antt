use Rattle.mt_sketch.specs.Told.{frequencies_of}
use Rattle.mt_sketch.proofs.reply.counts_are_within.Goals as goal

pub returns : goal.returns
returns c = λ counted some name x y.
    c.pairs_are_within.ensures some.images some.registry some.grammar some.corpus (frequencies_of counted) (record { both = some.are.both; first = some.are.first; second = some.are.second; alone = some.are.alone }) name x y
