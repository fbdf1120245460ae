use Rattle.std.proofs.Common.{[], sym, subst}
use Rattle.mt_counts.specs.Counted.{Counted}
use Rattle.mt_triples.specs.CountsOf.{AreCountsOf}
use Rattle.mt_grammar_counts.proofs.Ending.{nothing_counted}
use Rattle.mt_grammar_counts.proofs.segments.count_segment.Goals as goal

pub returns-in-Ok-clause-counts : goal.returns-in-Ok-clause-counts
returns-in-Ok-clause-counts g c = λ images of tell.
    let R = c.args.registry.now in
    let all = c.in-Ok.ensures.counts images of [] tell (nothing_counted _ c.collector-collector.result c.collector-collector.ensures images R c.args.grammar.now) in
    subst (λ (counts : Counted). AreCountsOf images R c.args.grammar.now of counts) (sym c.take.ensures) all

pub returns-in-Ok-clause-room : goal.returns-in-Ok-clause-room
returns-in-Ok-clause-room g c = λ images of tell. c.in-Ok.ensures.room images of tell

pub returns-in-Err-clause-too_many : goal.returns-in-Err-clause-too_many
returns-in-Err-clause-too_many g c = λ images of tell h. c.in-Err.ensures.too_many images of tell h
