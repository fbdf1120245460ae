use Rattle.std.proofs.Common.{◌*◌, count_ones, refl, arith}
use Rattle.mt_places.specs.Places.{In}
use Rattle.mt_tally.proofs.Marked.{none_of, within}
use Rattle.mt_tally.proofs.SetWords.{few_ones, word_more}
use Rattle.mt_tally.proofs.sets.place_count.Goals as goal

pub loop-at-init : goal.loop-at-init
loop-at-init c = none_of (64 * 0) (In c.args.set.now) (λ k l p. absurd (omega (arith, l)))

pub overflow_add-count : goal.overflow_add-count
overflow_add-count c =
    let ones = few_ones c.word.result c.word.type_inv in
    let few = within (64 * c.loop-at.at) (In c.args.set.now) c.loop-at.count c.loop-at.invariant in
    omega (arith, ones, few, c.loop-at-test.true, c.width-at-end.ensures, c.requires)

pub loop-at-preserved : goal.loop-at-preserved
loop-at-preserved c = word_more c.args.set.now c.loop-at.at c.loop-at.count c.word.result (count_ones c.word.result) _ c.word.ensures.is c.word.type_inv refl refl c.loop-at.invariant
