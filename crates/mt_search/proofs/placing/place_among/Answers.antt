use Rattle.mt_search.proofs.Places.{stands_here, stands_later, stands_nowhere}
use Rattle.mt_search.proofs.placing.place_among.Goals as goal

pub loop-place-init : goal.loop-place-init
loop-place-init c = c.requires

pub returns-then-number-numbers : goal.returns-then-number-numbers
returns-then-number-numbers c = stands_here c.args.numbers.now c.loop-place.place c.args.number c.loop-place.invariant c.if-number-numbers.true

pub loop-place-preserved : goal.loop-place-preserved
loop-place-preserved c = stands_later c.args.numbers.now c.loop-place.place c.args.number c.loop-place.invariant c.loop-place-test.true c.if-number-numbers.false

pub returns : goal.returns
returns c = stands_nowhere c.args.numbers.now c.loop-place.place c.args.number c.loop-place.invariant c.loop-place-test.false
