use Rattle.std.proofs.Common.{}
use Rattle.mt_counts.proofs.Placed.{placing_none, placing_more, placing_whole}
use Rattle.mt_counts.proofs.tally.Tally.place_again.Goals as goal

pub loop-k-init : goal.loop-k-init
loop-k-init c = placing_none c.args.self.now c.args.keys.now c.clear.new.self.items c.clear.ensures.items

pub loop-k-preserved : goal.loop-k-preserved
loop-k-preserved c = placing_more c.args.self.now c.loop-k.self c.place_known.new.self c.args.keys.now c.loop-k.places.items c.push.new.self.items c.loop-k.k c.in_ok-place.place _ c.loop-k-test.true c.loop-k.invariant
    c.in_ok-place.ensures.grows c.in_ok-place.ensures.place c.in_ok-place.ensures.below c.in_ok-push.ensures.items

pub returns-clause-places : goal.returns-clause-places
returns-clause-places c = placing_whole c.args.self.now c.loop-k.self c.args.keys.now c.loop-k.places.items c.loop-k.k c.loop-k.invariant c.loop-k-test.false

pub returns-in_err-place-clause-below : goal.returns-in_err-place-clause-below
returns-in_err-place-clause-below c = λ g m h all.
    let low = all c.loop-k.k _ c.loop-k-test.true in
    c.in_err-place.ensures.below g m (c.loop-k.invariant.below g m h all) low.0 low.1

pub returns-in_err-push-clause-below : goal.returns-in_err-push-clause-below
returns-in_err-push-clause-below c = λ g m h all.
    let low = all c.loop-k.k _ c.loop-k-test.true in
    c.in_ok-place.ensures.below g m (c.loop-k.invariant.below g m h all) low.0 low.1
