use Rattle.std.proofs.Common.{◌≡◌, ◌-◌, ◌/◌, [], ◌∷◌, length, get_or, ap, ◌∙◌, subst, arith}
use Rattle.std.specs.Option.{MatchOption}
use Rattle.mt_store_spec.specs.Positions.{from_least}
use Rattle.mt_postings.specs.Kept.{positions_in, IsNear}
use Rattle.mt_postings.proofs.Placing.{zero_entry, near_here, few_ahead, jumped, jump_placed, jump_near, jump_given, search_cost, placed_count, apart}
use Rattle.mt_postings.proofs.places.Places.seek.Goals as goal

pub scan-requires : goal.scan-requires
scan-requires g c =
    let i = c.self.inside in
    let view = positions_in (i.count - i.passed) i.least i.reader.left in
    subst (IsNear c.args.least) c.self.view_is (near_here i.entries.now i.count i.passed i.least i.reader view c.entries_below-behind.result c.args.least c.self.invariant c.if-behind-first.true c.entries_below-behind.ensures.stop)

pub returns-then-behind-first-clause-most_looks : goal.returns-then-behind-first-clause-most_looks
returns-then-behind-first-clause-most_looks g c =
    let i = c.self.inside in
    let view = positions_in (i.count - i.passed) i.least i.reader.left in
    let few = few_ahead i.entries.now i.count i.passed i.least i.reader view c.self.invariant in
    let same : length view ≡ length c.args.self.now = ap length c.self.view_is in
    search_cost c.args.steps.now c.entries_below-behind.new.steps c.scan.new.steps (length i.entries.now - i.passed / 128) (length c.args.self.now) c.entries_below-behind.ensures.least_looks c.entries_below-behind.ensures.most_looks (let x = few.0 in omega arith) c.scan.ensures.most_looks

pub move_to-requires-clause-later : goal.move_to-requires-clause-later
move_to-requires-clause-later g c =
    let i = c.self.inside in
    let view = positions_in (i.count - i.passed) i.least i.reader.left in
    let behind = c.entries_below-behind.result in
    let e = get_or i.entries.now (behind - 1) zero_entry in
    let order = c.entries_below-behind.ensures.order in
    let differ = c.if-behind-first.false in
    let j = jumped i.entries.now i.count i.passed i.least i.reader view behind zero_entry c.self.invariant (apart (i.passed / 128) behind order differ) c.entries_below-behind.ensures.within in
    j.later

pub move_to-requires-clause-within : goal.move_to-requires-clause-within
move_to-requires-clause-within g c =
    let i = c.self.inside in
    let view = positions_in (i.count - i.passed) i.least i.reader.left in
    let behind = c.entries_below-behind.result in
    let e = get_or i.entries.now (behind - 1) zero_entry in
    let order = c.entries_below-behind.ensures.order in
    let differ = c.if-behind-first.false in
    let j = jumped i.entries.now i.count i.passed i.least i.reader view behind zero_entry c.self.invariant (apart (i.passed / 128) behind order differ) c.entries_below-behind.ensures.within in
    j.within

pub overflow_mul-self : goal.overflow_mul-self
overflow_mul-self g c =
    let i = c.self.inside in
    let view = positions_in (i.count - i.passed) i.least i.reader.left in
    let behind = c.entries_below-behind.result in
    let e = get_or i.entries.now (behind - 1) zero_entry in
    let order = c.entries_below-behind.ensures.order in
    let differ = c.if-behind-first.false in
    let j = jumped i.entries.now i.count i.passed i.least i.reader view behind zero_entry c.self.invariant (apart (i.passed / 128) behind order differ) c.entries_below-behind.ensures.within in
    let f = j.fits in
    let n = placed_count i.entries.now i.count i.passed i.least i.reader view c.self.invariant in
    omega arith

pub overflow_cast-self : goal.overflow_cast-self
overflow_cast-self g c =
    let i = c.self.inside in
    let view = positions_in (i.count - i.passed) i.least i.reader.left in
    let behind = c.entries_below-behind.result in
    let e = get_or i.entries.now (behind - 1) zero_entry in
    let order = c.entries_below-behind.ensures.order in
    let differ = c.if-behind-first.false in
    let j = jumped i.entries.now i.count i.passed i.least i.reader view behind zero_entry c.self.invariant (apart (i.passed / 128) behind order differ) c.entries_below-behind.ensures.within in
    let f = j.fits in
    let n = placed_count i.entries.now i.count i.passed i.least i.reader view c.self.invariant in
    omega arith

pub invariant_of-self : goal.invariant_of-self
invariant_of-self g c =
    let i = c.self.inside in
    let view = positions_in (i.count - i.passed) i.least i.reader.left in
    let behind = c.entries_below-behind.result in
    let e = get_or i.entries.now (behind - 1) zero_entry in
    let order = c.entries_below-behind.ensures.order in
    let differ = c.if-behind-first.false in
    let j = jumped i.entries.now i.count i.passed i.least i.reader view behind zero_entry c.self.invariant (apart (i.passed / 128) behind order differ) c.entries_below-behind.ensures.within in
    jump_placed i.entries.now i.count i.passed i.least i.reader view behind e c.move_to.new.self j c.move_to.ensures

pub scan-requires-2 : goal.scan-requires-2
scan-requires-2 g c =
    let i = c.self.inside in
    let view = positions_in (i.count - i.passed) i.least i.reader.left in
    let behind = c.entries_below-behind.result in
    let e = get_or i.entries.now (behind - 1) zero_entry in
    let order = c.entries_below-behind.ensures.order in
    let differ = c.if-behind-first.false in
    let j = jumped i.entries.now i.count i.passed i.least i.reader view behind zero_entry c.self.invariant (apart (i.passed / 128) behind order differ) c.entries_below-behind.ensures.within in
    jump_near i.entries.now i.count i.passed i.least i.reader view behind e c.move_to.new.self c.args.least j c.move_to.ensures c.entries_below-behind.ensures.stop

pub returns-clause-given : goal.returns-clause-given
returns-clause-given g c =
    let i = c.self.inside in
    let view = positions_in (i.count - i.passed) i.least i.reader.left in
    let behind = c.entries_below-behind.result in
    let e = get_or i.entries.now (behind - 1) zero_entry in
    let order = c.entries_below-behind.ensures.order in
    let differ = c.if-behind-first.false in
    let j = jumped i.entries.now i.count i.passed i.least i.reader view behind zero_entry c.self.invariant (apart (i.passed / 128) behind order differ) c.entries_below-behind.ensures.within in
    let below = c.entries_below-behind.ensures.below zero_entry (apart (i.passed / 128) behind order differ) in
    let same = jump_given i.entries.now i.count i.passed i.least i.reader view behind e c.move_to.new.self c.args.least j c.move_to.ensures below ∙ ap (from_least c.args.least) c.self.view_is in
    subst (λ y. MatchOption c.scan-2.result ((y ≡ []) × (c.scan-2.new.self ≡ [])) (λ p. y ≡ p ∷ c.scan-2.new.self)) same c.scan-2.ensures.given

pub returns-clause-most_looks : goal.returns-clause-most_looks
returns-clause-most_looks g c =
    let i = c.self.inside in
    let view = positions_in (i.count - i.passed) i.least i.reader.left in
    let few = few_ahead i.entries.now i.count i.passed i.least i.reader view c.self.invariant in
    let same : length view ≡ length c.args.self.now = ap length c.self.view_is in
    search_cost c.args.steps.now c.entries_below-behind.new.steps c.scan-2.new.steps (length i.entries.now - i.passed / 128) (length c.args.self.now) c.entries_below-behind.ensures.least_looks c.entries_below-behind.ensures.most_looks (let x = few.0 in omega arith) c.scan-2.ensures.most_looks
