use Rattle.std.proofs.Common.{◌≡◌, ◌+◌, ◌-◌, ◌/◌, ◌∙◌, length, arith, sym, ap, Some}
use Rattle.mt_lexicon.proofs.Halves.{halved, last}
use Rattle.mt_lexicon.proofs.Order.{all_below, all_above, absent, same_from_equal}
use Rattle.mt_lexicon.proofs.lexicon.Lexicon.find.Goals as goal

pub returns-in-Equal-clause-found : goal.returns-in-Equal-clause-found
returns-in-Equal-clause-found g c =
    rw (← c.self.view_is) (c.get.ensures ∙ ap Some (same_from_equal c.get.result.now c.args.value.now (sym c.in-Equal.ensures)))

pub returns-in-Equal-clause-cost : goal.returns-in-Equal-clause-cost
returns-in-Equal-clause-cost g c =
    let e : c.tick.new.self - c.args.steps.now ≡ c.loop-low.steps - c.args.steps.now + 1 = omega arith in
    rw (e, ← c.self.view_is) (last (c.loop-low.steps - c.args.steps.now) (c.loop-low.high - c.loop-low.low) (length c.self.inside.values) c.loop-low.invariant.cost (omega arith))

pub loop-low-preserved-in-Less : goal.loop-low-preserved-in-Less
loop-low-preserved-in-Less g c =
    let e : c.tick.new.self - c.args.steps.now ≡ c.loop-low.steps - c.args.steps.now + 1 = omega arith in
    let middle = c.loop-low.low + (c.loop-low.high - c.loop-low.low) / 2 in
    record {
      order = omega arith;
      within = omega arith;
      below = all_below c.self.inside.values c.args.value.now c.get.result.now middle c.self.invariant.1 c.get.ensures (sym c.in-Less.ensures);
      above = c.loop-low.invariant.above;
      rises = omega arith;
      cost = rw e (halved (c.loop-low.steps - c.args.steps.now) (c.loop-low.high - c.loop-low.low) (c.loop-low.high - (middle + 1)) (length c.self.inside.values) c.loop-low.invariant.cost (omega arith));
      total = rw e (last (c.loop-low.steps - c.args.steps.now) (c.loop-low.high - c.loop-low.low) (length c.self.inside.values) c.loop-low.invariant.cost (omega arith));
    }

pub loop-low-preserved : goal.loop-low-preserved
loop-low-preserved g c =
    let e : c.tick.new.self - c.args.steps.now ≡ c.loop-low.steps - c.args.steps.now + 1 = omega arith in
    let middle = c.loop-low.low + (c.loop-low.high - c.loop-low.low) / 2 in
    record {
      order = omega arith;
      within = omega arith;
      below = c.loop-low.invariant.below;
      above = all_above c.self.inside.values c.args.value.now c.get.result.now middle c.self.invariant.1 c.get.ensures (sym c.in-Greater.ensures);
      rises = omega arith;
      cost = rw e (halved (c.loop-low.steps - c.args.steps.now) (c.loop-low.high - c.loop-low.low) (middle - c.loop-low.low) (length c.self.inside.values) c.loop-low.invariant.cost (omega arith));
      total = rw e (last (c.loop-low.steps - c.args.steps.now) (c.loop-low.high - c.loop-low.low) (length c.self.inside.values) c.loop-low.invariant.cost (omega arith));
    }

pub returns-clause-none : goal.returns-clause-none
returns-clause-none g c =
    rw (← c.self.view_is) (absent c.self.inside.values c.args.value.now c.loop-low.low c.loop-low.high c.loop-low.invariant.below c.loop-low.invariant.above (omega arith))
