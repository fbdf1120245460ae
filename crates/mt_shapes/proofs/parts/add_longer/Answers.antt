use Rattle.std.proofs.Common.{◌+◌, ◌≤◌, arith}
use Rattle.mt_shapes.proofs.Bits.{in_room}
use Rattle.mt_shapes.proofs.Whole.{none_below, next_longer, all_longer}
use Rattle.mt_shapes.proofs.parts.add_longer.Goals as goal

pub loop-at-init : goal.loop-at-init
loop-at-init g c = record { within = omega arith; added = none_below (g.V.View.seen c.args.view.now) c.args.tag c.args.last c.args.out.now.items c.requires.fine }

pub overflow_add-from : goal.overflow_add-from
overflow_add-from g c =
    let low : c.in-Some.at ≤ c.args.last = c.requires.inside c.in-Some.at c.in-Some.ensures.found.is_in in
    omega (arith, low, c.requires.few)

pub loop-at-smaller : goal.loop-at-smaller
loop-at-smaller g c =
    let found = c.in-Some.ensures.found in
    let lt = in_room c.args.begins.now c.in-Some.at found.is_in in omega (arith, lt, found.from)

pub loop-at-preserved : goal.loop-at-preserved
loop-at-preserved g c =
    let v = g.V.View.seen c.args.view.now in
    let found = c.in-Some.ensures.found in
    let low : c.in-Some.at ≤ c.args.last = c.requires.inside c.in-Some.at found.is_in in
    record {
      within = omega (arith, low);
      added =
          next_longer v c.args.tag c.args.last c.loop-at.from c.in-Some.at c.args.out.now.items c.loop-at.out.items c.add_longer_at.new.out.items found.from
          (λ b e longer on below. found.none_before b on below (c.requires.all b e longer)) c.loop-at.invariant.added c.in_ok-add_longer_at.ensures;
    }

pub returns : goal.returns
returns g c =
    all_longer (g.V.View.seen c.args.view.now) c.args.tag c.args.last c.loop-at.from (c.args.last + 1) c.args.out.now.items c.loop-at.out.items c.loop-at.invariant.within
    (λ b e longer on. c.in_default.ensures.none b on (c.requires.all b e longer)) c.loop-at.invariant.added
