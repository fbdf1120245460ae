use Rattle.std.proofs.Common.{◌+◌, ◌-◌, ◌/◌, ◌%◌, ◌∙◌, arith, length-set}
use Rattle.mt_places.specs.Places.{IsAbove}
use Rattle.mt_places.proofs.Bits.{just, one_before, rest_below}
use Rattle.mt_places.proofs.Moving.{far, raised_word}
use Rattle.mt_places.proofs.shifts.up.Goals as goal

pub loop-at-preserved : goal.loop-at-preserved
loop-at-preserved c =
    let h = c.loop-at.invariant in
    let first = c.args.set.now in
    let at = c.loop-at.at - 1 in
    let by = c.args.by in
    let high = c.word_before-high in
    let low = c.word_before-low in
    record {
      within = omega (arith, h.within, length-set c.loop-at.set at c.raised.result);
      done = one_before (IsAbove first by) c.loop-at.set at c.raised.result (omega arith) (λ j low lt. h.done j (omega arith) lt)
          (raised_word first by (by / 64) (by % 64) at high.result low.result c.raised.result (far by)
          high.ensures.none (λ some. high.ensures.some some ∙ h.rest (at - by / 64) (omega arith)) low.ensures.none (λ some. low.ensures.some some ∙ h.rest (at - (by / 64 + 1)) (omega arith))
          c.raised.ensures.first c.raised.ensures.others);
      rest = rest_below c.loop-at.set first at c.raised.result (λ j lt. h.rest j (omega arith));
    }

pub returns : goal.returns
returns c = just (IsAbove c.args.set.now c.args.by) c.loop-at.set (λ j lt. c.loop-at.invariant.done j (omega arith) lt)
