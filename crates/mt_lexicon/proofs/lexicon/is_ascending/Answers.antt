use Rattle.std.proofs.Common.{◌∙◌, true≢false, sym, refl, arith}
use Rattle.mt_lexicon.proofs.Order.{rising_on, next_more, side_by_side}
use Rattle.mt_lexicon.proofs.lexicon.is_ascending.Goals as goal

pub loop-place-preserved : goal.loop-place-preserved
loop-place-preserved c =
    next_more c.args.values.now c.loop-place.place c.get.result.now c.get-in-loop-place.result.now c.loop-place.invariant c.loop-place.auto.place c.get.ensures c.get-in-loop-place.ensures (c.is_below.ensures.0 c.if-not-is_below.false)

pub returns-then-not-is_below : goal.returns-then-not-is_below
returns-then-not-is_below c = (
  λ e. absurd (true≢false (sym e)),
  λ up. absurd (true≢false (sym (c.is_below.ensures.1 (side_by_side c.args.values.now c.loop-place.place c.get.result.now c.get-in-loop-place.result.now up c.loop-place.auto.place c.get.ensures c.get-in-loop-place.ensures)) ∙ c.if-not-is_below.true)),
)

pub returns : goal.returns
returns c = (λ _. rising_on c.args.values.now (λ k l. c.loop-place.invariant k (omega (arith, c.len-place-end.ensures))), λ _. refl)
