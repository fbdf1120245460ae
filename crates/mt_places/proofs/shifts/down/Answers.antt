use Rattle.std.proofs.Common.{ℕ, ◌+◌, ◌/◌, ◌%◌, ◌∙◌, arith}
use Rattle.mt_places.specs.Places.{In}
use Rattle.mt_places.proofs.Bits.{just, one_more, rest_above}
use Rattle.mt_places.proofs.Moving.{far, lowered_word}
use Rattle.mt_places.proofs.shifts.down.Goals as goal

pub loop-at-preserved : goal.loop-at-preserved
loop-at-preserved c =
    let h = c.loop-at.invariant in
    let first = c.args.set.now in
    let at = c.loop-at.at in
    let by = c.args.by in
    let low = c.word_behind-low in
    let high = c.word_behind-high in
    record {
      done = one_more (λ (k : ℕ). In first (k + by)) c.loop-at.set at c.lowered.result (omega arith) h.done
          (lowered_word first by (by / 64) (by % 64) at low.result high.result c.lowered.result (far by)
          (low.ensures ∙ h.rest (at + by / 64) (omega arith)) (high.ensures ∙ h.rest (at + (by / 64 + 1)) (omega arith)) c.lowered.ensures.first c.lowered.ensures.others);
      rest = rest_above c.loop-at.set first at c.lowered.result h.rest;
    }

pub returns : goal.returns
returns c = just (λ (k : ℕ). In c.args.set.now (k + c.args.by)) c.loop-at.set (λ j lt. c.loop-at.invariant.done j (omega arith))
