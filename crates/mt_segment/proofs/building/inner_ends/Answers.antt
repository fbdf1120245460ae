use Rattle.std.proofs.Common.{List, ℕ, ap, arith}
use Rattle.mt_segment.proofs.Assembled.{ends_fit}
use Rattle.mt_segment.proofs.building.inner_ends.Goals as goal

pub overflow_add-end : goal.overflow_add-end
overflow_add-end c =
    omega (
      arith,
      ends_fit c.args.texts.now c.loop-number.number c.loop-number.end c.index-texts-number.result c.loop-number.invariant.end (omega (arith, c.loop-number-test.true, c.saturating_sub-count.ensures)) c.index-texts-number.is,
      ap (λ (head : List ℕ × ℕ). head.1) c.index-texts-number.is,
      c.requires,
    )
