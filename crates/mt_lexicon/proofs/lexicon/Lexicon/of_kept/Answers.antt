use Rattle.std.proofs.Common.{◌<◌, length, arith}
use Rattle.mt_lexicon.proofs.Kept.{one_dropped, one_kept, flag_at}
use Rattle.mt_lexicon.proofs.lexicon.Lexicon.of_kept.Goals as goal
use Rattle.mt_lexicon.proofs.lexicon.Lexicon.of_kept.Goals.{then-keep+in_ok-push-2, else-keep}

pub loop-number-preserved : goal.loop-number-preserved
loop-number-preserved c =
    let low : c.loop-number.number < length c.args.kept.now = omega (arith, c.loop-number-test.true) in
    elim c.if-keep.branch [
      | then-keep+in_ok-push-2 w ↦
          rw (w.values-is, w.in_ok-push-2.ensures.ok, c.in_ok-push.ensures.items)
          (one_kept c.args.kept.now c.self.inside.values c.loop-number.number c.loop-number.values c.loop-number.numbers.items c.get-value.result.now c.loop-number.invariant c.self.invariant.1 c.get-value.ensures
          c.len.result c.len.ensures (flag_at c.args.kept.now c.loop-number.number _ _ low w.if-keep.true))
      | else-keep w ↦
          rw (w.values-is, c.in_ok-push.ensures.items)
          (one_dropped c.args.kept.now c.self.inside.values c.loop-number.number c.loop-number.values c.loop-number.numbers.items c.get-value.result.now c.loop-number.invariant c.self.invariant.1 c.get-value.ensures
          c.len.result (flag_at c.args.kept.now c.loop-number.number _ _ low w.if-keep.false))
    ]
