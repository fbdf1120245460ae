use Rattle.std.proofs.Common.{arith}
use Rattle.std.specs.List.{All}
use Rattle.mt_eval_spec.specs.RowsIn.{MeetsIn}
use Rattle.mt_eval.proofs.Marks.{one_more}
use Rattle.mt_eval.proofs.conds.mark_met.Goals as goal

pub loop-i-preserved : goal.loop-i-preserved
loop-i-preserved g c = (
  one_more (λ row. All (MeetsIn c.args.segment.now row) c.args.conds.now) c.args.rows.now c.loop-i.marks.items c.push.new.self.items c.loop-i.i c.get-row.result c.meets_all.result
      c.get-row.ensures c.in_ok-push.ensures.items c.meets_all.ensures.meets c.loop-i.invariant.0,
  omega (arith, c.loop-i.invariant.1, c.meets_all.ensures.rises),
)
