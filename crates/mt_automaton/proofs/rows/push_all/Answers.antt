use Rattle.std.proofs.Common.{arith}
use Rattle.mt_automaton.proofs.Listed.{take_next}
use Rattle.mt_automaton.proofs.rows.push_all.Goals as goal

pub loop-row-preserved : goal.loop-row-preserved
loop-row-preserved c = take_next c.args.rows.now c.loop-row.row-index c.row-item.result c.args.out.now c.loop-row.out c.push.new.self (omega arith) c.row-item.is c.loop-row.invariant c.in_ok-push.ensures.ok
