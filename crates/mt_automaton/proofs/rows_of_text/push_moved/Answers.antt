use Rattle.std.proofs.Common.{arith}
use Rattle.std.proofs.lemmas.Option.{get_or_from_slice_get}
use Rattle.mt_automaton.proofs.MovedRows.{next_moved}
use Rattle.mt_automaton.proofs.rows_of_text.push_moved.Goals as goal

pub loop-i-preserved : goal.loop-i-preserved
loop-i-preserved c =
    next_moved c.args.base c.args.rows.now c.loop-i.i c.get.result c.moved_row.result c.args.out.now c.loop-i.out c.push.new.self (omega (arith, c.loop-i-test.true, c.len-i-end.ensures)) (get_or_from_slice_get c.args.rows.now c.loop-i.i c.get.result c.get.result c.get.ensures)
    c.moved_row.ensures c.loop-i.invariant c.in_ok-push.ensures.ok
