use Rattle.mt_rows.proofs.Sweeps.{front_step, all_late}
use Rattle.mt_rows.proofs.filters.advance.Goals as goal

pub loop-span-preserved : goal.loop-span-preserved
loop-span-preserved c =
    let operand = c.args.operand.now in
    let taken = c.loop-span.front.taken in
    let best = c.loop-span.front.best in
    let f = c.loop-span.invariant in
    let next = c.in-Some.ensures.some in
    front_step operand taken best c.farther.new.best c.in-Some.span c.args.to f next.0 next.1 (c.farther.ensures operand taken c.requires.operand next.0 f.farthest)

pub returns-clause-rest : goal.returns-clause-rest
returns-clause-rest c = all_late c.args.operand.now c.loop-span.front.taken c.args.to c.requires.operand c.in_default.ensures.none
