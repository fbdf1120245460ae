use Rattle.mt_script.proofs.BatchSteps.{one_line_more, all_read}
use Rattle.mt_script.proofs.header.read_lines.Goals as goal

pub loop-line-preserved : goal.loop-line-preserved
loop-line-preserved c = one_line_more c.args.body.now c.in-Some.line.now c.loop-line.line-iterator c.next.new.self c.loop-line.read c.push.new.self
    c.in_ok-read_batch_line.field-0 c.loop-line.invariant c.in-Some.ensures.steps c.in_ok-read_batch_line.ensures c.in_ok-push.ensures.ok

pub returns : goal.returns
returns c = all_read c.args.body.now c.loop-line.line-iterator c.loop-line.read c.loop-line.invariant c.in-None.ensures.steps.0
