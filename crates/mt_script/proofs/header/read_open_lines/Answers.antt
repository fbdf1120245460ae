use Rattle.mt_script.proofs.BatchSteps.{open_read}
use Rattle.mt_script.proofs.header.read_open_lines.Goals as goal

pub returns : goal.returns
returns c = open_read c.requires.front.0 c.args.front.now c.args.last.now c.without_return.result.now c.in_ok-read.read c.push.new.self c.in_ok-read_batch_line.field-0 c.requires.front.1 c.requires.last
    c.in_ok-read.ensures c.without_return.ensures c.in_ok-read_batch_line.ensures c.in_ok-push.ensures.ok
