use Rattle.mt_script.specs.Scans.{wait}
use Rattle.mt_script.proofs.ScanSteps.{gives_after}
use Rattle.mt_script.proofs.scan.Scan.begin.Goals as goal

pub returns-in-Ok-Header-clause-gives : goal.returns-in-Ok-Header-clause-gives
returns-in-Ok-Header-clause-gives c =
    let found = rw c.in-Ok-Header.field-0-is at c.in-Ok-Header.ensures.found in
    gives_after c.args.ended (wait c.args.self.now) (wait c.next_header.new.self) (wait c.finish.new.self) c.finish.result (found.1 c.args.ended) c.finish.ensures.gives

pub returns-then-ended-clause-gives : goal.returns-then-ended-clause-gives
returns-then-ended-clause-gives c =
    let found = rw c.in-Ok-Partial.field-0-is at c.in-Ok-Partial.ensures.found in
    let gives = rw (← c.if-ended.true) at c.take_last_line.ensures.gives in
    gives_after c.args.ended (wait c.args.self.now) (wait c.next_header.new.self) (wait c.take_last_line.new.self) c.take_last_line.result (found.1 c.args.ended) gives
