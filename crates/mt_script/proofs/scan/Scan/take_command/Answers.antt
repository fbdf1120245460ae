use Rattle.std.proofs.Common.{ap, sym, slice_range}
use Rattle.mt_script.specs.Scans.{wait}
use Rattle.mt_script.specs.Seen.{command_of}
use Rattle.mt_script.proofs.ScanSteps.{command_here}
use Rattle.mt_script.proofs.scan.Scan.take_command.Goals as goal

pub returns-clause-gives : goal.returns-clause-gives
returns-clause-gives c = λ ended.
    let body = ap (λ s. slice_range s c.args.self.now.body c.args.self.now.line) c.waiting.ensures in
    command_here c.args.self.now.header c.in-Some.header (wait c.args.self.now) (wait c.give_out-in-Some.new.self) (slice_range c.waiting.result.now c.args.self.now.body c.args.self.now.line)
    c.args.self.now.body c.args.self.now.line c.args.self.now.missing (sym c.in-Some.ensures.value) c.requires.sound.opens c.requires.whole body c.give_out-in-Some.ensures.wait
    (command_of c.in-Ok.command) c.in-Ok.ensures
