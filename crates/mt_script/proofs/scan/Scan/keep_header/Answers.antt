use Rattle.std.proofs.Common.{◌+◌, arith, refl}
use Rattle.mt_script_spec.specs.Script.{Nothing}
use Rattle.mt_script.specs.Scans.{wait}
use Rattle.mt_script.proofs.ScanSteps.{bad_here, opened_here, looked_from}
use Rattle.mt_script.proofs.scan.Scan.keep_header.Goals as goal

pub returns-in-None-clause-found : goal.returns-in-None-clause-found
returns-in-None-clause-found c =
    let none = rw c.in-None.is at c.in_ok-read_header.ensures in (
      c.give_out.ensures.header,
      λ ended. bad_here (wait c.args.self.now) c.without_return.result.now c.waiting.result.now (wait c.give_out.new.self) c.args.end c.requires.line c.requires.stays
          c.without_return.ensures c.waiting.ensures none c.give_out.ensures.wait,
    )

pub returns-in-Some-clause-sound : goal.returns-in-Some-clause-sound
returns-in-Some-clause-sound c =
    let good = rw c.in-Some.is at c.in_ok-read_header.ensures in
    let line = c.requires.line in
    record {
      within = c.requires.sound.within;
      looked = looked_from (wait c.args.self.now) (c.args.end + 1) (omega arith);
      opens = opened_here (wait c.args.self.now) c.without_return.result.now c.waiting.result.now c.args.end _ c.lines-self.result c.requires.line c.requires.stays
          c.without_return.ensures c.waiting.ensures good c.lines-self.ensures;
    }

pub returns-in-Some-clause-found : goal.returns-in-Some-clause-found
returns-in-Some-clause-found c = (refl, λ ended. Nothing (wait c.args.self.now))
