use Rattle.std.proofs.Common.{◌-◌, ◌+◌, arith}
use Rattle.mt_script.specs.Scans.{wait}
use Rattle.mt_script.proofs.ScanSteps.{opens_more, looked_from, some_too}
use Rattle.mt_script.proofs.scan.Scan.find_body.Goals as goal

pub loop-self-preserved : goal.loop-self-preserved
loop-self-preserved c =
    let line = rw c.waiting.ensures at c.in-Some.ensures.found in
    let was = c.loop-self.invariant in
    record {
      sound = record {
        within = was.sound.within;
        looked = looked_from (wait c.loop-self.self) (c.in-Some.end + 1) (let l = line.within in omega arith);
        opens = opens_more c.loop-self.self.header (wait c.loop-self.self) c.loop-self.self.body c.loop-self.self.line c.in-Some.end c.loop-self.self.missing (c.loop-self.self.missing - 1)
            (some_too _ _ was.header c.requires.some) was.sound.opens line (omega arith);
      };
      start = was.start;
      held = was.held;
      header = was.header;
    }
