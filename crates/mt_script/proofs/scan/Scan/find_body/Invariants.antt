-- The lines that were found so far belong to the body.
use Rattle.std.proofs.Common.{◌≡◌}
use Rattle.mt_script.specs.Scans.{IsSound}
use Rattle.mt_script.proofs.scan.Scan.find_body.Given as goal

abbrev pub invariant-loop-self : goal.invariant-loop-self
invariant-loop-self l = record {
  sound : IsSound l.self;
  start : l.self.start ≡ l.fn.self.start;
  held : l.self.held ≡ l.fn.self.held;
  header : l.self.header ≡ l.fn.self.header;
}

abbrev pub decreases-loop-self : goal.decreases-loop-self
decreases-loop-self l = l.self.missing
