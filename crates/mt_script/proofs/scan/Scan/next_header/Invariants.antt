-- What was given out so far stands for nothing.
use Rattle.std.proofs.Common.{◌≡◌, [], length, None}
use Rattle.mt_script.specs.Scans.{wait, IsSound, Leads}
use Rattle.mt_script.proofs.scan.Scan.next_header.Given as goal

abbrev pub invariant-loop-end : goal.invariant-loop-end
invariant-loop-end l = record {
  sound : IsSound l.self;
  none : l.self.header ≡ None;
  held : l.self.held ≡ l.fn.self.held;
  leads : Leads l.fn.self [] l.self;
}

abbrev pub decreases-loop-end : goal.decreases-loop-end
decreases-loop-end l = length (wait l.self)
