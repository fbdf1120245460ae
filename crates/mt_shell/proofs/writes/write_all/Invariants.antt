-- What was written so far are the first bytes of the piece.
use Rattle.std.proofs.Common.{◌≡◌, ◌≤◌, ◌-◌, length, take, ◌++◌, Some}
use Rattle.mt_outside.specs.Told.{Told}
use Rattle.mt_shell.specs.Outsides.{writes_on}
use Rattle.mt_shell.proofs.writes.write_all.Given as goal

abbrev pub invariant-loop-done : goal.invariant-loop-done
invariant-loop-done g l =
    let seen = g.E.Edge.seen in
    record {
      within : l.done ≤ length l.piece;
      told : Told (seen l.fn.edge).written (λ all. (seen l.edge).written ≡ Some (all ++ take l.done l.piece));
      faults : (seen l.edge).sink_faults ≡ (seen l.fn.edge).sink_faults;
      only : seen l.edge ≡ writes_on (seen l.fn.edge) (seen l.edge);
      names : g.E.Edge.names l.edge ≡ g.E.Edge.names l.fn.edge;
    }

abbrev pub decreases-loop-done : goal.decreases-loop-done
decreases-loop-done g l = length l.piece - l.done
