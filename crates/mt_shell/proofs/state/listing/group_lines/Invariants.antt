-- The lines of the segments so far stand behind the number of all.
use Rattle.std.proofs.Common.{◌≡◌}
use Rattle.mt_shell.proofs.Listing.{lines_so_far}
use Rattle.mt_shell.proofs.state.listing.group_lines.Given as goal

abbrev pub invariant-loop-i : goal.invariant-loop-i
invariant-loop-i l = l.lines ≡ lines_so_far l.segments l.live l.i
