use Rattle.std.proofs.Common.{◌-◌}
use Rattle.mt_prepare.proofs.test_rows.are_rare.Given as goal

abbrev pub decreases-loop-number : goal.decreases-loop-number
decreases-loop-number l = l._count - l.next
