-- What is doubled so often is still below two.
use Rattle.std.proofs.Common.{◌≡◌, ◌-◌, ◌*◌, ◌^◌, ◌<◌}
use Rattle.mt_score.proofs.wide.great_score.Given as goal

abbrev pub invariant-loop-doubled : goal.invariant-loop-doubled
invariant-loop-doubled l = record { is : l.doubled ≡ l.two_f * 2 ^ l.doublings; below : l.doubled < 2 * l.sum; some : 0 < l.doubled; few : l.doublings < 66 }

abbrev pub decreases-loop-doubled : goal.decreases-loop-doubled
decreases-loop-doubled l = l.sum - l.doubled
