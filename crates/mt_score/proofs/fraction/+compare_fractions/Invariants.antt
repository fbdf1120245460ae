use Rattle.std.proofs.Common.{◌+◌}
use Rattle.mt_score.proofs.fraction.+compare_fractions.Given as goal

-- the denominators shrink
abbrev pub decreases-compare_fractions : goal.decreases-compare_fractions
decreases-compare_fractions l = l.b + l.d
