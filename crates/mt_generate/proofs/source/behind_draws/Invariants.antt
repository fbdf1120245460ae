-- Draws are left, and the numbers of the next leap are those of the draws that a bit of what is left stands for.
use Rattle.mt_generate.proofs.Steps.{AreLeft}
use Rattle.mt_generate.proofs.source.behind_draws.Given as goal

abbrev pub invariant-loop-left : goal.invariant-loop-left
invariant-loop-left l = AreLeft l.seed l.draws l.number l.times l.plus l.left

abbrev pub decreases-loop-left : goal.decreases-loop-left
decreases-loop-left l = l.left
