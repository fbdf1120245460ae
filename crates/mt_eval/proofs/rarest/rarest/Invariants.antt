use Rattle.mt_eval.specs.Rarest.{IsBest}
use Rattle.mt_eval.proofs.rarest.rarest.Given as goal

abbrev pub invariant-loop-number : goal.invariant-loop-number
invariant-loop-number l = IsBest l.segment l.tests l.number l.best
