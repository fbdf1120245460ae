-- The test says so of the tokens so far.
use Rattle.std.proofs.Common.{◌≤◌}
use Rattle.mt_eval.specs.Gapped.{IsMetOver}
use Rattle.mt_eval.proofs.gapped.reach_of.Given as goal

abbrev pub invariant-loop-turns : goal.invariant-loop-turns
invariant-loop-turns g l =
    record {
      met : IsMetOver l.segment l.text l.test l.begin l.turns;
      rises : l.initial.steps ≤ l.steps;
    }
