-- The tests so far say so.
use Rattle.std.proofs.Common.{◌+◌, ◌-◌, ◌≤◌}
use Rattle.std.specs.List.{All}
use Rattle.mt_eval.specs.Sequences.{IsOne, SayFrom}
use Rattle.mt_eval.proofs.looks.say_from.Given as goal

abbrev pub invariant-loop-n : goal.invariant-loop-n
invariant-loop-n g l =
    record {
      say : SayFrom l.segment l.tests l.from l.n l.place;
      rises : l.initial.steps ≤ l.steps;
      ones : All IsOne l.tests → l.steps ≤ l.initial.steps + (l.n - l.from);
    }
