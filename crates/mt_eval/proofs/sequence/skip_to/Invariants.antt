-- The positions that are left are those from some bound on, which is no greater than the one that is sought.
use Rattle.std.proofs.Common.{ℕ, ◌+◌, ◌≤◌, List, length}
use Rattle.mt_eval.specs.Walks.{IsLeft, due, left_of}
use Rattle.mt_eval.proofs.sequence.skip_to.Given as goal

abbrev pub invariant-loop-walk : goal.invariant-loop-walk
invariant-loop-walk g l =
    record {
      left : (positions : List ℕ) (bound : ℕ) → bound ≤ l.least → IsLeft positions bound (left_of l.initial.walk.next l.initial.walk.rest) → (b : ℕ) × (b ≤ l.least) × IsLeft positions b (left_of l.walk.next l.walk.rest);
      rises : l.initial.steps ≤ l.steps;
      due_is : (looks : ℕ) → l.steps + due looks l.walk.next l.walk.rest ≤ l.initial.steps + due looks l.initial.walk.next l.initial.walk.rest;
    }

abbrev pub decreases-loop-walk : goal.decreases-loop-walk
decreases-loop-walk g l = length (left_of l.walk.next l.walk.rest)
