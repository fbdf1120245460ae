-- The begins before `from` were looked at.
use Rattle.std.proofs.Common.{◌≡◌, ℕ, ◌-◌, ◌*◌, ◌≤◌, length}
use Rattle.mt_segment_spec.specs.Tables.{first_place}
use Rattle.mt_tally.proofs.MetBegins.{MetBelow}
use Rattle.mt_tally.proofs.conds.put_met.Given as goal

abbrev pub invariant-loop-at : goal.invariant-loop-at
invariant-loop-at g l = record {
  width : length l.met ≡ length l.entry.begins;
  met : (text : ℕ) → l.first ≡ first_place l.segment text → MetBelow l.segment l.conds l.entry text l.from l.met;
  rises : l.initial.steps ≤ l.steps;
}

abbrev pub decreases-loop-at : goal.decreases-loop-at
decreases-loop-at g l = 64 * length l.entry.begins - l.from
