-- The places from `place` on are done.
use Rattle.std.proofs.Common.{◌+◌, ◌-◌, ◌<◌, ◌≤◌, ℕ}
use Rattle.mt_prepare.specs.TestRows.{IsSoughtAt}
use Rattle.mt_prepare.proofs.Gathering.{Gathered}
use Rattle.mt_prepare.proofs.column_rows.word_of.Given as goal

abbrev pub invariant-loop-place : goal.invariant-loop-place
invariant-loop-place g l =
    record {
      from : l.first ≤ l.place;
      within : l.place ≤ l.tokens;
      near : l.place ≤ l.first + 64;
      word : Gathered (λ (place : ℕ). (place < l.tokens) × IsSoughtAt l.column l.sought place) l.place (l.first + 64) l.word;
      rises : l.initial.steps ≤ l.steps;
    }

abbrev pub decreases-loop-place : goal.decreases-loop-place
decreases-loop-place g l = l.place - l.first
