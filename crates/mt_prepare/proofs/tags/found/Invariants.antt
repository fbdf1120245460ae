-- The spans of the first texts that are found are there.
use Rattle.std.proofs.Common.{[], ◌≤◌}
use Rattle.mt_prepare.specs.Judges.{AddsFound, IsFoundBelow}
use Rattle.mt_prepare.proofs.tags.found.Given as goal

abbrev pub invariant-loop-text : goal.invariant-loop-text
invariant-loop-text g l = record {
  found : AddsFound (IsFoundBelow l.segment l.kind l.judge l.text) [] l.spans.items;
  rises : l.initial.steps ≤ l.steps;
}
