-- The spans of the instances so far that are found are added.
use Rattle.std.proofs.Common.{take, ◌≤◌}
use Rattle.mt_prepare.specs.Judges.{AddsFound, IsFound}
use Rattle.mt_prepare.proofs.tags.add_found.Given as goal

abbrev pub invariant-loop-instance : goal.invariant-loop-instance
invariant-loop-instance g l = record {
  found : AddsFound (IsFound (take l.instance-index l.instances) l.text l.judge) l.initial.spans.items l.spans.items;
  rises : l.initial.steps ≤ l.steps;
}
