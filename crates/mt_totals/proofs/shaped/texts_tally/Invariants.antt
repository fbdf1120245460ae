-- The rows and spans in the texts so far are counted.
use Rattle.std.proofs.Common.{◌≤◌, take}
use Rattle.mt_prepare.specs.Sighted.{IsSighted}
use Rattle.mt_totals.specs.Tallies.{HasTallyIn}
use Rattle.mt_totals.proofs.shaped.texts_tally.Given as goal

abbrev pub invariant-loop-text : goal.invariant-loop-text
invariant-loop-text g l = record {
  tally : HasTallyIn l.segment (take l.text-index l.texts) l.query l.rows l.spans;
  within : l.rows ≤ l.room;
  sighted : IsSighted l.segment l.query.head l.sighted;
  rises : l.initial.steps ≤ l.steps;
}
