-- The spans so far are counted.
use Rattle.std.proofs.Common.{◌-◌, ◌≤◌, List, length, take}
use Rattle.mt_text_spec.specs.Registries.{Registry}
use Rattle.mt_match_spec.specs.Values.{Images}
use Rattle.mt_corpus_spec.specs.Groups.{Group, corpus_of}
use Rattle.mt_report_spec.specs.Held.{StandFor}
use Rattle.mt_report_spec.specs.Near.{values_by}
use Rattle.mt_reports.specs.Places.{IsAt}
use Rattle.mt_frequencies.specs.Distances.{near_of}
use Rattle.mt_frequencies.specs.Tallies.{IsTally, counts_in}
use Rattle.mt_frequencies.proofs.spans.count_spans.Given as goal

abbrev pub invariant-loop-from : goal.invariant-loop-from
invariant-loop-from l = record {
  within : l.from ≤ length l.spans;
  at : IsAt l.live l.at.segment l.at.before;
  tally : (images : Images) (registry : Registry) (groups : List Group) → StandFor images registry groups l.segments l.live → IsTally (values_by images registry (corpus_of groups) (near_of l.near)) (take l.from l.spans) (counts_in l.tally);
}

abbrev pub decreases-loop-from : goal.decreases-loop-from
decreases-loop-from l = length l.spans - l.from
