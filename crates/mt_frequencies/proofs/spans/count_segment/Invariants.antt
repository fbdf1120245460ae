-- The spans so far lie in the segment, and they are counted.
use Rattle.std.proofs.Common.{◌≡◌, ◌-◌, ◌≤◌, List, length}
use Rattle.mt_text_spec.specs.Registries.{Registry}
use Rattle.mt_match_spec.specs.Values.{Images}
use Rattle.mt_segment_spec.specs.Tables.{tables_at}
use Rattle.mt_corpus_spec.specs.Groups.{Group, corpus_of}
use Rattle.mt_report_spec.specs.Held.{StandFor}
use Rattle.mt_report_spec.specs.Near.{values_by}
use Rattle.mt_frequencies.specs.Amounts.{HasAmounts}
use Rattle.mt_frequencies.specs.Distances.{near_of}
use Rattle.mt_frequencies.specs.Seen.{ArePast, spans_seen}
use Rattle.mt_frequencies.proofs.spans.count_segment.Given as goal

abbrev pub invariant-loop-to : goal.invariant-loop-to
invariant-loop-to l = record {
  from : l.from ≤ l.to;
  within : l.to ≤ length l.spans;
  count : length l.seen.items ≡ length (tables_at l.segment.attrs l.near.attr).lexicon;
  past : ArePast l.to l.seen.items;
  counted : (images : Images) (registry : Registry) (groups : List Group) → StandFor images registry groups l.segments l.live →
      HasAmounts (tables_at l.segment.attrs l.near.attr).lexicon (values_by images registry (corpus_of groups) (near_of l.near)) l.spans l.from l.to (spans_seen l.seen.items);
}

abbrev pub decreases-loop-to : goal.decreases-loop-to
decreases-loop-to l = length l.spans - l.to
