-- The spans so far lie in the segment, and they are counted.
use Rattle.std.proofs.Common.{◌≡◌, ℕ, ◌<◌, ◌-◌, ◌≤◌, List, get_or, length}
use Rattle.mt_text_spec.specs.Registries.{Registry}
use Rattle.mt_match_spec.specs.Values.{Images}
use Rattle.mt_segment_spec.specs.Tables.{tables_at}
use Rattle.mt_corpus_spec.specs.Groups.{Group, corpus_of}
use Rattle.mt_report_spec.specs.Held.{StandFor}
use Rattle.mt_report_spec.specs.Near.{near_begin, values_by}
use Rattle.mt_frequencies.specs.Amounts.{HasAmounts}
use Rattle.mt_frequencies.proofs.begins.count_segment.Given as goal

abbrev pub invariant-loop-to : goal.invariant-loop-to
invariant-loop-to l = record {
  from : l.from ≤ l.to;
  within : l.to ≤ length l.spans;
  count : length l.counts.items ≡ length (tables_at l.segment.attrs l.attr).lexicon;
  few : (number : ℕ) → number < length l.counts.items → get_or l.counts.items number 0 ≤ l.to;
  counted : (images : Images) (registry : Registry) (groups : List Group) → StandFor images registry groups l.segments l.live →
      HasAmounts (tables_at l.segment.attrs l.attr).lexicon (values_by images registry (corpus_of groups) (near_begin l.attr l.distance)) l.spans l.from l.to l.counts.items;
}

abbrev pub decreases-loop-to : goal.decreases-loop-to
decreases-loop-to l = length l.spans - l.to
