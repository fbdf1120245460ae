-- The numbers at the places so far are told.
use Rattle.std.proofs.Common.{◌≡◌, ℕ, ◌+◌, ◌<◌, [], length, slice_index}
use Rattle.mt_segment_spec.specs.Tables.{number_at, tables_at}
use Rattle.mt_grammar_counts.proofs.texts.add_mapped_places.Given as goal

abbrev pub invariant-loop-place : goal.invariant-loop-place
invariant-loop-place g l = record {
  lexicon : l.collector.lexicon ≡ (tables_at l.text.segment.now.attrs l.text.registry.now.ws_attr).lexicon;
  given : l.collector.given ≡ [];
  counted : l.collector.counted ≡ l.initial.collector.counted;
  count : l.begin + length l.collector.numbers ≡ l.place;
  each : (k : ℕ) → k < length l.collector.numbers → slice_index l.collector.numbers k ≡ number_at l.text.segment.now l.attr (l.begin + k);
}
