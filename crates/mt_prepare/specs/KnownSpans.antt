-- Spans of a segment that were listed before.
use Rattle.std.specs.List.{All}
use Rattle.mt_text_spec.specs.Queries as q
use Rattle.mt_segment_spec.specs.Tables.{Tables}
use Rattle.mt_prepare.specs.Resolved.{AreSpansOf}
use Rattle.mt_prepare.specs.declared.known_spans.KindSpans.{KindSpans}
use Rattle.mt_prepare.specs.declared.known_spans.KnownSpans.{KnownSpans}

-- each of them are the spans of all instances in the segment of the kind that they are kept for
abbrev pub AreSpansKnown : Tables → KnownSpans → Type 0
AreSpansKnown tables known = All (λ (kept : KindSpans). AreSpansOf tables (record { kind = kept.kind; test = q.Any }) kept.spans) known.kinds.items
