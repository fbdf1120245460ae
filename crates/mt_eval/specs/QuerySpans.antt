-- The spans of a query, which stand in its rows or apart.
use Rattle.std.specs.Prelude.{List, map}
use Rattle.mt_text_spec.specs.Texts.{Span}
use Rattle.mt_eval.specs.declared.query_spans.KeptSpans.{KeptSpans}
use Rattle.mt_eval.specs.declared.query_spans.KeptSpans.TheVariants.{InRows, Apart}

-- the spans as a list
abbrev pub spans_kept : KeptSpans → List Span
spans_kept (InRows rows) = map (λ row. row.span) rows
spans_kept (Apart spans) = spans
