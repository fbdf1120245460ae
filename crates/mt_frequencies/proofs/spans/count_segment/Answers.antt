-- The spans of one text more are counted.
use Rattle.std.proofs.Common.{ℕ, ◌≡◌, List, length, replicate, arith, sym, ap, subst, ◌∙◌}
use Rattle.std.proofs.lemmas.List.{get_or_default}
use Rattle.mt_text_spec.specs.Texts.{Span}
use Rattle.mt_segment_spec.specs.Tables.{Tables, tables_at}
use Rattle.mt_corpus_spec.specs.Groups.{corpus_of}
use Rattle.mt_report_spec.specs.Near.{values_by}
use Rattle.mt_reports.proofs.Spans.{has_segment}
use Rattle.mt_frequencies.specs.declared.seen.Seen.{Seen}
use Rattle.mt_frequencies.specs.Amounts.{HasAmounts}
use Rattle.mt_frequencies.specs.Distances.{near_of}
use Rattle.mt_frequencies.specs.Seen.{ArePast, no_seen, seen_at, spans_seen}
use Rattle.mt_frequencies.proofs.Amounts.{amounts_more, amounts_none}
use Rattle.mt_frequencies.proofs.Begun.{inside_in, near_windows, text_in}
use Rattle.mt_frequencies.proofs.Nearby.{attr_there}
use Rattle.mt_frequencies.proofs.Parts.{none_at, past_none}
use Rattle.mt_frequencies.proofs.Valued.{spans_seen_at, spans_seen_length}
use Rattle.mt_frequencies.proofs.spans.count_segment.Goals as goal

none : Span
none = record { text = 0; begin = 0; end = 0 }

pub get-segment-requires : goal.get-segment-requires
get-segment-requires c = has_segment c.args.segments.now c.args.live.now c.args.spans.now c.requires.lie c.args.at.segment (c.requires.stands none).inside

pub get-requires : goal.get-requires
get-requires c = (c.requires.stands none).inside

pub lexicon-requires : goal.lexicon-requires
lexicon-requires c =
    attr_there c.args.segments.now c.args.near.now.attr c.args.at.segment c.get-segment.result.now c.requires.attr (has_segment c.args.segments.now c.args.live.now c.args.spans.now c.requires.lie c.args.at.segment (c.requires.stands none).inside) c.get-segment.ensures

pub loop-to-init : goal.loop-to-init
loop-to-init c =
    let count : length c.in_ok-seen.seen.items ≡ length (tables_at c.get-segment.result.now.attrs c.args.near.now.attr).lexicon = omega (arith, c.in_ok-seen.ensures.len, c.len-values.ensures.number, ap length c.lexicon.ensures) in
    let zeros : c.in_ok-seen.seen.items ≡ replicate c.len-values.result no_seen = c.in_ok-seen.ensures.items_if_clones_equal (λ y e. e) in
    record {
      from = omega arith;
      within = omega (arith, c.requires.from);
      count = count;
      past = subst (ArePast c.args.from) (sym zeros) (past_none c.args.from c.len-values.result);
      counted = λ images registry groups stand.
          amounts_none (tables_at c.get-segment.result.now.attrs c.args.near.now.attr).lexicon (values_by images registry (corpus_of groups) (near_of c.args.near.now)) c.args.spans.now c.args.from (spans_seen c.in_ok-seen.seen.items)
          (spans_seen_length c.in_ok-seen.seen.items ∙ count) (λ k l. spans_seen_at c.in_ok-seen.seen.items k ∙ ap (λ (all : List Seen). (seen_at all k).spans) zeros ∙ ap (λ (s : Seen). s.spans) (none_at c.len-values.result k));
    }

pub count_text-to-requires-clause-attr : goal.count_text-to-requires-clause-attr
count_text-to-requires-clause-attr c =
    attr_there c.args.segments.now c.args.near.now.attr c.args.at.segment c.get-segment.result.now c.requires.attr (has_segment c.args.segments.now c.args.live.now c.args.spans.now c.requires.lie c.args.at.segment (c.requires.stands none).inside) c.get-segment.ensures

pub count_text-to-requires-clause-text : goal.count_text-to-requires-clause-text
count_text-to-requires-clause-text c =
    text_in c.numbers_stand_for_values.ensures c.tokens_stand_in_texts.ensures c.args.segments.now c.args.live.now c.args.spans.now c.requires.lie c.args.at.segment c.args.at.before _ (c.requires.stands none) c.get-segment.result.now c.get-segment.ensures
    c.as_slice-texts.result.now c.get.result.now c.as_slice-texts.ensures c.get.ensures c.loop-to.to c.loop-to-test.true c.index-spans-to.result c.index-spans-to-in-loop-to.result c.index-spans-to.is c.index-spans-to-in-loop-to.is c.text.result c.text-in-loop-to.result c.text.ensures c.text-in-loop-to.ensures
    (c.is_among.ensures.0 c.if-is_among.true).0 (c.is_among.ensures.0 c.if-is_among.true).1

pub count_text-to-requires-clause-inside : goal.count_text-to-requires-clause-inside
count_text-to-requires-clause-inside c =
    inside_in c.numbers_stand_for_values.ensures c.tokens_stand_in_texts.ensures c.args.segments.now c.args.live.now c.args.spans.now c.requires.lie c.args.at.segment c.args.at.before _ (c.requires.stands none) c.get-segment.result.now c.get-segment.ensures
    c.as_slice-texts.result.now c.get.result.now c.as_slice-texts.ensures c.get.ensures c.loop-to.to c.loop-to-test.true c.index-spans-to.result c.index-spans-to-in-loop-to.result c.index-spans-to.is c.index-spans-to-in-loop-to.is c.text.result c.text-in-loop-to.result c.text.ensures c.text-in-loop-to.ensures
    (c.is_among.ensures.0 c.if-is_among.true).0 (c.is_among.ensures.0 c.if-is_among.true).1

pub loop-to-preserved : goal.loop-to-preserved
loop-to-preserved c = record {
  from = omega (arith, c.loop-to.invariant.from, c.count_text-to.ensures.from);
  within = c.count_text-to.ensures.to;
  count = c.count_text-to.ensures.count ∙ c.loop-to.invariant.count;
  past = c.count_text-to.ensures.past;
  counted = λ images registry groups stand.
      let near = values_by images registry (corpus_of groups) (near_of c.args.near.now) in
      amounts_more (tables_at c.get-segment.result.now.attrs c.args.near.now.attr).lexicon near c.args.spans.now c.args.from c.loop-to.to c.count_text-to.result (spans_seen c.loop-to.seen.items) (spans_seen c.count_text-to.new.seen.items)
      (spans_seen_length c.count_text-to.new.seen.items ∙ c.count_text-to.ensures.count ∙ sym (spans_seen_length c.loop-to.seen.items)) (c.loop-to.invariant.counted images registry groups stand)
      (c.count_text-to.ensures.counted near
      (near_windows c.numbers_stand_for_values.ensures c.tokens_stand_in_texts.ensures c.args.segments.now c.args.live.now c.args.spans.now c.requires.lie c.args.at.segment c.args.at.before _ (c.requires.stands none) c.get-segment.result.now c.get-segment.ensures
      c.as_slice-texts.result.now c.get.result.now c.as_slice-texts.ensures c.get.ensures c.loop-to.to c.loop-to-test.true c.index-spans-to.result c.index-spans-to-in-loop-to.result c.index-spans-to.is c.index-spans-to-in-loop-to.is c.text.result c.text-in-loop-to.result c.text.ensures c.text-in-loop-to.ensures
      (c.is_among.ensures.0 c.if-is_among.true).0 (c.is_among.ensures.0 c.if-is_among.true).1
      images registry groups stand c.args.near.now c.requires.distances
      (attr_there c.args.segments.now c.args.near.now.attr c.args.at.segment c.get-segment.result.now c.requires.attr (has_segment c.args.segments.now c.args.live.now c.args.spans.now c.requires.lie c.args.at.segment (c.requires.stands none).inside) c.get-segment.ensures)
      c.count_text-to.result c.count_text-to.ensures.to c.count_text-to.ensures.text));
}

pub returns-clause-amounts : goal.returns-clause-amounts
returns-clause-amounts c = λ images registry groups stand tables.
    let segment = has_segment c.args.segments.now c.args.live.now c.args.spans.now c.requires.lie c.args.at.segment (c.requires.stands none).inside in
    subst (λ (t : Tables). HasAmounts (tables_at t.attrs c.args.near.now.attr).lexicon (values_by images registry (corpus_of groups) (near_of c.args.near.now)) c.args.spans.now c.args.from c.loop-to.to c.in_ok-counts_of.field-0.items)
    (c.get-segment.ensures ∙ get_or_default c.args.segments.now c.args.at.segment c.get-segment.result.now tables segment)
    (subst (λ (counts : List ℕ). HasAmounts (tables_at c.get-segment.result.now.attrs c.args.near.now.attr).lexicon (values_by images registry (corpus_of groups) (near_of c.args.near.now)) c.args.spans.now c.args.from c.loop-to.to counts)
    (sym (c.in_ok-counts_of.ensures ∙ ap spans_seen c.as_slice.ensures.value)) (c.loop-to.invariant.counted images registry groups stand))
