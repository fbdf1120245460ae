-- The spans of one text more are counted.
use Rattle.std.proofs.Common.{ℕ, ◌≡◌, List, length, get_or, w32, ℤ, to_z, of_z, arith, ap, subst, ◌∙◌}
use Rattle.std.proofs.lemmas.Int.{to_z-of_z}
use Rattle.std.proofs.lemmas.List.{get_or_default}
use Rattle.mt_text_spec.specs.Texts.{Span}
use Rattle.mt_segment_spec.specs.Tables.{Tables, tables_at}
use Rattle.mt_corpus_spec.specs.Groups.{corpus_of}
use Rattle.mt_report_spec.specs.Near.{near_begin, values_by}
use Rattle.mt_reports.proofs.Spans.{has_segment}
use Rattle.mt_frequencies.specs.Amounts.{HasAmounts}
use Rattle.mt_frequencies.proofs.Amounts.{amounts_more, amounts_none, zeros_at}
use Rattle.mt_frequencies.proofs.Begun.{begins_in, near_told, text_in}
use Rattle.mt_frequencies.proofs.Nearby.{attr_there}
use Rattle.mt_frequencies.proofs.begins.count_segment.Goals as goal

none : Span
none = record { text = 0; begin = 0; end = 0 }

pub get-segment-requires : goal.get-segment-requires
get-segment-requires c = has_segment c.args.segments.now c.args.live.now c.args.spans.now c.requires.lie c.args.at.segment (c.requires.stands none).inside

pub get-requires : goal.get-requires
get-requires c = (c.requires.stands none).inside

pub lexicon-requires : goal.lexicon-requires
lexicon-requires c =
    attr_there c.args.segments.now c.args.attr c.args.at.segment c.get-segment.result.now c.requires.attr (has_segment c.args.segments.now c.args.live.now c.args.spans.now c.requires.lie c.args.at.segment (c.requires.stands none).inside) c.get-segment.ensures

pub loop-to-init : goal.loop-to-init
loop-to-init c =
    let count : length c.in_ok-counts.counts.items ≡ length (tables_at c.get-segment.result.now.attrs c.args.attr).lexicon = omega (arith, c.in_ok-counts.ensures.len, c.len.ensures.number, ap length c.lexicon.ensures) in
    let zeros : (k : ℕ) → get_or c.in_ok-counts.counts.items k 0 ≡ 0 = λ k. ap (λ (counts : List ℕ). get_or counts k 0) (c.in_ok-counts.ensures.items_if_clones_equal (λ y e. e)) ∙ zeros_at c.len.result k in
    record {
      from = omega arith;
      within = omega (arith, c.requires.from);
      count = count;
      few = λ number l. omega (arith, zeros number);
      counted = λ images registry groups stand.
          amounts_none (tables_at c.get-segment.result.now.attrs c.args.attr).lexicon (values_by images registry (corpus_of groups) (near_begin c.args.attr (to_z w32 (of_z w32 c.args.distance)))) c.args.spans.now c.args.from c.in_ok-counts.counts.items count (λ k l. zeros k);
    }

pub count_text-to-requires-clause-attr : goal.count_text-to-requires-clause-attr
count_text-to-requires-clause-attr c =
    attr_there c.args.segments.now c.args.attr c.args.at.segment c.get-segment.result.now c.requires.attr (has_segment c.args.segments.now c.args.live.now c.args.spans.now c.requires.lie c.args.at.segment (c.requires.stands none).inside) c.get-segment.ensures

pub count_text-to-requires-clause-text : goal.count_text-to-requires-clause-text
count_text-to-requires-clause-text c =
    text_in c.numbers_stand_for_values.ensures c.tokens_stand_in_texts.ensures c.args.segments.now c.args.live.now c.args.spans.now c.requires.lie c.args.at.segment c.args.at.before _ (c.requires.stands none) c.get-segment.result.now c.get-segment.ensures
    c.as_slice-texts.result.now c.get.result.now c.as_slice-texts.ensures c.get.ensures c.loop-to.to c.loop-to-test.true c.index-spans-to.result c.index-spans-to-in-loop-to.result c.index-spans-to.is c.index-spans-to-in-loop-to.is c.text.result c.text-in-loop-to.result c.text.ensures c.text-in-loop-to.ensures
    (c.is_among.ensures.0 c.if-is_among.true).0 (c.is_among.ensures.0 c.if-is_among.true).1

pub count_text-to-requires-clause-begins : goal.count_text-to-requires-clause-begins
count_text-to-requires-clause-begins c =
    begins_in c.numbers_stand_for_values.ensures c.tokens_stand_in_texts.ensures c.args.segments.now c.args.live.now c.args.spans.now c.requires.lie c.args.at.segment c.args.at.before _ (c.requires.stands none) c.get-segment.result.now c.get-segment.ensures
    c.as_slice-texts.result.now c.get.result.now c.as_slice-texts.ensures c.get.ensures c.loop-to.to c.loop-to-test.true c.index-spans-to.result c.index-spans-to-in-loop-to.result c.index-spans-to.is c.index-spans-to-in-loop-to.is c.text.result c.text-in-loop-to.result c.text.ensures c.text-in-loop-to.ensures
    (c.is_among.ensures.0 c.if-is_among.true).0 (c.is_among.ensures.0 c.if-is_among.true).1

pub loop-to-preserved : goal.loop-to-preserved
loop-to-preserved c = record {
  from = omega (arith, c.loop-to.invariant.from, c.count_text-to.ensures.from);
  within = c.count_text-to.ensures.to;
  count = c.count_text-to.ensures.count ∙ c.loop-to.invariant.count;
  few = λ number l. c.count_text-to.ensures.few number (omega (arith, l, c.count_text-to.ensures.count));
  counted = λ images registry groups stand.
      let near = values_by images registry (corpus_of groups) (near_begin c.args.attr (to_z w32 (of_z w32 c.args.distance))) in
      amounts_more (tables_at c.get-segment.result.now.attrs c.args.attr).lexicon near c.args.spans.now c.args.from c.loop-to.to c.count_text-to.result c.loop-to.counts.items c.count_text-to.new.counts.items
      c.count_text-to.ensures.count (c.loop-to.invariant.counted images registry groups stand)
      (c.count_text-to.ensures.counted near
      (near_told c.numbers_stand_for_values.ensures c.tokens_stand_in_texts.ensures c.args.segments.now c.args.live.now c.args.spans.now c.requires.lie c.args.at.segment c.args.at.before _ (c.requires.stands none) c.get-segment.result.now c.get-segment.ensures
      c.as_slice-texts.result.now c.get.result.now c.as_slice-texts.ensures c.get.ensures c.loop-to.to c.loop-to-test.true c.index-spans-to.result c.index-spans-to-in-loop-to.result c.index-spans-to.is c.index-spans-to-in-loop-to.is c.text.result c.text-in-loop-to.result c.text.ensures c.text-in-loop-to.ensures
      (c.is_among.ensures.0 c.if-is_among.true).0 (c.is_among.ensures.0 c.if-is_among.true).1
      images registry groups stand c.args.attr (to_z w32 (of_z w32 c.args.distance))
      (attr_there c.args.segments.now c.args.attr c.args.at.segment c.get-segment.result.now c.requires.attr (has_segment c.args.segments.now c.args.live.now c.args.spans.now c.requires.lie c.args.at.segment (c.requires.stands none).inside) c.get-segment.ensures)
      c.count_text-to.result c.count_text-to.ensures.to c.count_text-to.ensures.text));
}

pub returns-clause-amounts : goal.returns-clause-amounts
returns-clause-amounts c = λ images registry groups stand tables.
    let segment = has_segment c.args.segments.now c.args.live.now c.args.spans.now c.requires.lie c.args.at.segment (c.requires.stands none).inside in
    subst (λ (t : Tables). HasAmounts (tables_at t.attrs c.args.attr).lexicon (values_by images registry (corpus_of groups) (near_begin c.args.attr c.args.distance)) c.args.spans.now c.args.from c.loop-to.to c.loop-to.counts.items)
    (c.get-segment.ensures ∙ get_or_default c.args.segments.now c.args.at.segment c.get-segment.result.now tables segment)
    (subst (λ (d : ℤ). HasAmounts (tables_at c.get-segment.result.now.attrs c.args.attr).lexicon (values_by images registry (corpus_of groups) (near_begin c.args.attr d)) c.args.spans.now c.args.from c.loop-to.to c.loop-to.counts.items)
    (to_z-of_z w32 c.args.distance c.ranges.distance) (c.loop-to.invariant.counted images registry groups stand))
