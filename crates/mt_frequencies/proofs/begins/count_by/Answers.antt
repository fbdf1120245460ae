-- One span more lies in the text, and it is counted.
use Rattle.std.proofs.Common.{◌≡◌, ◌<◌, ◌+◌, arith, get_or, w32, to_z, of_z, sym, ap, ◌∙◌}
use Rattle.std.proofs.lemmas.List.{get_or_default}
use Rattle.mt_text_spec.specs.Texts.{Span}
use Rattle.mt_segment_spec.specs.Tables.{tables_at}
use Rattle.mt_reports.specs.Told.{told_tokens}
use Rattle.mt_frequencies.specs.Amounts.{values_told}
use Rattle.mt_frequencies.proofs.Amounts.{more_one}
use Rattle.mt_frequencies.proofs.Begun.{same_text}
use Rattle.mt_frequencies.proofs.begins.count_by.Goals as goal

pub loop-to-preserved : goal.loop-to-preserved
loop-to-preserved g c =
    let spans = c.args.spans.now in
    let seen = c.index-spans-to.result in
    let one = c.index-spans-to-in-loop-to.result in
    let alike = sym c.text.ensures ∙ c.if-text-number.true ∙ c.text-number.ensures ∙ ap (λ (s : Span). s.text) (c.index-spans-from.is ∙ get_or_default spans c.args.from c.index-spans-from.result seen c.requires.from) in
    let text = same_text spans c.args.from c.loop-to.to seen c.requires.from c.index-spans-to.is c.loop-to-test.true alike c.loop-to.invariant.text in
    let next : c.loop-to.to < c.loop-to.to + 1 = omega arith in
    let begin : c.begin.result ≡ (get_or spans c.loop-to.to one).begin = c.begin.ensures ∙ ap (λ (s : Span). s.begin) c.index-spans-to-in-loop-to.is in
    let inside = c.requires.begins c.loop-to.to one c.loop-to.invariant.from c.loop-to-test.true (text c.loop-to.to one c.loop-to.invariant.from next) in
    let within : c.begin.result < told_tokens c.args.segment.now c.args.text = omega (arith, inside, begin) in
    let told = values_told c.args.segment.now c.args.attr c.args.text (to_z w32 (of_z w32 c.args.distance)) in
    record {
      from = omega (arith, c.loop-to.invariant.from);
      within = omega (arith, c.loop-to-test.true);
      text = text;
      count = c.count_begin.ensures.count ∙ c.loop-to.invariant.count;
      few = λ number l. omega (arith, c.count_begin.ensures.few number (omega (arith, l, c.loop-to.invariant.count)), c.loop-to.invariant.few number l);
      counted = λ near same.
          more_one (tables_at c.args.segment.now.attrs c.args.attr).lexicon near spans c.args.from c.loop-to.to one (told c.begin.result) c.args.counts.now c.loop-to.counts c.count_begin.new.counts c.loop-to-test.true
          (same c.loop-to.to one c.loop-to.invariant.from next ∙ ap told (sym begin)) (c.loop-to.invariant.counted near (λ k span l m. same k span l (omega (arith, m))))
          (c.count_begin.ensures.counted c.args.segment.now c.args.attr c.args.text (to_z w32 (of_z w32 c.args.distance)) c.reach_of-reach.ensures c.new-numbers.ensures (c.loop-to.invariant.count ∙ c.requires.count) within);
    }
