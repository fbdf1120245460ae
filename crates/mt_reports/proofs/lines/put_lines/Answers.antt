-- Each span's text is found, and its line follows the others.
use Rattle.std.proofs.Common.{ℕ, ◌<◌, List, ◌++◌, length, subst, ap, ◌∙◌, sym, arith}
use Rattle.mt_text_spec.specs.Lines.{closed}
use Rattle.mt_reports.specs.Told.{told_line}
use Rattle.mt_reports.specs.Places.{texts_of}
use Rattle.mt_reports.proofs.Joined.{grown, kept, on_err}
use Rattle.mt_reports.proofs.Spans.{has_segment, is_in, is_there, lines_more, text_below}
use Rattle.mt_reports.proofs.lines.put_lines.Goals as goal

pub seek-at-requires-clause-text : goal.seek-at-requires-clause-text
seek-at-requires-clause-text c =
    let below = text_below c.args.segments.now c.args.live.now c.args.spans.now c.requires c.loop-span.span-index c.span-item.result c.loop-span-test.true c.span-item.is in
    subst (λ (l : List (List ℕ)). c.text.result < texts_of l) (sym c.as_slice.ensures) (omega (arith, below, c.text.ensures))

pub get-requires-in-loop-span : goal.get-requires-in-loop-span
get-requires-in-loop-span c =
    has_segment c.args.segments.now c.args.live.now c.args.spans.now c.requires c.seek-at.result.segment (subst (λ (l : List (List ℕ)). c.seek-at.result.segment < length l) c.as_slice.ensures c.seek-at.ensures.inside)

pub put_line-requires-clause-text : goal.put_line-requires-clause-text
put_line-requires-clause-text c =
    let there = is_there c.args.live.now c.as_slice.result.now c.span-item.result c.text.result c.text-in-loop-span.result c.seek-at.result.segment c.seek-at.result.before c.get.result.now c.get-text.result.now
    c.as_slice.ensures c.text.ensures c.text-in-loop-span.ensures c.seek-at.ensures c.get.ensures c.get-text.ensures in
    (is_in c.numbers_stand_for_values.ensures c.tokens_stand_in_texts.ensures c.args.segments.now c.args.live.now c.args.spans.now c.requires c.loop-span.span-index c.span-item.result c.loop-span-test.true c.span-item.is
    c.seek-at.result.segment c.seek-at.result.before c.get-in-loop-span.result.now c.get.result.now c.get-text.result.now there c.get-in-loop-span.ensures).text

pub put_line-requires-clause-inside : goal.put_line-requires-clause-inside
put_line-requires-clause-inside c =
    let there = is_there c.args.live.now c.as_slice.result.now c.span-item.result c.text.result c.text-in-loop-span.result c.seek-at.result.segment c.seek-at.result.before c.get.result.now c.get-text.result.now
    c.as_slice.ensures c.text.ensures c.text-in-loop-span.ensures c.seek-at.ensures c.get.ensures c.get-text.ensures in
    let inside = is_in c.numbers_stand_for_values.ensures c.tokens_stand_in_texts.ensures c.args.segments.now c.args.live.now c.args.spans.now c.requires c.loop-span.span-index c.span-item.result c.loop-span-test.true c.span-item.is
    c.seek-at.result.segment c.seek-at.result.before c.get-in-loop-span.result.now c.get.result.now c.get-text.result.now there c.get-in-loop-span.ensures in
    omega (arith, inside.inside, c.end.ensures)

pub returns-in_err-put_line-clause-err : goal.returns-in_err-put_line-clause-err
returns-in_err-put_line-clause-err c =
    on_err c.from_residual.result (kept c.args.out.now c.loop-span.out c.put_line.new.out
    (grown c.args.out.now _ c.loop-span.out (c.loop-span.invariant.1 c.requires.images c.requires.registry c.requires.groups c.requires.stand)) c.in_err-put_line.ensures.err)

pub loop-span-preserved : goal.loop-span-preserved
loop-span-preserved c =
    let there = is_there c.args.live.now c.as_slice.result.now c.span-item.result c.text.result c.text-in-loop-span.result c.seek-at.result.segment c.seek-at.result.before c.get.result.now c.get-text.result.now
    c.as_slice.ensures c.text.ensures c.text-in-loop-span.ensures c.seek-at.ensures c.get.ensures c.get-text.ensures in
    let inside = is_in c.numbers_stand_for_values.ensures c.tokens_stand_in_texts.ensures c.args.segments.now c.args.live.now c.args.spans.now c.requires c.loop-span.span-index c.span-item.result c.loop-span-test.true c.span-item.is
    c.seek-at.result.segment c.seek-at.result.before c.get-in-loop-span.result.now c.get.result.now c.get-text.result.now there c.get-in-loop-span.ensures in
    let tables = c.get-in-loop-span.result.now in
    let number = c.get-text.result.now in
    let line = c.in_ok-put_line.ensures.ok
    ∙ ap (λ (n : ℕ). c.loop-span.out ++ closed (told_line tables number n c.end.result)) c.begin.ensures
    ∙ ap (λ (n : ℕ). c.loop-span.out ++ closed (told_line tables number c.span-item.result.begin n)) c.end.ensures in (
      there.stands.at,
      λ images registry groups stand.
          lines_more c.numbers_stand_for_values.ensures c.tokens_stand_in_texts.ensures c.args.segments.now c.args.live.now images registry groups stand c.args.spans.now c.loop-span.span-index c.span-item.result
          c.args.out.now c.loop-span.out c.put_line.new.out c.seek-at.result.segment c.seek-at.result.before c.get-in-loop-span.result.now c.get.result.now c.get-text.result.now c.loop-span-test.true c.span-item.is
          there c.get-in-loop-span.ensures inside (c.loop-span.invariant.1 images registry groups stand) line,
    )
