-- One span more.
use Rattle.std.proofs.Common.{◌≡◌, arith, ap, ◌∙◌}
use Rattle.std.proofs.lemmas.List.{get_or_default}
use Rattle.mt_text_spec.specs.Texts.{Span}
use Rattle.mt_frequencies.specs.declared.distances.Places.{Places}
use Rattle.mt_frequencies.specs.Numbers.{number_in}
use Rattle.mt_frequencies.specs.Seen.{in_window, places_near, window_at}
use Rattle.mt_frequencies.proofs.Parts.{spans_more}
use Rattle.mt_frequencies.proofs.walk.count_each.Goals as goal

none : Span
none = record { text = 0; begin = 0; end = 0 }

pub loop-span-preserved : goal.loop-span-preserved
unfolding none
loop-span-preserved g c =
    let at = number_in c.args.numbers.now in
    let windows = window_at c.args.around.now c.args.spans.now in
    let same : c.places-places.result ≡ windows c.loop-span.span =
    c.places-places.ensures ∙ ap (places_near c.args.around.now) (c.index-spans-span.is ∙ get_or_default c.args.spans.now c.loop-span.span c.index-spans-span.result none (omega (arith, c.loop-span-test.true, c.requires.to))) in
    record {
      count = c.count_one.ensures.count ∙ c.loop-span.invariant.count;
      past = c.count_one.ensures.past;
      each = λ n. omega (arith, c.count_one.ensures.each n, c.loop-span.invariant.each n, ap (λ (places : Places). in_window at n places) same, spans_more at n windows c.args.from c.loop-span.span c.loop-span.auto.span);
    }
