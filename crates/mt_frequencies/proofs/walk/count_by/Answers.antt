-- What is counted for numbers is counted for values.
use Rattle.std.proofs.Common.{◌≡◌, ◌-◌, ℕ, get_or, arith, sym, ap, subst, ◌∙◌}
use Rattle.mt_text_spec.specs.Texts.{Span}
use Rattle.mt_segment_spec.specs.Tables.{token_count}
use Rattle.mt_reports.specs.Told.{told_tokens}
use Rattle.mt_reports.proofs.Told.{text_behind}
use Rattle.mt_frequencies.specs.declared.distances.Around.{Around}
use Rattle.mt_frequencies.specs.Numbers.{number_in}
use Rattle.mt_frequencies.specs.Seen.{AreInside, around_text, places_near, values_in, window_at}
use Rattle.mt_frequencies.proofs.RunLaws.{window_fits}
use Rattle.mt_frequencies.proofs.Valued.{lexicon_ascending, more_by_numbers}
use Rattle.mt_frequencies.proofs.walk.count_by.Goals as goal

none : Span
none = record { text = 0; begin = 0; end = 0 }

pub count_all-requires-clause-inside : goal.count_all-requires-clause-inside
count_all-requires-clause-inside g c =
    let bounds = c.text_bounds-first.result in
    let tokens : bounds.1 - bounds.0 ≡ told_tokens c.args.segment.now c.args.text = omega (arith, text_behind c.args.segment.now c.args.text c.requires.text, c.text_bounds-first.ensures.begin, c.text_bounds-first.ensures.end) in
    subst (λ (n : ℕ). AreInside n c.args.from c.text_end-to.result c.args.spans.now) (sym tokens) (c.requires.inside c.text_end-to.result c.text_end-to.ensures.to c.text_end-to.ensures.text)

pub returns-clause-counted : goal.returns-clause-counted
unfolding none
returns-clause-counted g c = λ near same.
    let tables = c.args.segment.now in
    let attr = c.args.attr in
    let spans = c.args.spans.now in
    let bounds = c.text_bounds-first.result in
    let around : Around = record { distances = c.args.distances.now; first = bounds.0; tokens = bounds.1 - bounds.0 } in
    let tokens : bounds.1 - bounds.0 ≡ told_tokens tables c.args.text = omega (arith, text_behind tables c.args.text c.requires.text, c.text_bounds-first.ensures.begin, c.text_bounds-first.ensures.end) in
    let around_is : around ≡ around_text tables c.args.text c.args.distances.now = λ i. record { distances = c.args.distances.now; first = c.text_bounds-first.ensures.begin i; tokens = tokens i } in
    let inside : AreInside (bounds.1 - bounds.0) c.args.from c.text_end-to.result spans = subst (λ (n : ℕ). AreInside n c.args.from c.text_end-to.result spans) (sym tokens) (c.requires.inside c.text_end-to.result c.text_end-to.ensures.to c.text_end-to.ensures.text) in
    more_by_numbers tables attr (number_in c.new-numbers.result) (lexicon_ascending tables c.texts.ensures.valid attr c.requires.attr) c.new-numbers.ensures.are c.new-numbers.ensures.within near spans (window_at around spans) c.args.from c.text_end-to.result none c.args.seen.now c.count_all.new.seen
    (omega (arith, c.text_end-to.ensures.from)) c.text_end-to.ensures.to c.requires.count c.count_all.ensures.count
    (λ k l m. same k none l m ∙ ap (λ (a : Around). values_in tables attr (places_near a (get_or spans k none))) (sym around_is))
    (λ k l m. window_fits around spans c.args.from c.text_end-to.result (token_count tables) c.requires.distances inside (omega (arith, c.text_bounds-first.ensures.order, c.text_bounds-first.ensures.within)) k l m)
    c.count_all.ensures.each
