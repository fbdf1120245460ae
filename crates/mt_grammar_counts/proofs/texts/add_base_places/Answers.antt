use Rattle.std.proofs.Common.{◌+◌, ◌∙◌, ℕ, List, length, get_or, ap, arith}
use Rattle.std.proofs.lemmas.List.{length_push}
use Rattle.mt_segment_spec.specs.Tables.{number_at, tables_at}
use Rattle.mt_segment_laws.specs.Laws.{AreWhole}
use Rattle.mt_grammar_counts.proofs.GroupLists.{attr_within}
use Rattle.mt_grammar_counts.proofs.TextLists.{base_number, known_whole, numbers_more}
use Rattle.mt_grammar_counts.proofs.texts.add_base_places.Goals as goal

pub column-column-requires-clause-attr : goal.column-column-requires-clause-attr
column-column-requires-clause-attr g c = let low = attr_within c.args.text.now.registry.now c.args.text.now.segment.now c.requires.text.under in omega (arith, low, c.requires.attr)

pub get-number-requires : goal.get-number-requires
get-number-requires g c =
    let tables = c.args.text.now.segment.now in
    let whole : AreWhole tables = c.tables_are_whole.ensures tables (record { registry = c.args.text.now.registry.now; under = c.requires.text.under }) in
    let low = attr_within c.args.text.now.registry.now tables c.requires.text.under in
    let many = whole.columns c.args.attr (omega (arith, low, c.requires.attr)) c.requires.base in
    omega (arith, c.loop-place-test.true, c.text_bounds-begin.ensures.within, many, ap length c.column-column.ensures)

pub add_place-requires : goal.add_place-requires
add_place-requires g c =
    let tables = c.args.text.now.segment.now in
    let whole : AreWhole tables = c.tables_are_whole.ensures tables (record { registry = c.args.text.now.registry.now; under = c.requires.text.under }) in
    let low = attr_within c.args.text.now.registry.now tables c.requires.text.under in
    let number = base_number tables c.args.attr c.loop-place.place c.get-number.result c.requires.base (c.get-number.ensures.number ∙ ap (λ (ns : List ℕ). get_or ns c.loop-place.place 0) c.column-column.ensures) in
    let within = whole.within c.args.attr c.loop-place.place (omega (arith, low, c.requires.attr)) (omega (arith, c.loop-place-test.true, c.text_bounds-begin.ensures.within)) in
    let same = ap (λ (a : ℕ). length (tables_at tables.attrs a).lexicon) c.requires.attr in
    omega (arith, number, within, same, ap length c.loop-place.invariant.lexicon)

pub loop-place-preserved : goal.loop-place-preserved
loop-place-preserved g c =
    let tables = c.args.text.now.segment.now in
    let more = c.in_ok-add_place.ensures.ok in
    let number = base_number tables c.args.attr c.loop-place.place c.get-number.result c.requires.base (c.get-number.ensures.number ∙ ap (λ (ns : List ℕ). get_or ns c.loop-place.place 0) c.column-column.ensures) in
    record {
      lexicon = c.add_place.ensures.lexicon ∙ c.loop-place.invariant.lexicon;
      given = c.add_place.ensures.given ∙ c.loop-place.invariant.given;
      counted = c.add_place.ensures.counted ∙ c.loop-place.invariant.counted;
      count = omega (arith, c.loop-place.invariant.count, ap length more, length_push c.loop-place.collector.numbers c.get-number.result);
      each = numbers_more (number_at tables c.args.attr) c.loop-place.collector.numbers c.add_place.new.self.numbers c.get-number.result c.text_bounds-begin.result.0 c.loop-place.place more c.loop-place.invariant.count
          number c.loop-place.invariant.each;
    }

pub returns-clause-known : goal.returns-clause-known
returns-clause-known g c =
    let attr = c.requires.attr in
    known_whole c.args.text.now.segment.now c.args.text.now.registry.now.ws_attr c.args.text.now.number c.text_bounds-begin.result.0 c.text_bounds-begin.result.1 c.loop-place.place c.loop-place.collector c.requires.text.within
    c.text_bounds-begin.ensures.begin c.text_bounds-begin.ensures.end c.loop-place-test.false (c.loop-place.auto.place-end c.text_bounds-begin.ensures.order) c.loop-place.invariant.lexicon c.loop-place.invariant.count
    (λ k l. c.loop-place.invariant.each k l ∙ ap (λ (a : ℕ). number_at c.args.text.now.segment.now a (c.text_bounds-begin.result.0 + k)) attr)
