use Rattle.std.proofs.Common.{[], ◌∙◌, List, sym, subst}
use Rattle.mt_count_spec.specs.Instances.{Instance}
use Rattle.mt_counts.specs.Counted.{Counted}
use Rattle.mt_triples.specs.CountsOf.{AreCountsOf}
use Rattle.mt_instances.specs.Laws.{AreOfLines}
use Rattle.mt_grammar_counts.specs.Collecting.{all_lines}
use Rattle.mt_grammar_counts.proofs.Values.{is_text}
use Rattle.mt_grammar_counts.proofs.LineLists.{lines_are, still_known}
use Rattle.mt_grammar_counts.proofs.texts.add_text.Goals as goal

pub returns-clause-fresh : goal.returns-clause-fresh
returns-clause-fresh g c = record {
  lexicon = c.finish_text.ensures.lexicon ∙ c.add_lines.ensures.only.lexicon ∙ c.in_ok-add_places.ensures.known.lexicon;
  numbers = c.in_ok-finish_text.ensures.numbers;
  given = c.in_ok-finish_text.ensures.given;
}

pub returns-clause-counts : goal.returns-clause-counts
returns-clause-counts g c = λ images of done tells old.
    let text = c.args.text.now in
    let registry = text.registry.now in
    let grammar = c.args.grammar.now in
    let told = c.add_lines.new.collector in
    let known = still_known text.segment.now registry.ws_attr text.number c.add_places.new.collector told c.add_lines.ensures.only c.in_ok-add_places.ensures.known in
    c.text_is_counted.ensures images registry grammar done of (all_lines grammar) told.lexicon told.numbers told.given told.counted c.finish_text.new.self.counted (lines_are grammar)
    (c.in_ok-add_lines.ensures.given images of tells (subst (λ (given : List Instance). AreOfLines images registry of [] given) (sym c.in_ok-add_places.ensures.given) (c.none_are_given.ensures images registry of)))
    (is_text c.numbers_stand_for_values.ensures c.tokens_stand_in_texts.ensures images registry text.segment.now text.number of tells told known)
    (subst (λ (counted : Counted). AreCountsOf images registry grammar done counted) (sym (c.add_lines.ensures.only.counted ∙ c.add_places.ensures.counted)) old)
    c.in_ok-finish_text.ensures.ok
