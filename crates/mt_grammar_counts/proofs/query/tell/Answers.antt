use Rattle.std.proofs.Common.{List, sym, subst}
use Rattle.mt_instances.specs.Laws.{AreOfLines, Line}
use Rattle.mt_grammar_counts.proofs.Alone.{have_labels}
use Rattle.mt_grammar_counts.proofs.Values.{is_text}
use Rattle.mt_grammar_counts.proofs.query.tell.Goals as goal

pub add_rows-requires : goal.add_rows-requires
add_rows-requires c = rw c.requires.known.count c.requires.lie

pub returns-in_err-add_rows-clause-only : goal.returns-in_err-add_rows-clause-only
returns-in_err-add_rows-clause-only c = record { lexicon = c.add_rows.ensures.lexicon; numbers = c.add_rows.ensures.numbers; counted = c.add_rows.ensures.counted }

pub returns-clause-only : goal.returns-clause-only
returns-clause-only c = record { lexicon = c.add_rows.ensures.lexicon; numbers = c.add_rows.ensures.numbers; counted = c.add_rows.ensures.counted }

pub returns-clause-given : goal.returns-clause-given
returns-clause-given c = λ images of lines tells one.
    let text = c.args.text.now in
    subst (λ (ls : List Line). AreOfLines images text.registry.now of ls c.add_rows.new.self.given) (sym one.are)
    (c.lines_go_on.ensures images text.registry.now of one.before c.args.relation.now one.query c.args.rows.now c.args.collector.now.given c.add_rows.new.self.given one.told
    (have_labels c.numbers_are_live.ensures c.live_texts_are_numbered.ensures images text.registry.now text.segment.now text.number of tells c.kept_are_joined.ensures one.query c.args.rows.now one.fits one.kept)
    (c.in_ok-add_rows.ensures.given images text.registry.now of
    (is_text c.numbers_stand_for_values.ensures c.tokens_stand_in_texts.ensures images text.registry.now text.segment.now text.number of tells c.args.collector.now c.requires.known)))
