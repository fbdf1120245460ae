use Rattle.std.proofs.Common.{◌∙◌}
use Rattle.mt_automaton.proofs.InText.{are_all_begins}
use Rattle.mt_automaton.proofs.rows_of_text.row_begins.Goals as goal

pub returns-clause-all : goal.returns-clause-all
returns-clause-all g c =
    are_all_begins (g.V.View.seen c.args.view.now) c.args.part.now c.tokens-last.result c.put.new.self c.in_ok-begins.begins c.keep.new.self c.tokens-last.ensures.is (c.put.ensures.width ∙ c.in_ok-all.ensures.width)
    c.put.ensures.places c.in_ok-begins.ensures.begins c.keep.ensures.places c.keep.ensures.width
