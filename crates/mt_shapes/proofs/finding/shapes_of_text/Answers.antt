use Rattle.mt_automaton.specs.LabelledParts.{labelled_meant}
use Rattle.mt_shapes.proofs.Listed.{told_same, if_told}
use Rattle.mt_shapes.proofs.finding.shapes_of_text.Goals as goal

pub returns-clause-rows : goal.returns-clause-rows
returns-clause-rows g c = λ expr of seen.
    let v = g.V.View.seen c.args.view.now in
    let meant = labelled_meant v c.args.automaton.now.part in
    let same = c.automaton_matches.ensures expr of seen in
    if_told c.shapes_of_part.result _ _ (λ entries. told_same v.text meant expr entries.items same.there same.back) (rw c.part.ensures at c.shapes_of_part.ensures.rows)
