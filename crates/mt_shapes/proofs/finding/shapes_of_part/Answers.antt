use Rattle.mt_automaton.specs.LabelledParts.{labelled_meant}
use Rattle.mt_shapes.proofs.Listed.{told_nothing, nothing_fine}
use Rattle.mt_shapes.proofs.finding.shapes_of_part.Goals as goal

pub returns-then-is_empty-clause-fine : goal.returns-then-is_empty-clause-fine
returns-then-is_empty-clause-fine g c = nothing_fine _ c.table.result.items c.table.ensures

pub returns-then-is_empty-clause-rows : goal.returns-then-is_empty-clause-rows
returns-then-is_empty-clause-rows g c =
    let v = g.V.View.seen c.args.view.now in
    told_nothing v.text (labelled_meant v c.args.part.now) c.table.result.items c.table.ensures
    (λ text row r. c.is_empty-is_empty.ensures.none c.if-is_empty.true row.span.begin (c.in_ok-begins.ensures.all text row r))
