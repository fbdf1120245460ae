use Rattle.std.proofs.Common.{refl}
use Rattle.mt_automaton.specs.LabelledParts.{labelled_meant}
use Rattle.mt_automaton.specs.RowsFrom.{IsRowOfText}
use Rattle.mt_shapes.proofs.Listed.{nothing_there}
use Rattle.mt_shapes.proofs.finding.rows_of_shapes.Goals as goal

pub returns-then-is_empty-clause-done : goal.returns-then-is_empty-clause-done
returns-then-is_empty-clause-done g c = λ _.
    let v = g.V.View.seen c.args.view.now in
    nothing_there (IsRowOfText v.text (labelled_meant v c.args.part.now) c.args.text) c.args.room c.args.out.now c.args.out.now
    (λ row r. c.is_empty.ensures.none c.if-is_empty.true row.span.begin (c.in_ok-begins.ensures.all c.args.text row r)) refl

pub rows_by_table-result-requires-clause-all : goal.rows_by_table-result-requires-clause-all
rows_by_table-result-requires-clause-all g c = λ row r. c.in_ok-begins.ensures.all c.args.text row r
