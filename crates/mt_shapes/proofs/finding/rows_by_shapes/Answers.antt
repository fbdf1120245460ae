use Rattle.mt_automaton.specs.LabelledParts.{labelled_meant}
use Rattle.mt_automaton.specs.RowsFrom.{IsRowOfText}
use Rattle.mt_shapes.proofs.Listed.{row_same, appends_renamed, longer_renamed}
use Rattle.mt_shapes.proofs.finding.rows_by_shapes.Goals as goal

pub returns-clause-done : goal.returns-clause-done
returns-clause-done g c = λ expr of seen done.
    let v = g.V.View.seen c.args.view.now in
    let meant = labelled_meant v c.args.automaton.now.part in
    let same = c.automaton_matches.ensures expr of seen in
    appends_renamed (IsRowOfText v.text meant c.args.text) (IsRowOfText v.text expr c.args.text) c.args.room c.args.out.now c.part_rows.new.out (row_same v.text meant expr c.args.text same.there)
    (row_same v.text expr meant c.args.text same.back) (rw c.part.ensures at (c.part_rows.ensures.done done))

pub returns-clause-more : goal.returns-clause-more
returns-clause-more g c = λ expr of seen e.
    let v = g.V.View.seen c.args.view.now in
    let meant = labelled_meant v c.args.automaton.now.part in
    let same = c.automaton_matches.ensures expr of seen in
    longer_renamed (IsRowOfText v.text meant c.args.text) (IsRowOfText v.text expr c.args.text) c.args.room (row_same v.text meant expr c.args.text same.there) (rw c.part.ensures at (c.part_rows.ensures.more e))
