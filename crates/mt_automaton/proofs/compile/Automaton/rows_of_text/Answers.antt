use Rattle.std.proofs.lemmas.Result.{on_ok_weaker}
use Rattle.mt_automaton.specs.LabelledParts.{labelled_meant}
use Rattle.mt_automaton.specs.RowsFrom.{IsRowOfText}
use Rattle.mt_automaton.proofs.FromOne.{appends_renamed}
use Rattle.mt_automaton.proofs.InText.{row_same, longer_renamed}
use Rattle.mt_automaton.proofs.compile.Automaton.rows_of_text.Goals as goal

pub returns-clause-ok : goal.returns-clause-ok
returns-clause-ok g c = λ expr of seen.
    let v = g.V.View.seen c.args.view.now in
    let meant = labelled_meant v c.args.self.now.part in
    let same = c.automaton_matches.ensures expr of seen in
    on_ok_weaker c.part_rows.result
    (λ a. appends_renamed (IsRowOfText v.text meant c.args.text) (IsRowOfText v.text expr c.args.text) c.args.room c.args.out.now c.part_rows.new.out (row_same v.text meant expr c.args.text same.there)
    (row_same v.text expr meant c.args.text same.back) a)
    c.part_rows.ensures.ok

pub returns-clause-more : goal.returns-clause-more
returns-clause-more g c = λ expr of seen e.
    let v = g.V.View.seen c.args.view.now in
    let meant = labelled_meant v c.args.self.now.part in
    let same = c.automaton_matches.ensures expr of seen in
    longer_renamed (IsRowOfText v.text meant c.args.text) (IsRowOfText v.text expr c.args.text) c.args.room (row_same v.text meant expr c.args.text same.there) (c.part_rows.ensures.more e)
