use Rattle.std.proofs.Common.{sym, subst, arith}
use Rattle.std.proofs.lemmas.Result.{on_ok_weaker}
use Rattle.mt_automaton.specs.LabelledParts.{labelled_meant}
use Rattle.mt_automaton.specs.RowsFrom.{IsGroupRow, IsRowFrom, AreGroups}
use Rattle.mt_automaton.proofs.FromOne.{appends_renamed, more_renamed, group_row, group_row_back}
use Rattle.mt_automaton.proofs.rows.labelled_rows_from.Goals as goal

pub rows_of_groups-result-requires-clause-few : goal.rows_of_groups-result-requires-clause-few
rows_of_groups-result-requires-clause-few g c =
    let are = subst (AreGroups (g.V.View.seen c.args.view.now) c.args.part.now c.args.begin) (sym c.deref.ensures.value) c.in_ok-groups_from.ensures in
    λ l f r. let s = are.sound l f r in omega (arith, s.inside, c.requires.few)

pub returns-clause-ok : goal.returns-clause-ok
returns-clause-ok g c =
    let v = g.V.View.seen c.args.view.now in
    let groups = c.deref.result.now in
    let are = subst (AreGroups v c.args.part.now c.args.begin) (sym c.deref.ensures.value) c.in_ok-groups_from.ensures in
    on_ok_weaker c.rows_of_groups-result.result
    (λ a. appends_renamed (IsGroupRow groups c.args.text c.args.begin) (IsRowFrom v.text (labelled_meant v c.args.part.now) c.args.text c.args.begin) c.args.room c.args.out.now c.rows_of_groups-result.new.out
    (group_row v c.args.part.now c.args.text c.args.begin groups are) (group_row_back v c.args.part.now c.args.text c.args.begin groups are) a)
    c.rows_of_groups-result.ensures.ok

pub returns-clause-more : goal.returns-clause-more
returns-clause-more g c =
    let v = g.V.View.seen c.args.view.now in
    let groups = c.deref.result.now in
    let are = subst (AreGroups v c.args.part.now c.args.begin) (sym c.deref.ensures.value) c.in_ok-groups_from.ensures in
    λ e. more_renamed (IsGroupRow groups c.args.text c.args.begin) (IsRowFrom v.text (labelled_meant v c.args.part.now) c.args.text c.args.begin) c.args.room
    (group_row v c.args.part.now c.args.text c.args.begin groups are) (group_row_back v c.args.part.now c.args.text c.args.begin groups are) (c.rows_of_groups-result.ensures.more e)
