use Rattle.std.proofs.Common.{◌≡◌, List, Err, subst, rules, arith}
use Rattle.mt_rows.specs.Appends.{Appends}
use Rattle.mt_rows.specs.declared.error.EvalError.TheVariants.{TooManyRows}
use Rattle.mt_automaton.specs.LabelledParts.{labelled_meant}
use Rattle.mt_automaton.specs.RowsFrom.{IsRowOfText, HasLonger}
use Rattle.mt_shapes.specs.declared.table.Entry.{Entry}
use Rattle.mt_shapes.specs.Tables.{IsRowOf, TellsRows}
use Rattle.mt_shapes.proofs.Listed.{appends_renamed, longer_renamed}
use Rattle.mt_shapes.proofs.finding.rows_by_table.Goals as goal

pub returns-in-Ok-clause-done : goal.returns-in-Ok-clause-done
returns-in-Ok-clause-done g c = λ _.
    let v = g.V.View.seen c.args.view.now in
    let meant = labelled_meant v c.args.part.now in
    let entries = c.in-Some.entries.items in
    let told : TellsRows entries v.text meant = rw c.in-Some.is at c.in_ok-entries.ensures.rows in
    let rows : Appends (IsRowOf entries c.args.text) c.args.room c.args.out.now c.rows_of_table-result.new.out =
    subst (λ (es : List Entry). Appends (IsRowOf es c.args.text) c.args.room c.args.out.now c.rows_of_table-result.new.out) c.deref.ensures.value c.in-Ok.ensures.ok in
    appends_renamed (IsRowOf entries c.args.text) (IsRowOfText v.text meant c.args.text) c.args.room c.args.out.now c.rows_of_table-result.new.out (told.there c.args.text) (told.back c.args.text) rows

pub returns-in-Err-clause-more : goal.returns-in-Err-clause-more
returns-in-Err-clause-more g c = λ e.
    let v = g.V.View.seen c.args.view.now in
    let meant = labelled_meant v c.args.part.now in
    let entries = c.in-Some.entries.items in
    let told : TellsRows entries v.text meant = rw c.in-Some.is at c.in_ok-entries.ensures.rows in
    let was : c.rows_of_table-result.result ≡ Err TooManyRows = search rules in
    let rows : HasLonger (IsRowOf entries c.args.text) c.args.room = subst (λ (es : List Entry). HasLonger (IsRowOf es c.args.text) c.args.room) c.deref.ensures.value (c.rows_of_table-result.ensures.more was) in
    longer_renamed (IsRowOf entries c.args.text) (IsRowOfText v.text meant c.args.text) c.args.room (told.there c.args.text) rows

pub rows_of_table-result-requires-clause-all : goal.rows_of_table-result-requires-clause-all
rows_of_table-result-requires-clause-all g c =
    let v = g.V.View.seen c.args.view.now in
    let told : TellsRows c.in-Some.entries.items v.text (labelled_meant v c.args.part.now) = rw c.in-Some.is at c.in_ok-entries.ensures.rows in
    λ row r. c.requires.all row (told.there c.args.text row (subst (λ (es : List Entry). IsRowOf es c.args.text row) c.deref.ensures.value r))

pub rows_of_table-result-requires-clause-inside : goal.rows_of_table-result-requires-clause-inside
rows_of_table-result-requires-clause-inside g c = λ begin is.
    let low = c.requires.inside begin is in
    let last = c.tokens-last.ensures.is in
    omega (arith, low, last)
