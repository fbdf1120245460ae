use Rattle.std.proofs.Common.{arith}
use Rattle.std.proofs.lemmas.Result.{on_ok_weaker}
use Rattle.mt_automaton.specs.LabelledParts.{labelled_meant}
use Rattle.mt_automaton.specs.RowsFrom.{IsRowFrom}
use Rattle.mt_automaton.proofs.FromOne.{appends_renamed, more_renamed}
use Rattle.mt_automaton.proofs.InText.{row_from_same, no_row_past}
use Rattle.mt_automaton.proofs.compile.Automaton.rows_from.Goals as goal

pub returns-then-begin-tokens-clause-ok : goal.returns-then-begin-tokens-clause-ok
returns-then-begin-tokens-clause-ok g c = λ expr of seen.
    no_row_past (g.V.View.seen c.args.view.now).text expr c.args.text c.args.begin c.args.room c.args.out.now (omega (arith, c.if-begin-tokens.true, c.tokens.ensures.is))

pub returns-clause-ok : goal.returns-clause-ok
returns-clause-ok g c = λ expr of seen.
    let v = g.V.View.seen c.args.view.now in
    let meant = labelled_meant v c.args.self.now.part in
    let same = c.automaton_matches.ensures expr of seen in
    on_ok_weaker c.rows_at.result
    (λ a. appends_renamed (IsRowFrom v.text meant c.args.text c.args.begin) (IsRowFrom v.text expr c.args.text c.args.begin) c.args.room c.args.out.now c.rows_at.new.out
    (row_from_same v.text meant expr c.args.text c.args.begin same.there) (row_from_same v.text expr meant c.args.text c.args.begin same.back) a)
    c.rows_at.ensures.ok

pub returns-clause-more : goal.returns-clause-more
returns-clause-more g c = λ expr of seen e.
    let v = g.V.View.seen c.args.view.now in
    let meant = labelled_meant v c.args.self.now.part in
    let same = c.automaton_matches.ensures expr of seen in
    more_renamed (IsRowFrom v.text meant c.args.text c.args.begin) (IsRowFrom v.text expr c.args.text c.args.begin) c.args.room (row_from_same v.text meant expr c.args.text c.args.begin same.there)
    (row_from_same v.text expr meant c.args.text c.args.begin same.back) (c.rows_at.ensures.more e)
