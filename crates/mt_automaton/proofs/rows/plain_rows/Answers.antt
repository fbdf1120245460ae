use Rattle.std.proofs.Common.{arith}
use Rattle.std.proofs.lemmas.Result.{on_ok_weaker}
use Rattle.mt_match_spec.specs.Labels.{no_labels}
use Rattle.mt_automaton.specs.Parts.{meant}
use Rattle.mt_automaton.specs.RowsFrom.{EndsIn, IsRowFrom}
use Rattle.mt_automaton.proofs.FromOne.{appends_renamed, more_renamed, plain_row, plain_row_back}
use Rattle.mt_automaton.proofs.rows.plain_rows.Goals as goal

pub push_ends-result-requires-clause-few : goal.push_ends-result-requires-clause-few
push_ends-result-requires-clause-few g c = λ f h. let low = c.in_ok-set.ensures.inside f h in omega (arith, low, c.requires.few)

pub returns-clause-ok : goal.returns-clause-ok
returns-clause-ok g c =
    let v = g.V.View.seen c.args.view.now in
    let set = c.in_ok-set.set in
    on_ok_weaker c.push_ends-result.result
    (λ a. appends_renamed (EndsIn set no_labels c.args.text c.args.begin) (IsRowFrom v.text (meant v c.args.part.now) c.args.text c.args.begin) c.args.room c.args.out.now c.push_ends-result.new.out
    (plain_row v c.args.part.now c.args.text c.args.begin set c.in_ok-set.ensures) (plain_row_back v c.args.part.now c.args.text c.args.begin set c.in_ok-set.ensures) a)
    c.push_ends-result.ensures.ok

pub returns-clause-more : goal.returns-clause-more
returns-clause-more g c =
    let v = g.V.View.seen c.args.view.now in
    let set = c.in_ok-set.set in
    λ e. more_renamed (EndsIn set no_labels c.args.text c.args.begin) (IsRowFrom v.text (meant v c.args.part.now) c.args.text c.args.begin) c.args.room
    (plain_row v c.args.part.now c.args.text c.args.begin set c.in_ok-set.ensures) (plain_row_back v c.args.part.now c.args.text c.args.begin set c.in_ok-set.ensures) (c.push_ends-result.ensures.more e)
