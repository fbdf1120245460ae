use Rattle.std.proofs.lemmas.Result.{IfOk-at_ok, IfOk-weaker}
use Rattle.std.specs.Str.Lines.{lines}
use Rattle.mt_vertical_tables.specs.Columns.{AreValuesIn}
use Rattle.mt_vertical_tables.proofs.CutText.{values_of_both}
use Rattle.mt_vertical_tables.proofs.halves.number_beside.Goals as goal

pub returns-clause-values : goal.returns-clause-values
returns-clause-values g c =
    let column = c.args.column in
    let text = lines c.args.text.now in
    let front = lines c.halves.result.0.now in
    let back = lines c.halves.result.1.now in
    let one = IfOk-at_ok (λ numbered. AreValuesIn column front numbered) c.in_ok-first.was c.join-first.ensures.first in
    let other = IfOk-at_ok (λ numbered. AreValuesIn column back numbered) c.in_ok-others.was c.join-first.ensures.second in
    IfOk-weaker c.followed_by.result _ (λ both. AreValuesIn column text both)
    (λ both told. values_of_both column text front back _ _ both c.halves.ensures told one other) c.followed_by.ensures.both
