use Rattle.std.proofs.Common.{refl}
use Rattle.std.proofs.lemmas.Result.{err_from_is_err_and}
use Rattle.mt_answer.proofs.Reports.{undeclared, query_declined, spans_starve, has_report}
use Rattle.mt_answer.proofs.reporting.report_of.Goals as goal

pub returns-in_default-clause-declined : goal.returns-in_default-clause-declined
returns-in_default-clause-declined g c = undeclared c.args.corpus.now c.args.attr.now c.args.cql.now _ _ refl (rw c.registry.ensures.registry at c.in_default.ensures.none)

pub returns-in_err-rows-clause-declined : goal.returns-in_err-rows-clause-declined
returns-in_err-rows-clause-declined g c =
    let p = err_from_is_err_and c.from_residual.result c.from_residual.ensures.1 in
    rw (p.1, p.2) (query_declined c.args.corpus.now c.args.attr.now c.args.cql.now c.in-Some.number _ _ _ (rw c.registry.ensures.registry at c.in-Some.ensures.found) c.in_err-rows.ensures.declined)

pub returns-in-Ok-clause-report : goal.returns-in-Ok-clause-report
returns-in-Ok-clause-report g c =
    has_report c.have_rows.ensures c.args.corpus.now c.args.attr.now c.args.cql.now c.in-Some.number c.in_ok-rows.rows c.in-Ok.spans c.requires (rw c.registry.ensures.registry at c.in-Some.ensures.found)
    c.in_ok-rows.ensures.rows c.in-Ok.ensures

pub returns-in-Err-clause-declined : goal.returns-in-Err-clause-declined
returns-in-Err-clause-declined g c = spans_starve c.args.corpus.now c.args.attr.now c.args.cql.now _ _ c.in_ok-rows.ensures.shop
