use Rattle.std.proofs.Common.{List, ℕ, subst}
use Rattle.std.proofs.lemmas.Result.{on_ok_weaker}
use Rattle.mt_counts.specs.Tables.{text_at}
use Rattle.mt_instances.specs.Gains.{Gains}
use Rattle.mt_instances.specs.Given.{OfPair, OfTurned}
use Rattle.mt_instances.proofs.Gaining.{gains_then}
use Rattle.mt_instances.proofs.giving.add_both.Goals as goal

pub returns-clause-given : goal.returns-clause-given
returns-clause-given c =
    let old = c.args.instances.now in
    let mid = c.add_pair.new.instances in
    let new = c.add_turned.new.instances in
    let row = c.args.row.now in
    let names = c.in_ok-add_pair.ensures.names in
    on_ok_weaker c.add_turned.result
    (λ g. gains_then old.given mid.given new.given (OfPair (text_at old.names c.args.name) row) (OfTurned (text_at old.names c.args.second) row) c.in_ok-add_pair.ensures.given
    (subst (λ (all : List (List ℕ)). Gains mid.given new.given (OfTurned (text_at all c.args.second) row)) names g))
    c.add_turned.ensures.given

pub returns-clause-lies : goal.returns-clause-lies
returns-clause-lies c = λ places labels all. c.add_turned.ensures.lies places labels (c.in_ok-add_pair.ensures.lies places labels all)
