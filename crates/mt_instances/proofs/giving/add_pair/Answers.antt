use Rattle.std.proofs.lemmas.Result.{on_ok_weaker}
use Rattle.mt_count_spec.specs.Instances.{AtTwo}
use Rattle.mt_counts.specs.Tables.{text_at}
use Rattle.mt_instances.specs.Given.{OfPair, Pair}
use Rattle.mt_instances.proofs.Gaining.{gains_one, lies_pushed, only_pair}
use Rattle.mt_instances.proofs.giving.add_pair.Goals as goal

pub returns-in-Some-clause-given : goal.returns-in-Some-clause-given
returns-in-Some-clause-given c =
    let name = text_at c.args.instances.now.names c.args.name in
    let set = c.in-Some.ensures.set in
    on_ok_weaker c.push.result
    (λ e. gains_one c.args.instances.now.given c.push.new.self.given (AtTwo name c.in-Some.p c.in-Some.q) (OfPair name c.args.row.now) e (Pair c.in-Some.p c.in-Some.q set) (only_pair name c.args.row.now c.in-Some.p c.in-Some.q set))
    c.push.ensures.ok

pub returns-in-Some-clause-lies : goal.returns-in-Some-clause-lies
returns-in-Some-clause-lies c =
    let name = text_at c.args.instances.now.names c.args.name in
    let set = c.in-Some.ensures.set in
    λ places labels all. lies_pushed places c.args.instances.now.given c.push.new.self.given (AtTwo name c.in-Some.p c.in-Some.q) c.push.result c.push.ensures.ok c.push.ensures.err (labels 1 c.in-Some.p set.first, labels 2 c.in-Some.q set.second) all
