use Rattle.std.proofs.lemmas.Result.{on_ok_weaker}
use Rattle.mt_count_spec.specs.Instances.{AtOne}
use Rattle.mt_counts.specs.Tables.{text_at}
use Rattle.mt_instances.specs.Given.{OfOne, One}
use Rattle.mt_instances.proofs.Gaining.{gains_one, lies_pushed, only_one}
use Rattle.mt_instances.proofs.giving.add_one.Goals as goal

pub returns-in-Some-clause-given : goal.returns-in-Some-clause-given
returns-in-Some-clause-given c =
    let name = text_at c.args.instances.now.names c.args.name in
    let set = c.in-Some.ensures.set in
    on_ok_weaker c.push.result
    (λ e. gains_one c.args.instances.now.given c.push.new.self.given (AtOne name c.in-Some.first) (OfOne name c.args.row.now) e (One c.in-Some.first set) (only_one name c.args.row.now c.in-Some.first set))
    c.push.ensures.ok

pub returns-in-Some-clause-lies : goal.returns-in-Some-clause-lies
returns-in-Some-clause-lies c =
    let name = text_at c.args.instances.now.names c.args.name in
    let set = c.in-Some.ensures.set in
    λ places labels all. lies_pushed places c.args.instances.now.given c.push.new.self.given (AtOne name c.in-Some.first) c.push.result c.push.ensures.ok c.push.ensures.err (labels 1 c.in-Some.first set) all
