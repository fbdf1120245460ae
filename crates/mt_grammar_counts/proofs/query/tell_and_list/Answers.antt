use Rattle.std.proofs.Common.{rules}
use Rattle.mt_instances.specs.Laws.{AreOfLines}
use Rattle.mt_grammar_counts.proofs.query.tell_and_list.Goals as goal

pub returns-clause-given : goal.returns-clause-given
returns-clause-given g c = λ images of lines tells one.
    let told = c.tell_meanwhile-told.ensures.given images of lines tells one in
    let all : AreOfLines images c.args.text.now.registry.now of lines c.tell_meanwhile-told.new.collector.given = search (rules, c.in_ok-told.was, told) in
    search (rules, all)
