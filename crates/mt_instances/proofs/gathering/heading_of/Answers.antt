use Rattle.std.proofs.Common.{◌∙◌, ap, Some}
use Rattle.mt_instances.proofs.Known.{gathered_named}
use Rattle.mt_instances.proofs.Heading.{heading_with, heading_alone}
use Rattle.mt_counts.proofs.Numbering.{begins_then}
use Rattle.mt_instances.proofs.gathering.heading_of.Goals as goal

pub returns-in_err-name-clause-gathered : goal.returns-in_err-name-clause-gathered
returns-in_err-name-clause-gathered c = gathered_named c.args.words.now.lexicon.now c.args.words.now.numbers.now c.args.gathered.now c.add_name.new.self c.add_name.ensures.names c.add_name.ensures.given c.requires

pub returns-in_err-second-in-Dual-clause-gathered :
    goal.returns-in_err-second-in-Dual-clause-gathered
returns-in_err-second-in-Dual-clause-gathered c =
    gathered_named c.args.words.now.lexicon.now c.args.words.now.numbers.now c.args.gathered.now c.add_name-in-Dual.new.self (begins_then _ _ _ c.add_name.ensures.names c.add_name-in-Dual.ensures.names)
    (c.add_name-in-Dual.ensures.given ∙ c.add_name.ensures.given) c.requires

pub returns-in_ok-second-in-Dual-clause-gathered :
    goal.returns-in_ok-second-in-Dual-clause-gathered
returns-in_ok-second-in-Dual-clause-gathered c =
    gathered_named c.args.words.now.lexicon.now c.args.words.now.numbers.now c.args.gathered.now c.add_name-in-Dual.new.self (begins_then _ _ _ c.add_name.ensures.names c.add_name-in-Dual.ensures.names)
    (c.add_name-in-Dual.ensures.given ∙ c.add_name.ensures.given) c.requires

pub returns-in_ok-second-in-Dual-clause-heading : goal.returns-in_ok-second-in-Dual-clause-heading
returns-in_ok-second-in-Dual-clause-heading c =
    heading_with c.add_name.new.self.names c.add_name-in-Dual.new.self.names c.args.relation.now c.kind-kind.result c.in_ok-name.name c.in_ok-second-in-Dual.second c.add_name-in-Dual.ensures.names c.kind-kind.ensures
    (c.in_ok-name.ensures.number ∙ ap Some c.name.ensures) (c.in_ok-second-in-Dual.ensures.number ∙ ap Some c.second.ensures)

pub returns-in_default : goal.returns-in_default
returns-in_default c = record {
  gathered = gathered_named c.args.words.now.lexicon.now c.args.words.now.numbers.now c.args.gathered.now c.add_name.new.self c.add_name.ensures.names c.add_name.ensures.given c.requires;
  names = c.add_name.ensures.names;
  given = c.add_name.ensures.given;
  heading = heading_alone c.add_name.new.self.names c.args.relation.now c.kind-kind.result c.in_ok-name.name c.kind-kind.ensures c.in_default.not-Dual (c.in_ok-name.ensures.number ∙ ap Some c.name.ensures);
}
