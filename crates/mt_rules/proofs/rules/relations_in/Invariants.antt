-- The relations before this one are counted.
use Rattle.std.proofs.Common.{◌≡◌, ◌≤◌, ◌*◌, take}
use Rattle.mt_grammar_spec.specs.ReadGrammar.{relation_count}
use Rattle.mt_rules.proofs.rules.relations_in.Given as goal

abbrev pub invariant-loop-relation : goal.invariant-loop-relation
invariant-loop-relation l = record {
  counted : l.count ≡ relation_count (take l.relation-index l.relation-items);
  few : l.count ≤ 2 * l.relation-index;
}
