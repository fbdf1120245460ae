use Rattle.mt_grammar_laws.proofs.InOrder.{in_order}
use Rattle.mt_grammar_laws.proofs.grammar_queries_are_in_order.Goals as goal

pub returns : goal.returns
returns c = record {
  head = λ registry kind query q. (in_order registry kind query q).head;
  filters = λ registry kind query q. (in_order registry kind query q).filters;
  conds = λ registry kind query q. (in_order registry kind query q).conds;
  nodes = λ registry kind query q. (in_order registry kind query q).nodes;
  size = λ registry kind query q. (in_order registry kind query q).size;
}
