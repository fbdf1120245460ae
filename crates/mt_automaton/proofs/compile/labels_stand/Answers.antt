use Rattle.mt_automaton.proofs.Compiled.{valid_stands, order_stands}
use Rattle.mt_automaton.proofs.compile.labels_stand.Goals as goal

pub returns : goal.returns
returns c = record { valid = valid_stands; in_order = order_stands }
