use Rattle.mt_grammar_laws.proofs.Grammars.{faultless}
use Rattle.mt_grammar_laws.proofs.one_grammar_answer.Goals as goal

pub returns : goal.returns
returns c = record {
  read_or_faulty = λ registry bytes grammar number cause r f. faultless registry bytes number cause r.faultless f;
  read_or_empty = λ registry bytes grammar r e. r.some e.none;
  empty_or_faulty = λ registry bytes number cause e f. faultless registry bytes number cause e.faultless f;
}
