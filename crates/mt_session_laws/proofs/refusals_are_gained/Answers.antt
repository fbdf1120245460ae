use Rattle.mt_session_laws.proofs.Refusals.{refusals_gained}
use Rattle.mt_session_laws.proofs.refusals_are_gained.Goals as goal

pub returns : goal.returns
returns c = refusals_gained (record { one_query = c.one_meaning.ensures; one_grammar = c.one_grammar.ensures; few = c.contents_are_few.ensures.patterns })
