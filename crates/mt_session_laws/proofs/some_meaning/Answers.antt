use Rattle.mt_session_laws.proofs.Meanings.{some_meaning}
use Rattle.mt_session_laws.proofs.some_meaning.Goals as goal

pub returns : goal.returns
returns c = some_meaning (record {
  some_query = c.some_meaning.ensures;
  have_spans = c.have_spans.ensures;
  have_frequencies = c.have_frequencies.ensures;
  have_collocates = c.have_collocates.ensures;
  some_grammar = c.some_grammar_answer.ensures;
  have_sketches = c.have_sketches.ensures;
  have_thesauri = c.have_thesauri.ensures;
})
