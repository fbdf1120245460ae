use Rattle.mt_session_laws.proofs.Meanings.{one_meaning}
use Rattle.mt_session_laws.proofs.one_meaning.Goals as goal

pub returns : goal.returns
returns c = one_meaning (record {
  one_text = c.one_text.ensures;
  no_text_with_fault = c.no_text_with_fault.ensures;
  one_fault = c.one_fault.ensures;
  one_registry = c.one_registry.ensures;
  one_registry_fault = c.one_registry_fault.ensures;
  apart = c.one_registry_answer.ensures;
  one_query = c.one_meaning.ensures;
  one_spans = c.spans_are_one.ensures;
  one_frequencies = c.frequencies_are_one.ensures;
  one_collocates = c.collocates_are_one.ensures;
  one_grammar = c.one_grammar.ensures;
  one_grammar_fault = c.one_grammar_fault.ensures;
  grammars_apart = c.one_grammar_answer.ensures;
  one_sketch = c.one_sketch.ensures;
  one_thesaurus = c.one_thesaurus.ensures;
})
