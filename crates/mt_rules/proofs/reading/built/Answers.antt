use Rattle.mt_rules.proofs.Declines.{unbuilt_declines}
use Rattle.mt_rules.proofs.reading.built.Goals as goal

pub returns-clause-declined : goal.returns-clause-declined
returns-clause-declined g c = λ bytes read.
    rw c.no_pattern.ensures (unbuilt_declines c.one_grammar_answer.ensures c.patterns_are_told.ensures c.args.corpus.now bytes c.args.grammar _ _ c.in-Err.error read c.in-Err.ensures.blames)
