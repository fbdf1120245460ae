use Rattle.mt_answer.proofs.ByGrammar.{thesaurus_told, thesaurus_refused}
use Rattle.mt_answer.proofs.thesaurus.thes.Goals as goal

pub returns-in-Some : goal.returns-in-Some
returns-in-Some g c = λ corpus before.
    rw c.in-Some.is (thesaurus_told corpus c.in-Some.counts.now c.args.max c.args.lemma.now before c.thesaurus.result c.lines.result (rw c.as_str.ensures at c.thesaurus.ensures) c.lines.ensures.made
    c.lines.ensures.starved)

pub returns-in-None : goal.returns-in-None
returns-in-None g c = λ corpus before. rw c.in-None.is (thesaurus_refused corpus c.args.max c.args.lemma.now before c.refused.result c.refused.ensures)
