use Rattle.mt_answer.proofs.ByGrammar.{sketch_told, sketch_refused}
use Rattle.mt_answer.proofs.sketches.sketch.Goals as goal

pub returns-in-Some : goal.returns-in-Some
returns-in-Some c = λ corpus before.
    rw c.in-Some.is (sketch_told corpus c.in-Some.counts.now c.args.least c.args.max c.args.lemma.now before c.sketch.result c.lines.result (rw c.as_str.ensures at c.sketch.ensures) c.lines.ensures.made
    c.lines.ensures.starved)

pub returns-in-None : goal.returns-in-None
returns-in-None c = λ corpus before. rw c.in-None.is (sketch_refused corpus c.args.least c.args.max c.args.lemma.now before c.refused.result c.refused.ensures)
