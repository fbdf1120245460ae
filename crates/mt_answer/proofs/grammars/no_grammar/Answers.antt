use Rattle.mt_grammar.specs.declared.error.GrammarError.TheVariants as error
use Rattle.mt_answer.proofs.Unruled.{unruled}
use Rattle.mt_answer.proofs.grammars.no_grammar.Goals as goal

pub returns-in-Line-clause-refused : goal.returns-in-Line-clause-refused
returns-in-Line-clause-refused c = λ registry bytes refused. unruled (error.Line c.in-Line.line c.in-Line.cause) registry bytes (rw c.in-Line.is at refused)

pub returns-in-Query-clause-refused : goal.returns-in-Query-clause-refused
returns-in-Query-clause-refused c = λ registry bytes refused. rw c.no_rule.ensures (unruled (error.Query c.in-Query.line c.in-Query.error) registry bytes (rw c.in-Query.is at refused))

pub returns-in-NoRelation-clause-refused : goal.returns-in-NoRelation-clause-refused
returns-in-NoRelation-clause-refused c = λ registry bytes refused. unruled error.NoRelation registry bytes (rw c.in-NoRelation.is at refused)
