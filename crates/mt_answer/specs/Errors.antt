-- What contracts see of why a corpus gives no rows, and of why a grammar is refused.
use Rattle.mt_cql.specs.declared.query.QueryError.TheVariants as query
use Rattle.mt_grammar.specs.declared.error.GrammarError.{GrammarError}
use Rattle.mt_grammar.specs.declared.error.GrammarError.TheVariants as grammar
use Rattle.mt_prepare.specs.declared.patterns.PatternError.TheVariants as pattern
use Rattle.mt_search.specs.declared.error.RowsError.{RowsError}
use Rattle.mt_search.specs.declared.error.RowsError.TheVariants as error
use Rattle.mt_answer.specs.declared.refusal.Refusal.TheVariants as refusal
use Rattle.mt_answer.specs.declared.refusal.RuleCause.TheVariants as rule
use Rattle.mt_answer.specs.declared.declined.Declined.{Declined}
use Rattle.mt_answer.specs.declared.declined.Declined.TheVariants.{Refused, PatternRefused, NoMemory}

-- why there are no rows, as it is told
abbrev pub declined_by : RowsError → Declined
declined_by (error.Pattern (pattern.Syntax number)) = Refused (refusal.BadPattern number)
declined_by (error.Pattern (pattern.Refused number)) = PatternRefused number
declined_by (error.Pattern pattern.NoMemory) = NoMemory
declined_by error.TooManyRows = Refused refusal.TooManyRows
declined_by error.NoMemory = NoMemory

-- why a grammar is refused, as it is told
abbrev pub unruled_by : GrammarError → Declined
unruled_by (grammar.Line line cause) = Refused (refusal.BadGrammar line cause)
unruled_by (grammar.Query line query.TooLarge) = Refused (refusal.BadRule line rule.TooLarge)
unruled_by (grammar.Query line (query.Syntax at cause)) = Refused (refusal.BadRule line (rule.Syntax at cause))
unruled_by (grammar.Query line (query.Unknown at)) = Refused (refusal.BadRule line (rule.Unknown at))
unruled_by (grammar.Query line query.NoMemory) = NoMemory
unruled_by grammar.NoRelation = Refused refusal.NoRelation
unruled_by grammar.NoMemory = NoMemory
