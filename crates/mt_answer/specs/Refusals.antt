-- What contracts see of a refusal.
use Rattle.mt_session_spec.specs.Refusals.{Refusal, BadCommand, RegistryLate, NameTaken, NoSuchFile, FileTooLong, BadRegistry, NoAttribute, BadVertical, BadQuery, UnknownName, BadPattern, TooManyRows, CorpusFull, NoGrammar, BadGrammar, NoRelation, QueryTooLarge, NoSuchText}
use Rattle.mt_registry.specs.RegistryErrors.{registry_cause_of}
use Rattle.mt_vertical.specs.Causes.{text_cause_of}
use Rattle.mt_query_spec.specs.Verdicts as verdict
use Rattle.mt_grammar_spec.specs.GrammarFile.{NoQuery}
use Rattle.mt_cql.specs.Read.{cause_seen}
use Rattle.mt_grammar.specs.Errors.{line_cause_seen}
use Rattle.mt_answer.specs.declared.refusal.Refusal.{Refusal as RustRefusal}
use Rattle.mt_answer.specs.declared.refusal.Refusal.TheVariants as refusal
use Rattle.mt_answer.specs.declared.refusal.RuleCause.{RuleCause}
use Rattle.mt_answer.specs.declared.refusal.RuleCause.TheVariants as rule

-- why the text of a line of a grammar is no query
abbrev pub rule_cause_seen : RuleCause → verdict.Refusal
rule_cause_seen rule.TooLarge = verdict.TooLarge
rule_cause_seen (rule.Syntax at cause) = verdict.Syntax at (cause_seen cause)
rule_cause_seen (rule.Unknown at) = verdict.Unknown at

-- a refusal
abbrev pub refusal_of : RustRefusal → Refusal
refusal_of refusal.BadCommand = BadCommand
refusal_of refusal.RegistryLate = RegistryLate
refusal_of (refusal.NameTaken name) = NameTaken name.now
refusal_of (refusal.NoSuchFile file) = NoSuchFile file.now
refusal_of (refusal.FileTooLong file) = FileTooLong file.now
refusal_of (refusal.BadRegistry bad) = BadRegistry bad.line (registry_cause_of bad.cause)
refusal_of refusal.NoAttribute = NoAttribute
refusal_of (refusal.BadVertical bad) = BadVertical bad.line (text_cause_of bad.cause)
refusal_of (refusal.BadQuery at cause) = BadQuery at (cause_seen cause)
refusal_of (refusal.UnknownName name) = UnknownName name.now
refusal_of (refusal.BadPattern number) = BadPattern number
refusal_of refusal.TooManyRows = TooManyRows
refusal_of refusal.CorpusFull = CorpusFull
refusal_of refusal.NoGrammar = NoGrammar
refusal_of (refusal.BadGrammar line cause) = BadGrammar line (line_cause_seen cause)
refusal_of (refusal.BadRule line cause) = BadGrammar line (NoQuery (rule_cause_seen cause))
refusal_of refusal.NoRelation = NoRelation
refusal_of refusal.QueryTooLarge = QueryTooLarge
refusal_of (refusal.NoSuchText name) = NoSuchText name.now
