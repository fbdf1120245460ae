-- What contracts see of why the patterns of a grammar are not built.
use Rattle.mt_prepare.specs.declared.patterns.PatternError.{PatternError}
use Rattle.mt_prepare.specs.declared.patterns.PatternError.TheVariants as pattern
use Rattle.mt_answer.specs.declared.refusal.Refusal.TheVariants as refusal
use Rattle.mt_answer.specs.declared.declined.Declined.{Declined}
use Rattle.mt_answer.specs.declared.declined.Declined.TheVariants.{Refused, PatternRefused, NoMemory}

-- why patterns are not built, as it is told
abbrev pub declined_by : PatternError → Declined
declined_by (pattern.Syntax number) = Refused (refusal.BadPattern number)
declined_by (pattern.Refused number) = PatternRefused number
declined_by pattern.NoMemory = NoMemory
