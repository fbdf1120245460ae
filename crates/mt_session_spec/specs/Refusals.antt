-- Why a command is refused, and the line that says so. Lines stand here without their line feeds.
use Rattle.std.specs.Prelude.{ℕ, List, ◌∷◌, ◌++◌, codes}
use Rattle.std.specs.Fmt.{decimal}
use Rattle.mt_file_spec.specs.RegistryFile.{RegistryCause, registry_cause}
use Rattle.mt_file_spec.specs.Vertical.{TextCause, text_cause}
use Rattle.mt_query_spec.specs.Verdicts as verdict
use Rattle.mt_query_spec.specs.Verdicts.{Cause, NoQuery, NoStringEnd, NoTokenBegins, Range, BadLabel}
use Rattle.mt_grammar_spec.specs.GrammarFile as grammar
use Rattle.mt_grammar_spec.specs.GrammarFile.{GrammarCause}

-- why a command is refused
pub data Refusal : Type 0 where
  BadCommand : Refusal
  CutShort : Refusal
  RegistryLate : Refusal
  NameTaken : (name : List ℕ) → Refusal
  NoSuchFile : (file : List ℕ) → Refusal
  FileTooLong : (file : List ℕ) → Refusal
  BadRegistry : (line : ℕ) (cause : RegistryCause) → Refusal
  NoAttribute : Refusal
  BadVertical : (line : ℕ) (cause : TextCause) → Refusal
  BadQuery : (at : ℕ) (cause : Cause) → Refusal
  UnknownName : (name : List ℕ) → Refusal
  BadPattern : (k : ℕ) → Refusal
  TooManyRows : Refusal
  CorpusFull : Refusal
  NoGrammar : Refusal
  BadGrammar : (line : ℕ) (cause : GrammarCause) → Refusal
  NoRelation : Refusal
  QueryTooLarge : Refusal
  NoSuchText : (name : List ℕ) → Refusal

-- why the text of a query is refused at a place
abbrev pub query_cause : Cause → List ℕ
query_cause NoQuery = codes "Token"
query_cause NoStringEnd = codes "String"
query_cause NoTokenBegins = codes "Char"
query_cause Range = codes "Range"
query_cause BadLabel = codes "Label"

-- why the query of a line of a grammar is refused
abbrev pub rule_cause : verdict.Refusal → List ℕ
rule_cause verdict.TooLarge = codes "TooLarge"
rule_cause (verdict.Syntax at cause) = codes "Syntax " ++ decimal at ++ 32 ∷ query_cause cause
rule_cause (verdict.Unknown at) = codes "Unknown " ++ decimal at

-- why a line of a grammar is refused
abbrev pub grammar_cause : GrammarCause → List ℕ
grammar_cause grammar.NotUtf8 = codes "NotUtf8"
grammar_cause grammar.NoDirective = codes "Directive"
grammar_cause grammar.SecondKind = codes "Kind"
grammar_cause grammar.NoName = codes "Name"
grammar_cause grammar.NoGoodHeading = codes "Heading"
grammar_cause grammar.NoHeading = codes "NoHeading"
grammar_cause grammar.TooMany = codes "TooMany"
grammar_cause (grammar.NoQuery refusal) = rule_cause refusal
grammar_cause grammar.NoLabel = codes "Label"

-- the line that answers a refused command
abbrev pub refusal_line : Refusal → List ℕ
refusal_line BadCommand = codes "! 10 BadCommand"
refusal_line CutShort = codes "! 11 CutShort"
refusal_line RegistryLate = codes "! 12 RegistryLate"
refusal_line (NameTaken name) = codes "! 13 NameTaken " ++ name
refusal_line (NoSuchFile file) = codes "! 14 NoSuchFile " ++ file
refusal_line (FileTooLong file) = codes "! 15 FileTooLong " ++ file
refusal_line (BadRegistry line cause) = codes "! 16 BadRegistry " ++ decimal line ++ 32 ∷ registry_cause cause
refusal_line NoAttribute = codes "! 16 BadRegistry 0 NoAttribute"
refusal_line (BadVertical line cause) = codes "! 17 BadVertical " ++ decimal line ++ 32 ∷ text_cause cause
refusal_line (BadQuery at cause) = codes "! 18 BadQuery " ++ decimal at ++ 32 ∷ query_cause cause
refusal_line (UnknownName name) = codes "! 19 UnknownName " ++ name
refusal_line (BadPattern k) = codes "! 20 BadPattern " ++ decimal k
refusal_line TooManyRows = codes "! 22 TooManyRows"
refusal_line CorpusFull = codes "! 23 CorpusFull"
refusal_line NoGrammar = codes "! 25 NoGrammar"
refusal_line (BadGrammar line cause) = codes "! 26 BadGrammar " ++ decimal line ++ 32 ∷ grammar_cause cause
refusal_line NoRelation = codes "! 26 BadGrammar 0 NoRelation"
refusal_line QueryTooLarge = codes "! 27 QueryTooLarge"
refusal_line (NoSuchText name) = codes "! 31 NoSuchText " ++ name

-- the line that tells that the shop refused the pattern with this number
abbrev pub pattern_refused_line : ℕ → List ℕ
pattern_refused_line k = codes "! 21 PatternRefused " ++ decimal k

-- the line that tells that a call of the shelf at this file failed
abbrev pub failure_line : List ℕ → List ℕ
failure_line file = codes "! 29 ShelfFailed " ++ file

-- the line that tells that memory ran out
abbrev pub no_memory_line : List ℕ
no_memory_line = codes "! 30 NoMemory"

-- the line that answers an accepted command which has nothing else to say
abbrev pub ok_line : List ℕ
ok_line = codes "ok"
