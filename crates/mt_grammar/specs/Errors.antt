-- What contracts see of errors.
use Rattle.std.specs.Prelude.{ℕ, ◌≡◌, List, None, Err}
use Rattle.mt_text_spec.specs.Registries.{Registry}
use Rattle.mt_query_spec.specs.Verdicts as v
use Rattle.mt_cql.specs.declared.query.QueryError.TheVariants as query
use Rattle.mt_cql.specs.Read.{cause_seen}
use Rattle.mt_grammar_spec.specs.GrammarLines.{Form}
use Rattle.mt_grammar_spec.specs.GrammarFile.{Line, GrammarCause, NotUtf8, NoDirective, SecondKind, NoName, NoGoodHeading, NoHeading, TooMany, NoQuery, NoLabel, FirstGrammarFault}
use Rattle.mt_grammar_spec.specs.ReadGrammar.{LacksRelation}
use Rattle.mt_grammar.specs.Reading.{State, before_of, IsFirstCause, IsFormFirst}
use Rattle.mt_grammar.specs.declared.error.LineCause.{LineCause}
use Rattle.mt_grammar.specs.declared.error.LineCause.TheVariants as cause
use Rattle.mt_grammar.specs.declared.error.GrammarError.{GrammarError}
use Rattle.mt_grammar.specs.declared.error.GrammarError.TheVariants as error

-- the cause that is told
abbrev pub line_cause_seen : LineCause → GrammarCause
line_cause_seen cause.NotUtf8 = NotUtf8
line_cause_seen cause.Directive = NoDirective
line_cause_seen cause.Kind = SecondKind
line_cause_seen cause.Name = NoName
line_cause_seen cause.Heading = NoGoodHeading
line_cause_seen cause.NoHeading = NoHeading
line_cause_seen cause.TooMany = TooMany
line_cause_seen cause.Label = NoLabel

-- an error tells a line and a cause of which the first holds, that there is no relation, or want of memory
abbrev pub Tells : (ℕ → GrammarCause → Type 0) → Type 0 → GrammarError → Type 0
Tells Faulty Empty (error.Line line cause) = Faulty line (line_cause_seen cause)
Tells Faulty Empty (error.Query line (query.Syntax at cause)) = Faulty line (NoQuery (v.Syntax at (cause_seen cause)))
Tells Faulty Empty (error.Query line (query.Unknown at)) = Faulty line (NoQuery (v.Unknown at))
Tells Faulty Empty (error.Query line query.TooLarge) = Faulty line (NoQuery v.TooLarge)
Tells Faulty Empty (error.Query line query.NoMemory) = ⊥
Tells Faulty Empty error.NoRelation = Empty
Tells Faulty Empty error.NoMemory = Unit {0}

-- the first bad line of a file and its first cause, or that no line is bad and none is a heading, or want of memory
abbrev pub IsRefusal : Registry → List ℕ → GrammarError → Type 0
IsRefusal registry bytes error = Tells (FirstGrammarFault registry bytes) (LacksRelation registry bytes) error

-- the number of a line and its first cause, or want of memory
abbrev pub RefusesLine : Registry → Line → GrammarError → Type 0
RefusesLine registry line error = Tells (λ number cause. (number ≡ line.number) × IsFirstCause registry line cause) ⊥ error

-- the number of the line that is read, and the first cause that its form has there, or want of memory
abbrev pub RefusesForm : Registry → State → Form → GrammarError → Type 0
RefusesForm registry state form error = Tells (λ number cause. (number ≡ state.number) × IsFormFirst registry (before_of state) form cause) ⊥ error

-- what a text is refused for, at a line
pub record IsTextFault (registry : Registry) (default : ℕ) (text : List ℕ) (line number : ℕ) (cause : GrammarCause) : Type 0 where
  pub numbered : number ≡ line
  pub refusal : v.Refusal
  pub is : cause ≡ NoQuery refusal
  pub means : v.Means registry default text (Err refusal)

-- the number of the line that is read, and what its text is refused for, or want of memory
abbrev pub RefusesText : Registry → State → List ℕ → GrammarError → Type 0
RefusesText registry state text error = Tells (IsTextFault registry state.default text state.number) ⊥ error

-- there is no heading, or want of memory
abbrev pub IsUnended : State → GrammarError → Type 0
IsUnended state error = Tells (λ number cause. ⊥) (state.last ≡ None) error
