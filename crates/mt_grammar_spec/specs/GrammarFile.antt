-- The lines of a grammar file in their places, and why one is refused.
use Rattle.std.specs.Prelude.{ℕ, ◌≡◌, ◌≢◌, ◌+◌, ◌<◌, ◌≤◌, ◌⊎◌, ◌==◌, nat_eq, false, List, [], ◌∷◌, ◌++◌, length, take, drop, codes, IsUtf8, Option, None, Some, Ok, Err}
use Rattle.std.specs.List.{Contains, position_or_len}
use Rattle.std.specs.Cmp.Lexicographic.{pointwise}
use Rattle.std.specs.Str.Lines.{lines}
use Rattle.mt_text_spec.specs.Registries.{Registry, attr_names, kind_names}
use Rattle.mt_text_spec.specs.Queries.{Query, RelationKind, Plain, Dual, Symmetric, Trinary, Unary}
use Rattle.mt_query_spec.specs.Valid.{has_label}
use Rattle.mt_query_spec.specs.Verdicts.{Means, Refusal}
use Rattle.mt_grammar_spec.specs.GrammarLines.{Directive, OfKind, DefaultAttr, StructLimit, Unknown, Form, Skipped, Directs, Heads, Asks, form_of}

-- ## Lines in their places

-- What stands before a line: the kind that waits for the next heading, the number of the default attribute, the number of the structure that limits queries, the kind of
-- the last heading where there is one, and how many headings and queries there are.
pub record Before : Type 0 where
  pub pending : Option RelationKind
  pub default : ℕ
  pub limit : Option ℕ
  pub under : Option RelationKind
  pub headings : ℕ
  pub queries : ℕ

-- before the first line: the first attribute is the default
abbrev pub at_top : Before
at_top = record { pending = None; default = 0; limit = None; under = None; headings = 0; queries = 0 }

-- the number of a name among these
abbrev pub place_of : List ℕ → List (List ℕ) → ℕ
place_of name names = position_or_len (pointwise nat_eq name) names

-- the kind of a heading: the one that waits for it, or a plain one
abbrev pub kind_waiting : Option RelationKind → RelationKind
kind_waiting None = Plain
kind_waiting (Some kind) = kind

-- what stands before the next line where this one is a directive
abbrev pub directed : Registry → Before → Directive → Before
directed registry before (OfKind kind) = record before { pending = Some kind }
directed registry before (DefaultAttr name) = record before { default = place_of name (attr_names registry.attrs) }
directed registry before (StructLimit name) = record before { limit = Some (place_of name (kind_names registry.kinds)) }
directed registry before Unknown = before

-- what stands before the next line
abbrev pub behind : Registry → Before → Form → Before
behind registry before Skipped = before
behind registry before (Directs directive) = directed registry before directive
behind registry before (Heads heading) = record before { pending = None; under = Some (kind_waiting before.pending); headings = before.headings + 1 }
behind registry before (Asks text) = record before { queries = before.queries + 1 }

-- a line in its place: its number, from 1, its bytes, and what stands before it
pub record Line : Type 0 where
  pub number : ℕ
  pub text : List ℕ
  pub before : Before

-- these lines in their places, from the number and the state before the first of them on
abbrev pub lines_from : Registry → ℕ → Before → List (List ℕ) → List Line
lines_from registry number before [] = []
lines_from registry number before (text ∷ texts) =
    record { number = number; text = text; before = before } ∷ lines_from registry (number + 1) (behind registry before (form_of text)) texts

-- the lines of a file in their places
abbrev pub lines_of : Registry → List ℕ → List Line
lines_of registry bytes = lines_from registry 1 at_top (lines bytes)

-- ## Headings and labels

-- `%s` stands at this place, and nowhere before
abbrev pub mark : List ℕ
mark = codes "%s"

-- the heading holds `%s`
pub record HasMark (heading : List ℕ) : Type 0 where
  pub front : List ℕ
  pub back : List ℕ
  pub are : heading ≡ front ++ mark ++ back

-- the two names of a heading that is cut at its first `/`; the second is empty where there is none
abbrev pub first_name : List ℕ → List ℕ
first_name heading = take (position_or_len (λ b. b == 47) heading) heading

-- what stands behind the first `/`
abbrev pub second_name : List ℕ → List ℕ
second_name heading = drop (position_or_len (λ b. b == 47) heading + 1) heading

-- the heading lacks what its kind asks for
abbrev pub LacksName : RelationKind → List ℕ → Type 0
LacksName Plain heading = ⊥
LacksName Dual heading = (first_name heading ≡ []) ⊎ (second_name heading ≡ [])
LacksName Symmetric heading = ⊥
LacksName Trinary heading = HasMark heading → ⊥
LacksName Unary heading = ⊥

-- why a heading of this kind is none: it is empty, too long, holds a tab, or lacks what its kind asks for
pub data IsNoHeading (kind : RelationKind) (heading : List ℕ) : Type 0 where
  Empty : heading ≡ [] → IsNoHeading kind heading
  TooLong : 256 < length heading → IsNoHeading kind heading
  HasTab : Contains heading 9 → IsNoHeading kind heading
  Lacks : LacksName kind heading → IsNoHeading kind heading

-- a query of a relation of this kind needs this label
abbrev pub Needs : RelationKind → ℕ → Type 0
Needs Unary label = label ≡ 1
Needs Trinary label = (1 ≤ label) × (label ≤ 3)
Needs Plain label = (1 ≤ label) × (label ≤ 2)
Needs Dual label = (1 ≤ label) × (label ≤ 2)
Needs Symmetric label = (1 ≤ label) × (label ≤ 2)

-- a needed label stands nowhere in the query
pub record LacksLabel (kind : RelationKind) (query : Query) : Type 0 where
  pub label : ℕ
  pub needed : Needs kind label
  pub nowhere : has_label label query.head ≡ false

-- ## Causes

-- why a line refuses a grammar
pub data GrammarCause : Type 0 where
  NotUtf8 : GrammarCause
  NoDirective : GrammarCause
  SecondKind : GrammarCause
  NoName : GrammarCause
  NoGoodHeading : GrammarCause
  NoHeading : GrammarCause
  TooMany : GrammarCause
  NoQuery : (refusal : Refusal) → GrammarCause
  NoLabel : GrammarCause

-- the order in which causes of one line are answered
abbrev pub rank : GrammarCause → ℕ
rank NotUtf8 = 0
rank NoDirective = 1
rank SecondKind = 2
rank NoName = 3
rank NoGoodHeading = 4
rank NoHeading = 5
rank TooMany = 6
rank (NoQuery refusal) = 7
rank NoLabel = 8

-- the most headings of a file, and the most queries
abbrev pub headings_limit : ℕ
headings_limit = 256

-- the most queries of a file
abbrev pub grammar_queries_limit : ℕ
grammar_queries_limit = 1024

-- a line of this form, in its place, has this cause
pub data FormCause (registry : Registry) (before : Before) : Form → GrammarCause → Type 0 where
  IsUnknown : FormCause registry before (Directs Unknown) NoDirective
  IsSecond : (kind : RelationKind) → before.pending ≢ None → FormCause registry before (Directs (OfKind kind)) SecondKind
  NoAttr : (name : List ℕ) → (Contains (attr_names registry.attrs) name → ⊥) → FormCause registry before (Directs (DefaultAttr name)) NoName
  NoKind : (name : List ℕ) → (Contains (kind_names registry.kinds) name → ⊥) → FormCause registry before (Directs (StructLimit name)) NoName
  IsNone : (heading : List ℕ) → IsNoHeading (kind_waiting before.pending) heading → FormCause registry before (Heads heading) NoGoodHeading
  IsAbove : (text : List ℕ) → before.under ≡ None → FormCause registry before (Asks text) NoHeading
  ManyHeadings : (heading : List ℕ) → headings_limit ≤ before.headings → FormCause registry before (Heads heading) TooMany
  ManyQueries : (text : List ℕ) → grammar_queries_limit ≤ before.queries → FormCause registry before (Asks text) TooMany
  Refused : (text : List ℕ) (refusal : Refusal) → Means registry before.default text (Err refusal) → FormCause registry before (Asks text) (NoQuery refusal)
  Unlabelled : (text : List ℕ) (query : Query) (kind : RelationKind) → Means registry before.default text (Ok query) → before.under ≡ Some kind → LacksLabel kind query →
      FormCause registry before (Asks text) NoLabel

-- a line has this cause: it is not skipped and no UTF-8, or by its form
abbrev pub HasCause : Registry → Line → GrammarCause → Type 0
HasCause registry line NotUtf8 = (form_of line.text ≢ Skipped) × (IsUtf8 line.text → ⊥)
HasCause registry line cause = FormCause registry line.before (form_of line.text) cause

-- no line of the file has a cause
abbrev pub IsFaultless : Registry → List Line → Type 0
IsFaultless registry all = (line : Line) (cause : GrammarCause) → Contains all line → HasCause registry line cause → ⊥

-- The line of this number is the first that has a cause, and this is the first of its causes.
pub record FirstGrammarFault (registry : Registry) (bytes : List ℕ) (number : ℕ) (cause : GrammarCause) : Type 0 where
  pub earlier : List Line
  pub line : Line
  pub later : List Line
  pub are : lines_of registry bytes ≡ earlier ++ line ∷ later
  pub numbered : line.number ≡ number
  pub here : HasCause registry line cause
  pub first_cause : (other : GrammarCause) → HasCause registry line other → rank cause ≤ rank other
  pub first_line : IsFaultless registry earlier
