-- What is kept while the lines of a grammar are read, and what each line does to it.
use Rattle.std.specs.Prelude.{ℕ, ◌≡◌, ◌+◌, ◌<◌, ◌≤◌, List, [], ◌∷◌, ◌++◌, length, Option, None, Some, Ok}
use Rattle.mt_text_spec.specs.Registries.{Registry, attr_names, kind_names}
use Rattle.mt_text_spec.specs.Queries.{Query, RelationKind, Relation}
use Rattle.mt_query_spec.specs.Verdicts.{Means}
use Rattle.mt_grammar_spec.specs.GrammarLines.{OfKind, DefaultAttr, StructLimit, Unknown, Form, Skipped, Directs, Heads, Asks, form_of}
use Rattle.mt_grammar_spec.specs.GrammarFile.{Before, Line, GrammarCause, FormCause, HasCause, rank, place_of, kind_waiting, headings_limit, grammar_queries_limit}
use Rattle.mt_grammar_spec.specs.ReadGrammar.{limited, name_by, second_by}

-- How many lines have been read; what is in force behind them: the kind that waits for a heading, the default attribute and the limit; how many queries there
-- are; the relations whose last query is read, and the last one, to which queries are added.
pub record State : Type 0 where
  pub number : ℕ
  pub pending : Option RelationKind
  pub default : ℕ
  pub limit : Option ℕ
  pub queries : ℕ
  pub done : List Relation
  pub last : Option Relation

-- before the first line
abbrev pub at_first : State
at_first = record { number = 0; pending = None; default = 0; limit = None; queries = 0; done = []; last = None }

abbrev pub kind_of : Option Relation → Option RelationKind
kind_of None = None
kind_of (Some relation) = Some relation.kind

-- the relations, and one more at their end
abbrev pub with_last : List Relation → Option Relation → List Relation
with_last done None = done
with_last done (Some relation) = done ++ relation ∷ []

-- all relations so far
abbrev pub relations_in : State → List Relation
relations_in state = with_last state.done state.last

-- what stands before the next line
abbrev pub before_of : State → Before
before_of state = record {
  pending = state.pending;
  default = state.default;
  limit = state.limit;
  under = kind_of state.last;
  headings = length (relations_in state);
  queries = state.queries;
}

-- the next line in its place
abbrev pub next_line : State → List ℕ → Line
next_line state text = record { number = state.number + 1; text = text; before = before_of state }

-- what is always so under this registry
pub record IsSound (registry : Registry) (state : State) : Type 0 where
  pub default : state.default < length registry.attrs
  pub limit : (kind : ℕ) → state.limit ≡ Some kind → kind < length registry.kinds
  pub headings : length (relations_in state) ≤ headings_limit
  pub queries : state.queries ≤ grammar_queries_limit

-- a relation with one query more
abbrev pub with_query : Relation → Query → Relation
with_query relation query = record relation { queries = relation.queries ++ query ∷ [] }

-- a query of this text is added to the last relation
pub record HasAsked (registry : Registry) (old : State) (text : List ℕ) (new : State) : Type 0 where
  pub relation : Relation
  pub under : old.last ≡ Some relation
  pub own : Query
  pub means : Means registry old.default text (Ok own)
  pub is : new ≡ record old { queries = old.queries + 1; last = Some (with_query relation (limited old.limit own)) }

-- what a heading begins
abbrev pub begun : RelationKind → List ℕ → Relation
begun kind heading = record { kind = kind; name = name_by kind heading; second = second_by kind heading; queries = [] }

-- what a line of this form does, beside that it is counted
abbrev pub Does : Registry → State → Form → State → Type 0
Does registry old Skipped new = new ≡ old
Does registry old (Directs (OfKind kind)) new = new ≡ record old { pending = Some kind }
Does registry old (Directs (DefaultAttr name)) new = new ≡ record old { default = place_of name (attr_names registry.attrs) }
Does registry old (Directs (StructLimit name)) new = new ≡ record old { limit = Some (place_of name (kind_names registry.kinds)) }
Does registry old (Directs Unknown) new = ⊥
Does registry old (Heads heading) new = new ≡ record old { pending = None; done = relations_in old; last = Some (begun (kind_waiting old.pending) heading) }
Does registry old (Asks text) new = HasAsked registry old text new

-- no cause refuses a line
abbrev pub IsClean : Registry → Line → Type 0
IsClean registry line = (cause : GrammarCause) → HasCause registry line cause → ⊥

-- the next line was read, and has no cause
pub record HasTaken (registry : Registry) (old : State) (text : List ℕ) (new : State) : Type 0 where
  pub clean : IsClean registry (next_line old text)
  pub did : Does registry (record old { number = old.number + 1 }) (form_of text) new
  pub sound : IsSound registry new

-- this is the first cause of a line
pub record IsFirstCause (registry : Registry) (line : Line) (cause : GrammarCause) : Type 0 where
  pub here : HasCause registry line cause
  pub first : (other : GrammarCause) → HasCause registry line other → rank cause ≤ rank other

-- no cause fits a form in its place
abbrev pub IsFormClean : Registry → Before → Form → Type 0
IsFormClean registry before form = (cause : GrammarCause) → FormCause registry before form cause → ⊥

-- this is the first that does
pub record IsFormFirst (registry : Registry) (before : Before) (form : Form) (cause : GrammarCause) : Type 0 where
  pub here : FormCause registry before form cause
  pub first : (other : GrammarCause) → FormCause registry before form other → rank cause ≤ rank other

-- a line of this form was read behind these, and counted before
pub record HasDone (registry : Registry) (old : State) (form : Form) (new : State) : Type 0 where
  pub clean : IsFormClean registry (before_of old) form
  pub did : Does registry old form new
  pub sound : IsSound registry new
