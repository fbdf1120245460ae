-- What a grammar file is read as.
use Rattle.std.specs.Prelude.{ℕ, ◌≡◌, ◌≢◌, ◌+◌, ◌==◌, Bool, true, false, List, [], ◌∷◌, Option, None, Some, Ok}
use Rattle.std.specs.List.{filter}
use Rattle.mt_text_spec.specs.Registries.{Registry}
use Rattle.mt_text_spec.specs.Queries.{Any, Whole, Within, Filters, NoMore, More, Query, RelationKind, Plain, Dual, Symmetric, Trinary, Unary, Relation, Grammar}
use Rattle.mt_query_spec.specs.Verdicts.{Means}
use Rattle.mt_grammar_spec.specs.GrammarLines.{Form, Skipped, Directs, Heads, Asks, form_of}
use Rattle.mt_grammar_spec.specs.GrammarFile.{Line, lines_of, kind_waiting, first_name, second_name, IsFaultless}

-- ## Queries

-- these filters and one more behind them
abbrev pub filter_behind : Filters → Filters → Filters
filter_behind NoMore last = last
filter_behind (More kind head filters others) last = More kind head filters (filter_behind others last)

-- a query that is limited to a structure has `within` the whole of an instance for its last filter
abbrev pub limited : Option ℕ → Query → Query
limited None query = query
limited (Some kind) query = record query { filters = filter_behind query.filters (More Within (Whole kind Any) NoMore NoMore) }

-- whether a line is a heading
abbrev pub is_heading : Form → Bool
is_heading Skipped = false
is_heading (Directs directive) = false
is_heading (Heads heading) = true
is_heading (Asks text) = false

-- whether a line is a query
abbrev pub is_query : Form → Bool
is_query Skipped = false
is_query (Directs directive) = false
is_query (Heads heading) = false
is_query (Asks text) = true

-- the lines that are headings, and those that are queries of the heading with this number, from 1
abbrev pub heading_lines : List Line → List Line
heading_lines all = filter (λ line. is_heading (form_of line.text)) all

-- the lines that are queries of the heading with this number, from 1
abbrev pub query_lines : List Line → ℕ → List Line
query_lines all number = filter (λ line. is_query (form_of line.text)) (filter (λ line. line.before.headings == number) all)

-- a line is this query: what its text means by itself, with the limit that holds there
pub record IsQueryOf (registry : Registry) (line : Line) (query : Query) : Type 0 where
  pub text : List ℕ
  pub form : form_of line.text ≡ Asks text
  pub own : Query
  pub means : Means registry line.before.default text (Ok own)
  pub is : query ≡ limited line.before.limit own

-- each of these lines in turn is the query beside it
pub data AreQueries (registry : Registry) : List Line → List Query → Type 0 where
  NoQueries : AreQueries registry [] []
  ThenQuery : (line : Line) (all : List Line) (query : Query) (queries : List Query) → IsQueryOf registry line query → AreQueries registry all queries → AreQueries registry (line ∷ all) (query ∷ queries)

-- ## Relations

-- the name of a relation by its kind and heading, and its second name
abbrev pub name_by : RelationKind → List ℕ → List ℕ
name_by Plain heading = heading
name_by Dual heading = first_name heading
name_by Symmetric heading = heading
name_by Trinary heading = heading
name_by Unary heading = heading

-- the second name of a relation, which only a dual one has
abbrev pub second_by : RelationKind → List ℕ → List ℕ
second_by Plain heading = []
second_by Dual heading = second_name heading
second_by Symmetric heading = []
second_by Trinary heading = []
second_by Unary heading = []

-- a heading of the file begins this relation, whose queries are those up to the next heading
pub record IsRelationOf (registry : Registry) (file : List Line) (line : Line) (relation : Relation) : Type 0 where
  pub heading : List ℕ
  pub form : form_of line.text ≡ Heads heading
  pub kind : relation.kind ≡ kind_waiting line.before.pending
  pub name : relation.name ≡ name_by relation.kind heading
  pub second : relation.second ≡ second_by relation.kind heading
  pub queries : AreQueries registry (query_lines file (line.before.headings + 1)) relation.queries

-- each of these headings in turn begins the relation beside it
pub data AreRelations (registry : Registry) (file : List Line) : List Line → List Relation → Type 0 where
  NoRelations : AreRelations registry file [] []
  ThenRelation : (line : Line) (all : List Line) (relation : Relation) (relations : List Relation) → IsRelationOf registry file line relation → AreRelations registry file all relations →
      AreRelations registry file (line ∷ all) (relation ∷ relations)

-- The file is read as this grammar: no line has a cause, there is a heading, and its headings are the relations in order.
pub record ReadsGrammar (registry : Registry) (bytes : List ℕ) (grammar : Grammar) : Type 0 where
  pub faultless : IsFaultless registry (lines_of registry bytes)
  pub some : heading_lines (lines_of registry bytes) ≢ []
  pub are : AreRelations registry (lines_of registry bytes) (heading_lines (lines_of registry bytes)) grammar.relations

-- no line has a cause, and there is no heading
pub record LacksRelation (registry : Registry) (bytes : List ℕ) : Type 0 where
  pub faultless : IsFaultless registry (lines_of registry bytes)
  pub none : heading_lines (lines_of registry bytes) ≡ []

-- how many relations a grammar has for its user: one that has two names counts twice
abbrev pub relation_count : List Relation → ℕ
relation_count [] = 0
relation_count (relation ∷ relations) = names_of relation.kind + relation_count relations
  where
    names_of : RelationKind → ℕ
    names_of Plain = 1
    names_of Dual = 2
    names_of Symmetric = 1
    names_of Trinary = 1
    names_of Unary = 1
