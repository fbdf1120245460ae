-- From the rows of a grammar's queries in a text to the counts of the text.
use Rattle.std.specs.Prelude.{List, [], ◌∷◌, ◌++◌, ℕ}
use Rattle.std.specs.List.{Contains}
use Rattle.mt_text_spec.specs.Registries.{Registry}
use Rattle.mt_text_spec.specs.Texts.{Text, Row, Span}
use Rattle.mt_text_spec.specs.Queries.{Query, Relation, Grammar}
use Rattle.mt_match_spec.specs.Values.{Images}
use Rattle.mt_match_spec.specs.Kept.{Keeps}
use Rattle.mt_count_spec.specs.Instances.{Instance, Gives}
use Rattle.mt_counts.specs.Counted.{Counted}
use Rattle.mt_triples.specs.CountsOf.{AreCountsOf}
use Rattle.mt_instances.specs.Gains.{Gains, GivenBy}
use Rattle.mt_instances.specs.Gathered.{IsText}
use Rattle.mt_instances.specs.Collected.{CountsEach}

-- a row like another, wherever its span is
pub record Stands (P : Row → Type 0) (labels : List ℕ) : Type 0 where
  pub span : Span
  pub is : P (record { span = span; labels = labels })

-- Rows have just the labels of those that a query keeps in the text. Their spans may be told by another number of the text.
pub record HaveLabels (images : Images) (registry : Registry) (text : Text) (query : Query) (rows : List Row) : Type 0 where
  pub only : (row : Row) → Contains rows row → Stands (Keeps images registry (text ∷ []) query) row.labels
  pub each : (row : Row) → Keeps images registry (text ∷ []) query row → Stands (Contains rows) row.labels

-- a relation and one of its queries
pub record Line : Type 0 where
  pub relation : Relation
  pub query : Query

-- a row that the query of some of these lines keeps in the text gives the instance
pub record IsOfLines (images : Images) (registry : Registry) (text : Text) (lines : List Line) (instance : Instance) : Type 0 where
  pub line : Line
  pub there : Contains lines line
  pub row : Row
  pub keeps : Keeps images registry (text ∷ []) line.query row
  pub gives : Gives images registry text line.relation row line.relation.kind instance

-- just the instances of these lines are given
pub record AreOfLines (images : Images) (registry : Registry) (text : Text) (lines : List Line) (given : List Instance) : Type 0 where
  pub only : (instance : Instance) → Contains given instance → IsOfLines images registry text lines instance
  pub each : (instance : Instance) → IsOfLines images registry text lines instance → Contains given instance

-- none are given before the first line
abbrev pub NoneAreGiven : Type 0
NoneAreGiven = (images : Images) (registry : Registry) (text : Text) → AreOfLines images registry text [] []

-- and with the rows of one line more those of one line more
abbrev pub LinesGoOn : Type 0
LinesGoOn = (images : Images) (registry : Registry) (text : Text) (lines : List Line) (relation : Relation) (query : Query) (rows : List Row) (old new : List Instance) →
    AreOfLines images registry text lines old → HaveLabels images registry text query rows → Gains old new (GivenBy images registry text relation rows) →
    AreOfLines images registry text (lines ++ record { relation = relation; query = query } ∷ []) new

-- the lines are those of the grammar, in any order
pub record AreLinesOf (grammar : Grammar) (lines : List Line) : Type 0 where
  pub relations : (line : Line) → Contains lines line → Contains grammar.relations line.relation
  pub queries : (line : Line) → Contains lines line → Contains line.relation.queries line.query
  pub all : (relation : Relation) (query : Query) → Contains grammar.relations relation → Contains relation.queries query → Contains lines (record { relation = relation; query = query })

-- Where the instances of all lines of a grammar are given, and each is counted once more, the counts are those of the text too.
abbrev pub TextIsCounted : Type 0
TextIsCounted = (images : Images) (registry : Registry) (grammar : Grammar) (corpus : List Text) (text : Text) (lines : List Line) (lexicon : List (List ℕ)) (numbers : List ℕ) (given : List Instance) (old new : Counted) →
    AreLinesOf grammar lines → AreOfLines images registry text lines given → IsText images registry text lexicon numbers → AreCountsOf images registry grammar corpus old → CountsEach lexicon numbers given old new →
    AreCountsOf images registry grammar (corpus ++ text ∷ []) new
