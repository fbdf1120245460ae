-- The instances of a sketch grammar in one text.
use Rattle.std.specs.Prelude.{ℕ, ◌≡◌, ◌≤◌, List, [], ◌∷◌, ◌++◌, length, codes}
use Rattle.std.specs.List.{Contains}
use Rattle.mt_text_spec.specs.Registries.{Registry}
use Rattle.mt_text_spec.specs.Texts.{Text, Row}
use Rattle.mt_text_spec.specs.Queries.{Query, RelationKind, Plain, Dual, Symmetric, Trinary, Unary, Relation, Grammar}
use Rattle.mt_match_spec.specs.Values.{Images, value_at}
use Rattle.mt_match_spec.specs.Labels.{IsSetTo}
use Rattle.mt_match_spec.specs.Kept.{Keeps}

-- An instance of a relation in a text, by the relation's final name: of a binary one at two places, of a unary one at one. So the two stay apart where their names are one.
pub data Instance : Type 0 where
  AtTwo : (name : List ℕ) (p q : ℕ) → Instance
  AtOne : (name : List ℕ) (p : ℕ) → Instance

-- these bytes with the value in place of the first `%s`
pub record IsFilled (name value final : List ℕ) : Type 0 where
  pub front : List ℕ
  pub back : List ℕ
  pub are : name ≡ front ++ codes "%s" ++ back
  pub first : (before after : List ℕ) → name ≡ before ++ codes "%s" ++ after → length front ≤ length before
  pub is : final ≡ front ++ value ++ back

-- the labels 1 and 2 are set, to these places
pub record IsPair (row : Row) (p q : ℕ) : Type 0 where
  pub first : IsSetTo row.labels 1 p
  pub second : IsSetTo row.labels 2 q

-- What a row gives by the kind of the relation. One that leaves a needed label unset gives nothing.
pub data Gives (images : Images) (registry : Registry) (text : Text) (relation : Relation) (row : Row) : RelationKind → Instance → Type 0 where
  GivesPlain : (p q : ℕ) → IsPair row p q → Gives images registry text relation row Plain (AtTwo relation.name p q)
  GivesDual : (p q : ℕ) → IsPair row p q → Gives images registry text relation row Dual (AtTwo relation.name p q)
  GivesTurned : (p q : ℕ) → IsPair row p q → Gives images registry text relation row Dual (AtTwo relation.second q p)
  GivesSymmetric : (p q : ℕ) → IsPair row p q → Gives images registry text relation row Symmetric (AtTwo relation.name p q)
  GivesBack : (p q : ℕ) → IsPair row p q → Gives images registry text relation row Symmetric (AtTwo relation.name q p)
  GivesTrinary : (p q r : ℕ) (final : List ℕ) → IsPair row p q → IsSetTo row.labels 3 r → IsFilled relation.name (value_at images registry text registry.ws_attr r) final →
      Gives images registry text relation row Trinary (AtTwo final p q)
  GivesUnary : (p : ℕ) → IsSetTo row.labels 1 p → Gives images registry text relation row Unary (AtOne relation.name p)

-- The text has this instance: some query of some relation keeps a row of the text by itself that gives it. However many rows, lines and headings give it, it is one.
pub record HasInstance (images : Images) (registry : Registry) (grammar : Grammar) (text : Text) (instance : Instance) : Type 0 where
  pub relation : Relation
  pub relations : Contains grammar.relations relation
  pub query : Query
  pub queries : Contains relation.queries query
  pub row : Row
  pub keeps : Keeps images registry (text ∷ []) query row
  pub gives : Gives images registry text relation row relation.kind instance
