-- When a grammar is valid.
use Rattle.std.specs.Prelude.{ℕ, ◌≡◌, ◌≢◌, ◌+◌, ◌<◌, ◌≤◌, List, [], ◌∷◌, length, Option, None, Some}
use Rattle.std.specs.List.{All}
use Rattle.mt_text_spec.specs.Registries.{Registry}
use Rattle.mt_text_spec.specs.Queries.{Query, RelationKind, Relation, Grammar}
use Rattle.mt_query_spec.specs.Valid.{ValidQuery}
use Rattle.mt_grammar_spec.specs.GrammarFile.{IsNoHeading, LacksLabel, headings_limit, grammar_queries_limit}
use Rattle.mt_grammar_spec.specs.ReadGrammar.{limited, name_by, second_by}

-- a structure that limits queries is declared
abbrev pub ValidLimit : Registry → Option ℕ → Type 0
ValidLimit registry None = Unit {0}
ValidLimit registry (Some kind) = kind < length registry.kinds

-- A query of a relation of this kind is a valid one that has the labels which the kind needs, and may be limited to a declared structure. With that filter it may be
-- greater than a valid query, so it need not be one itself.
pub record IsGrammarQuery (registry : Registry) (kind : RelationKind) (query : Query) : Type 0 where
  pub own : Query
  pub limit : Option ℕ
  pub valid : ValidQuery registry own
  pub labelled : LacksLabel kind own → ⊥
  pub declared : ValidLimit registry limit
  pub is : query ≡ limited limit own

-- a relation is valid where a good heading of its kind gives its names, and each query is one of its kind
pub record ValidRelation (registry : Registry) (relation : Relation) : Type 0 where
  pub heading : List ℕ
  pub good : IsNoHeading relation.kind heading → ⊥
  pub name : relation.name ≡ name_by relation.kind heading
  pub second : relation.second ≡ second_by relation.kind heading
  pub queries : All (IsGrammarQuery registry relation.kind) relation.queries

-- how many queries relations have
abbrev pub query_count : List Relation → ℕ
query_count [] = 0
query_count (relation ∷ relations) = length relation.queries + query_count relations

-- A grammar is valid where it has 1 to 256 relations with 1,024 queries at most, and each is valid.
pub record ValidGrammar (registry : Registry) (grammar : Grammar) : Type 0 where
  pub some : grammar.relations ≢ []
  pub few : length grammar.relations ≤ headings_limit
  pub asked : query_count grammar.relations ≤ grammar_queries_limit
  pub relations : All (ValidRelation registry) grammar.relations
