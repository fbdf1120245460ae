-- The queries of a sketch grammar, their patterns, and the rows that they have in a text.
use Rattle.std.specs.Prelude.{ℕ, List, [], ◌∷◌}
use Rattle.std.specs.List.{flat_map}
use Rattle.mt_text_spec.specs.Registries.{Registry}
use Rattle.mt_text_spec.specs.Texts.{Text}
use Rattle.mt_text_spec.specs.Queries.{Query, Relation, Grammar}
use Rattle.mt_query_spec.specs.Contents.{patterns}
use Rattle.mt_match_spec.specs.Values.{Images}
use Rattle.mt_match_spec.specs.Kept.{Over}
use Rattle.mt_count_spec.specs.Counts.{IsQueryIn}

-- the queries of some relations, from the first relation on
abbrev pub relation_queries : List Relation → List Query
relation_queries relations = flat_map (λ relation. relation.queries) relations

-- The texts of the patterns of a grammar, from its top. A refusal names one by its place among them, from 1.
abbrev pub grammar_patterns : Grammar → List (List ℕ)
grammar_patterns grammar = flat_map patterns (relation_queries grammar.relations)

-- some query of the grammar has too many rows in the text by itself
pub record HasTooManyIn (images : Images) (registry : Registry) (grammar : Grammar) (text : Text) : Type 0 where
  pub query : Query
  pub asked : IsQueryIn grammar query
  pub over : Over images registry (text ∷ []) query
