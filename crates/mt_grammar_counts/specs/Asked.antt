-- The patterns that a sketch grammar asks for.
use Rattle.std.specs.Prelude.{ℕ, ◌+◌, List, map}
use Rattle.std.specs.List.{flat_map}
use Rattle.mt_text_spec.specs.Registries.{Registry}
use Rattle.mt_text_spec.specs.Queries.{Relation, Grammar}
use Rattle.mt_query_spec.specs.Contents.{patterns}
use Rattle.mt_grammar_spec.specs.ValidGrammar.{ValidGrammar}
use Rattle.mt_eval_spec.specs.Asked.{query_patterns}
use Rattle.mt_prepare.specs.declared.patterns.PatternError.{PatternError}
use Rattle.mt_prepare.specs.declared.patterns.PatternError.TheVariants.{Syntax, Refused, NoMemory}

-- The patterns of a grammar in the order of its file. A refusal names one by its place among them, from 1.
abbrev pub grammar_patterns : Grammar → List (List ℕ)
grammar_patterns grammar = flat_map patterns (flat_map (λ relation. relation.queries) grammar.relations)

-- the patterns of each query of a relation, in order
abbrev pub relation_patterns : Relation → List (List (List ℕ))
relation_patterns relation = map query_patterns relation.queries

-- and those of each query of each relation, in order
abbrev pub patterns_of : Grammar → List (List (List (List ℕ)))
patterns_of grammar = map relation_patterns grammar.relations

-- a grammar is valid under some registry
pub record IsValidSomewhere (grammar : Grammar) : Type 0 where
  pub registry : Registry
  pub valid : ValidGrammar registry grammar

-- the number that an error names, or 0
abbrev pub named_number : PatternError → ℕ
named_number (Syntax k) = k
named_number (Refused k) = k
named_number NoMemory = 0

-- an error of patterns that stand behind so many others
abbrev pub error_behind : (before : ℕ) → PatternError → PatternError
error_behind before (Syntax k) = Syntax (before + k)
error_behind before (Refused k) = Refused (before + k)
error_behind before NoMemory = NoMemory
