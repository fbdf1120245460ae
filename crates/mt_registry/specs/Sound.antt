-- Statements of a registry that have no cause.
use Rattle.std.specs.Prelude.{ℕ, ◌≡◌, ◌≤◌, true, List, length}
use Rattle.std.specs.List.{All, Contains}
use Rattle.mt_text_spec.specs.Words.{IsIdentifier}
use Rattle.mt_file_spec.specs.RegistryFile.{Statement, Dynamic, is_declaring, attributes_of}

-- what a statement declares is an identifier
abbrev pub IsNamed : Statement → Type 0
IsNamed statement = is_declaring statement.keyword ≡ true → IsIdentifier statement.value

-- the mapper that a statement names is at hand
abbrev pub IsKnown : List (List ℕ) → Statement → Type 0
IsKnown mappers statement = statement.keyword ≡ Dynamic → Contains mappers statement.value

pub record IsSound (mappers : List (List ℕ)) (statements : List Statement) : Type 0 where
  pub named : All IsNamed statements
  pub known : All (IsKnown mappers) statements
  pub few : length (attributes_of statements) ≤ 16
