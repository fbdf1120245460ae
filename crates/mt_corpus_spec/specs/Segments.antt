-- How segments stand for groups of texts.
use Rattle.std.specs.Prelude.{ℕ, ◌≡◌, ◌+◌, if◌then◌else◌, List, [], ◌∷◌, map}
use Rattle.std.specs.List.{AllZip}
use Rattle.mt_text_spec.specs.Registries.{Registry, ValidRegistry}
use Rattle.mt_segment_spec.specs.Tables.{Tables, AreTablesOf}
use Rattle.mt_corpus_spec.specs.Groups.{Group, all_texts}

-- the numbers of the live texts of a group, whose first text has this number
abbrev pub live_numbers : ℕ → Group → List ℕ
live_numbers first [] = []
live_numbers first (member ∷ members) = if member.1 then first ∷ live_numbers (first + 1) members else live_numbers (first + 1) members

-- Segments stand for groups under a registry and images: each segment is the tables of all texts of its group, and beside it stand the numbers of the live ones.
pub record StandFor (images : List ℕ → List ℕ → List ℕ) (registry : Registry) (groups : List Group) (segments : List Tables) (live : List (List ℕ)) : Type 0 where
  pub valid : ValidRegistry registry
  pub tables : AllZip (λ group tables. AreTablesOf images registry (all_texts group) tables) groups segments
  pub marks : live ≡ map (live_numbers 0) groups
