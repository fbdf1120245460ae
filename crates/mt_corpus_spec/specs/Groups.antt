-- The texts that are held. They stand in groups, and a text that was removed stays in its group until that is merged.
use Rattle.std.specs.Prelude.{ℕ, ◌≡◌, ◌+◌, ◌<◌, ◌≤◌, ◌⊎◌, ◌&&◌, Bool, true, not, List, [], ◌∷◌, length, map}
use Rattle.std.specs.List.{All, Any, filter, flat_map}
use Rattle.std.specs.Str.{bytes_eq}
use Rattle.mt_text_spec.specs.Registries.{Registry, AreDistinct}
use Rattle.mt_text_spec.specs.Texts.{Text, ValidText, total_tokens, corpus_texts_limit, corpus_tokens_limit}

-- A group is a run of texts, each with whether it is live. A text that is not was removed, and stays in its group until that is merged.
abbrev pub Group : Type 0
Group = List (Text × Bool)

-- the texts of a group that were not removed
abbrev pub live_texts : Group → List Text
live_texts group = map (λ member. member.0) (filter (λ member. member.1) group)

-- all texts of a group, removed ones too
abbrev pub all_texts : Group → List Text
all_texts group = map (λ member. member.0) group

-- the corpus is the live texts of all groups, in order
abbrev pub corpus_of : List Group → List Text
corpus_of groups = flat_map live_texts groups

-- all texts of the groups, removed ones too
abbrev pub kept_texts : List Group → List Text
kept_texts groups = flat_map all_texts groups

-- a text of the corpus has this name
abbrev pub HoldsName : List Group → List ℕ → Type 0
HoldsName groups name = Any (λ text. text.name ≡ name) (corpus_of groups)

-- there is no room for a text of so many tokens: removed texts take room too
abbrev pub IsFull : List Group → ℕ → Type 0
IsFull groups tokens = (corpus_texts_limit ≤ length (kept_texts groups)) ⊎ (corpus_tokens_limit < total_tokens (kept_texts groups) + tokens)

-- ## Changes

-- a text that is added is a group of its own, behind the others
abbrev pub alone : Text → Group
alone text = (text, true) ∷ []

-- a text with whether it is live once the texts of this name are removed
abbrev pub struck : List ℕ → Text × Bool → Text × Bool
struck name member = (member.0, member.1 && not (bytes_eq member.0.name name))

-- the groups once the text of this name is removed: it is not live, and all else is as it was
abbrev pub without : List ℕ → List Group → List Group
without name groups = map (λ group. map (struck name) group) groups

-- ## Valid groups

-- What is always so: each text is valid, live texts differ in their names, all texts together are few enough, and no group is empty.
pub record ValidGroups (registry : Registry) (groups : List Group) : Type 0 where
  pub texts : All (ValidText registry) (kept_texts groups)
  pub distinct : AreDistinct (map (λ text. text.name) (corpus_of groups))
  pub few : length (kept_texts groups) ≤ corpus_texts_limit
  pub short : total_tokens (kept_texts groups) ≤ corpus_tokens_limit
  pub some : All (λ group. 0 < length group) groups
