-- What a corpus keeps of its groups.
use Rattle.std.specs.Prelude.{ℕ, ◌≡◌, ◌<◌, true, List, [], ◌∷◌, length, slice_get, Option, Some}
use Rattle.std.specs.List.{All, AllPairs, AllZip}
use Rattle.mt_text_spec.specs.Registries.{Registry, ValidRegistry}
use Rattle.mt_text_spec.specs.Texts.{Text, total_tokens}
use Rattle.mt_segment_spec.specs.Tables.{Tables, AreTablesOf, AreTablesUnder}
use Rattle.mt_corpus_spec.specs.Groups.{Group, ValidGroups, kept_texts}
use Rattle.mt_corpus_spec.specs.Decoded.{groups_in}

-- the numbers of the live texts of a segment ascend
pub record AreLive (tables : Tables) (live : List ℕ) : Type 0 where
  pub ascending : AllPairs (λ number later. number < later) live
  pub within : All (λ number. number < length tables.texts) live

-- a live text of the groups, by the number of its group and its number in it
pub record IsLiveAt (groups : List Group) (place : ℕ × ℕ) (text : Text) : Type 0 where
  pub group : Group
  pub there : slice_get groups place.0 ≡ Some group
  pub live : slice_get group place.1 ≡ Some (text, true)

-- the place of the live text of a name
pub record IsNamedAt (groups : List Group) (place : ℕ × ℕ) (name : List ℕ) : Type 0 where
  pub text : Text
  pub live : IsLiveAt groups place text
  pub named : text.name ≡ name

-- A table tells for each name where the live text of this name stands.
pub record TellPlaces (groups : List Group) (places : List ℕ → Option (ℕ × ℕ)) : Type 0 where
  pub known : (place : ℕ × ℕ) (text : Text) → IsLiveAt groups place text → places text.name ≡ Some place
  pub only : (name : List ℕ) (place : ℕ × ℕ) → places name ≡ Some place → IsNamedAt groups place name

-- What a corpus keeps: segments, the numbers of the live texts of each, where a name stands, and the numbers of all texts and of their tokens.
pub record IsHeld (registry : Registry) (segments : List Tables) (live : List (List ℕ)) (places : List ℕ → Option (ℕ × ℕ)) (texts tokens : ℕ) : Type 0 where
  pub valid : ValidRegistry registry
  pub tables : All (AreTablesUnder registry) segments
  pub numbers : AllZip AreLive segments live
  pub groups : ValidGroups registry (groups_in registry segments live)
  pub named : TellPlaces (groups_in registry segments live) places
  pub counted : texts ≡ length (kept_texts (groups_in registry segments live))
  pub summed : tokens ≡ total_tokens (kept_texts (groups_in registry segments live))

-- the tables of one text, by some images
pub record IsMadeOf (registry : Registry) (text : Text) (tables : Tables) : Type 0 where
  pub images : List ℕ → List ℕ → List ℕ
  pub are : AreTablesOf images registry (text ∷ []) tables
