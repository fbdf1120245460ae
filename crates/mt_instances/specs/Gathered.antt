-- What is known of a text: the values at its places, and its instances.
use Rattle.std.specs.Prelude.{ℕ, ◌≡◌, ◌<◌, List, length, slice_get, slice_index, Some}
use Rattle.std.specs.List.{All}
use Rattle.mt_text_spec.specs.Registries.{Registry}
use Rattle.mt_text_spec.specs.Texts.{Text}
use Rattle.mt_text_spec.specs.Queries.{Relation, Dual}
use Rattle.mt_match_spec.specs.Values.{Images, value_at}
use Rattle.mt_grammar.specs.Seen.{kind_seen}
use Rattle.mt_counts.specs.Tables.{text_at}
use Rattle.mt_instances.specs.Gains.{LiesIn}
use Rattle.mt_instances.specs.Filled.{AreFills}
use Rattle.mt_instances.specs.declared.gathering.Heading.{Heading}
use Rattle.mt_instances.specs.declared.gathering.Gathered.{Gathered}

-- each place has the number of a value, each instance stands at such places, and what is known of filled names is so
pub record AreGathered (lexicon : List (List ℕ)) (numbers : List ℕ) (gathered : Gathered) : Type 0 where
  pub valued : All (λ number. number < length lexicon) numbers
  pub lie : All (LiesIn (length numbers)) gathered.instances.given
  pub fills_are : AreFills gathered.instances.names lexicon gathered.fills

-- the value at a place
abbrev pub value_in : (lexicon : List (List ℕ)) (numbers : List ℕ) → ℕ → List ℕ
value_in lexicon numbers place = text_at lexicon (slice_index numbers place)

-- the text has these values of the attribute that sketches count
abbrev pub IsText : Images → Registry → Text → (lexicon : List (List ℕ)) (numbers : List ℕ) → Type 0
IsText images registry text lexicon numbers = (place : ℕ) → place < length numbers → value_at images registry text registry.ws_attr place ≡ value_in lexicon numbers place

-- a relation has these numbers for its names
pub record IsHeading (names : List (List ℕ)) (relation : Relation) (heading : Heading) : Type 0 where
  pub kind : kind_seen heading.kind ≡ relation.kind
  pub name : slice_get names heading.name ≡ Some relation.name
  pub second_within : heading.second < length names
  pub second : relation.kind ≡ Dual → slice_get names heading.second ≡ Some relation.second
