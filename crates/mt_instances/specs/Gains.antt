-- How a list of instances grows.
use Rattle.std.specs.Prelude.{ℕ, ◌⊎◌, ◌<◌, List}
use Rattle.std.specs.List.{Contains}
use Rattle.mt_text_spec.specs.Registries.{Registry}
use Rattle.mt_text_spec.specs.Texts.{Text, Row}
use Rattle.mt_text_spec.specs.Queries.{Relation}
use Rattle.mt_match_spec.specs.Values.{Images}
use Rattle.mt_match_spec.specs.Labels.{IsSetTo}
use Rattle.mt_count_spec.specs.Instances.{Instance, AtTwo, AtOne, Gives}

-- all that was there is there still, and everything that P holds of, and nothing else
pub record Gains (old new : List Instance) (P : Instance → Type 0) : Type 0 where
  pub kept : (instance : Instance) → Contains old instance → Contains new instance
  pub each : (instance : Instance) → P instance → Contains new instance
  pub only : (instance : Instance) → Contains new instance → Contains old instance ⊎ P instance

-- some of these rows gives the instance
pub record GivenBy (images : Images) (registry : Registry) (text : Text) (relation : Relation) (rows : List Row) (instance : Instance) : Type 0 where
  pub row : Row
  pub there : Contains rows row
  pub gives : Gives images registry text relation row relation.kind instance

-- each label of the rows that is set stands at one of so many places
abbrev pub LabelsLie : List Row → (places : ℕ) → Type 0
LabelsLie rows places = (row : Row) (label place : ℕ) → Contains rows row → IsSetTo row.labels label place → place < places

-- each label of a row that is set stands at one of so many places
abbrev pub HasLabels : Row → (places : ℕ) → Type 0
HasLabels row places = (label place : ℕ) → IsSetTo row.labels label place → place < places

-- an instance stands at some of so many places
abbrev pub LiesIn : (places : ℕ) → Instance → Type 0
LiesIn places (AtTwo name p q) = (p < places) × (q < places)
LiesIn places (AtOne name p) = p < places
