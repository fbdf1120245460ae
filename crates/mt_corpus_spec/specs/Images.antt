-- What was taken from mappers: which image each has made of which value.
use Rattle.std.specs.Prelude.{ℕ, ◌≡◌, List}
use Rattle.std.specs.List.{All}
use Rattle.mt_text_spec.specs.Registries.{Registry}
use Rattle.mt_corpus_spec.specs.Groups.{Group}

-- the image that the mapper of this name made of a value
pub record Image : Type 0 where
  pub mapper : List ℕ
  pub value : List ℕ
  pub image : List ℕ

-- each image is the one that these mappers make
abbrev pub AreImagesBy : (images : List ℕ → List ℕ → List ℕ) → List Image → Type 0
AreImagesBy images taken = All (λ each. images each.mapper each.value ≡ each.image) taken

-- A corpus as it is kept: its registry, its groups, and the images of values that its mapped attributes have.
pub record Corpus : Type 0 where
  pub registry : Registry
  pub groups : List Group
  pub taken : List Image
