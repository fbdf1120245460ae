-- Laws of what the tables of segments are decoded to.
use Rattle.std.specs.Prelude.{ℕ, ◌≡◌, ◌<◌, List, length, slice_get, slice_index}
use Rattle.std.specs.List.{All, AllPairs}
use Rattle.mt_text_spec.specs.Registries.{Registry, ValidRegistry}
use Rattle.mt_text_spec.specs.Texts.{Text, ValidText}
use Rattle.mt_segment_spec.specs.Tables.{Tables, AreTablesOf}
use Rattle.mt_corpus_spec.specs.Groups.{Group, all_texts, live_texts}
use Rattle.mt_corpus_spec.specs.Images.{AreImagesBy}
use Rattle.mt_corpus_spec.specs.Segments.{live_numbers}
use Rattle.mt_corpus_spec.specs.Decoded.{texts_in, images_in, marked}

-- the tables of valid texts are decoded to these texts, whatever the images are
abbrev pub TextsAreDecoded : Type 0
TextsAreDecoded = (images : List ℕ → List ℕ → List ℕ) (registry : Registry) (corpus : List Text) (tables : Tables) →
    All (ValidText registry) corpus → AreTablesOf images registry corpus tables → texts_in registry tables ≡ corpus

-- The images that tables are decoded to are the ones by which they were made, and other images that agree with these give the same tables.
pub record MadeBy (images : List ℕ → List ℕ → List ℕ) (registry : Registry) (corpus : List Text) (tables : Tables) : Type 0 where
  pub own : AreImagesBy images (images_in registry tables)
  pub others : (more : List ℕ → List ℕ → List ℕ) → AreImagesBy more (images_in registry tables) → AreTablesOf more registry corpus tables

-- the images that tables have are those by which they are made, and other images that agree with them make the same tables
abbrev pub ImagesAreDecoded : Type 0
ImagesAreDecoded = (images : List ℕ → List ℕ → List ℕ) (registry : Registry) (corpus : List Text) (tables : Tables) →
    ValidRegistry registry → AreTablesOf images registry corpus tables → MadeBy images registry corpus tables

-- a group of texts, of which those with these numbers are live
pub record IsMarked (texts : List Text) (live : List ℕ) : Type 0 where
  pub texts_are : all_texts (marked 0 texts live) ≡ texts
  pub live_are : live_numbers 0 (marked 0 texts live) ≡ live

-- the numbers of the live texts of a group say which of its texts are live
abbrev pub NumbersAreLive : Type 0
NumbersAreLive = (texts : List Text) (live : List ℕ) → AllPairs (λ number later. number < later) live → All (λ number. number < length texts) live → IsMarked texts live

-- The live texts of a group are those of its texts that have the live numbers.
pub record AreNumbered (group : Group) : Type 0 where
  pub count : length (live_texts group) ≡ length (live_numbers 0 group)
  pub each : (k : ℕ) → k < length (live_numbers 0 group) → slice_get (live_texts group) k ≡ slice_get (all_texts group) (slice_index (live_numbers 0 group) k)

-- the live texts of a group are those with these numbers, in order
abbrev pub LiveTextsAreNumbered : Type 0
LiveTextsAreNumbered = (group : Group) → AreNumbered group
