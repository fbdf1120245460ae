-- Texts that are kept in a corpus over which a sketch grammar is held.
use Rattle.std.specs.Prelude.{◌≡◌, [], ◌∷◌, ◌++◌}
use Rattle.mt_text_spec.specs.Texts.{Text}
use Rattle.mt_match_spec.specs.Values.{Images}
use Rattle.mt_segment_spec.specs.Tables.{Tables}
use Rattle.mt_corpus_spec.specs.Groups.{alone}
use Rattle.mt_corpus_spec.specs.Images.{Corpus, AreImagesBy}
use Rattle.mt_corpus_spec.specs.Decoded.{images_in}
use Rattle.mt_rule_spec.specs.Rules.{HasTooManyIn}
use Rattle.mt_count_spec.specs.Counts.{HasRoom}
use Rattle.mt_counts.specs.Counted.{Counted}
use Rattle.mt_triples.specs.CountsOf.{AreCountsOf}
use Rattle.mt_text_spec.specs.Queries.{Grammar}

-- the text of these tables is a group of its own behind the others, and its images are taken
pub record KeepsAlone (old : Corpus) (text : Text) (tables : Tables) (new : Corpus) : Type 0 where
  pub groups : new.groups ≡ old.groups ++ alone text ∷ []
  pub registry : new.registry ≡ old.registry
  pub taken : new.taken ≡ old.taken ++ images_in old.registry tables

-- some mappers make the images that were taken, and those that these tables have
pub record HaveImages (corpus : Corpus) (tables : Tables) : Type 0 where
  pub images : Images
  pub taken : AreImagesBy images corpus.taken
  pub more : AreImagesBy images (images_in corpus.registry tables)

-- some query of the grammar has too many rows in the text, whatever the images that agree with those taken for it
abbrev pub IsTooRich : Corpus → Grammar → Text → Tables → Type 0
IsTooRich corpus grammar text tables = (images : Images) → AreImagesBy images (images_in corpus.registry tables) → HasTooManyIn images corpus.registry grammar text

-- none has
abbrev pub IsNotTooRich : Corpus → Grammar → Text → Tables → Type 0
IsNotTooRich corpus grammar text tables = (images : Images) → AreImagesBy images (images_in corpus.registry tables) → HasTooManyIn images corpus.registry grammar text → ⊥

-- these are the counts of the text by itself, in which no query of the grammar has too many rows, whatever the images that agree with those taken for it
pub record IsCountedAlone (corpus : Corpus) (grammar : Grammar) (text : Text) (tables : Tables) (counted : Counted) : Type 0 where
  pub counts : (images : Images) → AreImagesBy images (images_in corpus.registry tables) → AreCountsOf images corpus.registry grammar (text ∷ []) counted
  pub room : (images : Images) → AreImagesBy images (images_in corpus.registry tables) → HasRoom images corpus.registry grammar (text ∷ [])
