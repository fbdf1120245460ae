-- What is held, with the images that were taken for it, and which mappers it is right for.
use Rattle.std.specs.Prelude.{ℕ, ◌≡◌, Bool, true, false, List, [], map, Option}
use Rattle.mt_text_spec.specs.Queries.{Grammar}
use Rattle.mt_corpus_spec.specs.Images.{Corpus, Image, AreImagesBy}
use Rattle.mt_segment.specs.Mappers.{AreThere}
use Rattle.mt_corpus.specs.Keeping.{AgreeWith, firsts, is_named}
use Rattle.mt_session_spec.specs.World.{Held, first_held}
use Rattle.mt_session_spec.specs.Settings.{Setting, images_of}

-- what is held, and the images of values that its mapped attributes have
pub record Kept : Type 0 where
  pub held : Held
  pub taken : List Image

-- a corpus that is held, a grammar where there is one, and whether a registry was accepted
abbrev pub kept : Bool → Option Grammar → Corpus → Kept
kept accepted grammar corpus = record { held = record { registry = corpus.registry; accepted = accepted; grammar = grammar; groups = corpus.groups }; taken = corpus.taken }

-- the setting in which these mappers are at hand
abbrev pub setting_of : List (List ℕ × (List ℕ → List ℕ)) → Setting
setting_of mappers = record { mappers = mappers }

-- before any command
abbrev pub first_kept : Kept
first_kept = record { held = first_held; taken = [] }

-- The mappers serve what is held in a setting: they are all that it has, until a registry is accepted, and from then on exactly those that the registry names, of
-- two with one name the first; those that the registry names are there, and make the images that those of the setting make; and so were the images made that were
-- taken.
pub record Serves (setting : Setting) (mappers : List (List ℕ × (List ℕ → List ℕ))) (state : Kept) : Type 0 where
  pub all : state.held.accepted ≡ false → mappers ≡ setting.mappers
  pub only : state.held.accepted ≡ true → mappers ≡ firsts (λ mapper. mapper.0) (is_named state.held.registry) [] setting.mappers
  pub there : AreThere (map (λ mapper. mapper.0) mappers) state.held.registry.attrs
  pub agree : AgreeWith (images_of setting) mappers state.held.registry
  pub taken : AreImagesBy (images_of setting) state.taken
