-- What a question sees of a world.
use Rattle.std.specs.Prelude.{List, Option}
use Rattle.mt_text_spec.specs.Registries.{Registry}
use Rattle.mt_text_spec.specs.Texts.{Text}
use Rattle.mt_text_spec.specs.Queries.{Grammar}
use Rattle.mt_match_spec.specs.Values.{Images}
use Rattle.mt_corpus_spec.specs.Groups.{corpus_of}
use Rattle.mt_session_spec.specs.World.{Held}
use Rattle.mt_session_spec.specs.Settings.{Setting, images_of}

-- What a question sees: what the mappers make of values, the registry, the texts of the corpus and the grammar. It sees neither how the texts stand in groups nor
-- any that was removed, so that no answer changes by that.
pub record Scene : Type 0 where
  pub images : Images
  pub registry : Registry
  pub corpus : List Text
  pub grammar : Option Grammar

-- what is seen where this is held
abbrev pub scene_of : Setting → Held → Scene
scene_of setting held = record { images = images_of setting; registry = held.registry; corpus = corpus_of held.groups; grammar = held.grammar }
