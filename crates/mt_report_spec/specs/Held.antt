-- How spans lie in the texts for which segments stand.
use Rattle.std.specs.Prelude.{◌≡◌, ◌<◌, ◌≤◌, ℕ, List, length, slice_get, Some}
use Rattle.std.specs.List.{All}
use Rattle.mt_text_spec.specs.Registries.{Registry}
use Rattle.mt_text_spec.specs.Texts.{Text, Span}
use Rattle.mt_match_spec.specs.Values.{Images}
use Rattle.mt_segment_spec.specs.Tables.{Tables}
use Rattle.mt_corpus_spec.specs.Groups.{Group, corpus_of}
pub use Rattle.mt_corpus_spec.specs.Segments.{live_numbers, StandFor}

-- a span of at least one token lies in a text of the corpus
pub record LiesIn (corpus : List Text) (span : Span) : Type 0 where
  pub text : Text
  pub there : slice_get corpus span.text ≡ Some text
  pub some : span.begin < span.end
  pub inside : span.end ≤ length text.tokens

-- Spans lie in the corpus of some groups for which the segments stand.
pub record LieInSome (segments : List Tables) (live : List (List ℕ)) (spans : List Span) : Type 0 where
  pub images : Images
  pub registry : Registry
  pub groups : List Group
  pub stand : StandFor images registry groups segments live
  pub lie : All (LiesIn (corpus_of groups)) spans
