-- Texts of which the tables of a segment tell.
use Rattle.std.specs.Prelude.{ℕ, ◌≡◌, ◌<◌, List, [], ◌∷◌, length, slice_get, slice_index, Some}
use Rattle.std.specs.List.{All, Contains}
use Rattle.mt_text_spec.specs.Registries.{Registry}
use Rattle.mt_text_spec.specs.Texts.{Text}
use Rattle.mt_text_spec.specs.Queries.{Query, Relation, Grammar}
use Rattle.mt_match_spec.specs.Values.{Images}
use Rattle.mt_match_spec.specs.Kept.{Over}
use Rattle.mt_count_spec.specs.Counts.{IsQueryIn}
use Rattle.mt_segment_spec.specs.Tables.{Tables, AreTablesUnder}
use Rattle.mt_eval_spec.specs.Told.{IsFor}
use Rattle.mt_eval_spec.specs.Fits.{Fits}
use Rattle.mt_eval_laws.specs.Laws.{Tell}

-- The tables of a segment tell of some texts, of which this one has the number.
pub record Tells (images : Images) (registry : Registry) (tables : Tables) (number : ℕ) (text : Text) : Type 0 where
  pub corpus : List Text
  pub tell : Tell images registry corpus tables
  pub there : slice_get corpus number ≡ Some text

-- the same of several of them
pub record TellAll (images : Images) (registry : Registry) (tables : Tables) (numbers : List ℕ) (texts : List Text) : Type 0 where
  pub corpus : List Text
  pub tell : Tell images registry corpus tables
  pub count : length texts ≡ length numbers
  pub each : (k : ℕ) → k < length numbers → slice_get texts k ≡ slice_get corpus (slice_index numbers k)

-- a list has the number of one text of a segment, whose tables are made under a registry
pub record IsTextIn (registry : Registry) (tables : Tables) (number : ℕ) (listed : List ℕ) : Type 0 where
  pub under : AreTablesUnder registry tables
  pub within : number < length tables.texts
  pub alone : listed ≡ number ∷ []

-- each query of a relation can be asked of texts under a registry
abbrev pub AllFit : Registry → Relation → Type 0
AllFit registry relation = All (Fits registry) relation.queries

-- each query of a relation can be asked of a segment
abbrev pub AreFor : Tables → Relation → Type 0
AreFor tables relation = All (IsFor tables) relation.queries

-- some of these queries has too many rows on a text alone
pub record SomeIsOver (images : Images) (registry : Registry) (text : Text) (queries : List Query) : Type 0 where
  pub query : Query
  pub there : Contains queries query
  pub over : Over images registry (text ∷ []) query

-- some query of a grammar has too many rows on one of these texts alone
pub record HasNoRoom (images : Images) (registry : Registry) (grammar : Grammar) (corpus : List Text) : Type 0 where
  pub text : Text
  pub there : Contains corpus text
  pub query : Query
  pub asked : IsQueryIn grammar query
  pub over : Over images registry (text ∷ []) query
