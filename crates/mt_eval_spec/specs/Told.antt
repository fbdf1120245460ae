-- What the tables of a segment tell a query of its texts.
use Rattle.std.specs.Prelude.{ℕ, ◌≡◌, ◌+◌, List, [], slice_index_or}
use Rattle.std.specs.List.{Contains}
use Rattle.mt_text_spec.specs.Registries.{Registry}
use Rattle.mt_text_spec.specs.Texts.{StructSpan}
use Rattle.mt_text_spec.specs.Queries.{Test, Query}
use Rattle.mt_match_spec.specs.Tests.{Holds}
use Rattle.mt_match_spec.specs.Matches.{Sight}
use Rattle.mt_segment_spec.specs.Tables.{Tables, AreTablesUnder, first_place, number_at, tables_at}
use Rattle.mt_eval_spec.specs.Fits.{Fits}

-- the value of an attribute at a place of the segment: the one of the number that stands there
abbrev pub told_value : Tables → (attr place : ℕ) → List ℕ
told_value tables attr place = slice_index_or (tables_at tables.attrs attr).lexicon (number_at tables attr place) []

-- how many tokens the text with this number has
abbrev pub told_tokens : Tables → (text : ℕ) → ℕ
told_tokens tables text = (slice_index_or tables.texts text ([], 0)).1

-- the instances of a kind in a text
abbrev pub told_spans : Tables → (kind text : ℕ) → List StructSpan
told_spans tables kind text = slice_index_or (slice_index_or tables.structs kind []) text []

-- a test holds of the token at a place of the segment
abbrev pub HoldsAt : Tables → Test → (place : ℕ) → Type 0
HoldsAt tables test place = Holds test (λ attr. told_value tables attr place)

-- an instance's own values meet the test
abbrev pub HoldsOf : Test → StructSpan → Type 0
HoldsOf test span = Holds test (λ attr. slice_index_or span.values attr [])

-- some instance of this kind in the text lies there and meets the test
pub record IsToldInstance (tables : Tables) (text kind : ℕ) (test : Test) (begin end : ℕ) : Type 0 where
  pub span : StructSpan
  pub there : Contains (told_spans tables kind text) span
  pub begins : span.begin ≡ begin
  pub ends : span.end ≡ end
  pub holds : HoldsOf test span

-- what a query sees of the text with this number
abbrev pub told : Tables → (text : ℕ) → Sight
told tables text = record {
  tokens = told_tokens tables text;
  holds = λ test place. HoldsAt tables test (first_place tables text + place);
  lies = IsToldInstance tables text;
}

-- The query fits the registry that the tables are made under.
pub record IsFor (tables : Tables) (query : Query) : Type 0 where
  pub registry : Registry
  pub under : AreTablesUnder registry tables
  pub fits : Fits registry query
