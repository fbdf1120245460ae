-- What is collected of a text of a segment.
use Rattle.std.specs.Prelude.{ℕ, ◌≡◌, ◌+◌, ◌<◌, List, [], ◌∷◌, ◌++◌, length, map, slice_index}
use Rattle.std.specs.List.{AllZip, flat_map}
use Rattle.mt_text_spec.specs.Registries.{Registry}
use Rattle.mt_text_spec.specs.Texts.{Row, Text}
use Rattle.mt_text_spec.specs.Queries.{Query, Relation, Grammar}
use Rattle.mt_match_spec.specs.Values.{Images}
use Rattle.mt_count_spec.specs.Instances.{Instance}
use Rattle.mt_segment_spec.specs.Tables.{Tables, first_place, number_at, tables_at}
use Rattle.mt_eval_spec.specs.Told.{told_tokens}
use Rattle.mt_eval_spec.specs.Fits.{Fits}
use Rattle.mt_eval_spec.specs.RowsIn.{KeptIn}
use Rattle.mt_prepare.specs.Prepared.{IsPrepared}
use Rattle.mt_prepare.specs.declared.prepared.Prepared.{Prepared}
use Rattle.mt_instances.specs.Collected.{Collected}
use Rattle.mt_instances.specs.Laws.{AreOfLines, Line}

-- a query with the relation that it stands under
abbrev pub line_of : Relation → Query → Line
line_of relation query = record { relation = relation; query = query }

-- those of a relation, in order
abbrev pub lines_of : Relation → List Line
lines_of relation = map (line_of relation) relation.queries

-- and those of a grammar
abbrev pub all_lines : Grammar → List Line
all_lines grammar = flat_map lines_of grammar.relations

-- the queries of a relation are ready for a segment
abbrev pub IsReadyRelation : Tables → Relation → List Prepared → Type 0
IsReadyRelation tables relation prepared = AllZip (IsPrepared tables) relation.queries prepared

-- and those of all relations, one relation after another
abbrev pub IsReadyGrammar : Tables → Grammar → List Prepared → Type 0
IsReadyGrammar tables grammar prepared = AllZip (IsPrepared tables) (flat_map (λ relation. relation.queries) grammar.relations) prepared

-- nothing is known yet of the next text, whose values of an attribute are those of the segment
pub record IsFresh (tables : Tables) (attr : ℕ) (collected : Collected) : Type 0 where
  pub lexicon : collected.lexicon ≡ (tables_at tables.attrs attr).lexicon
  pub numbers : collected.numbers ≡ []
  pub given : collected.given ≡ []

-- the number of the value at each place of a text of the segment is known
pub record Knows (tables : Tables) (attr number : ℕ) (collected : Collected) : Type 0 where
  pub lexicon : collected.lexicon ≡ (tables_at tables.attrs attr).lexicon
  pub count : length collected.numbers ≡ told_tokens tables number
  pub each : (place : ℕ) → place < told_tokens tables number → slice_index collected.numbers place ≡ number_at tables attr (first_place tables number + place)

-- nothing but the instances that are given has changed
pub record OnlyGives (old new : Collected) : Type 0 where
  pub lexicon : new.lexicon ≡ old.lexicon
  pub numbers : new.numbers ≡ old.numbers
  pub counted : new.counted ≡ old.counted

-- just the instances of these lines but the last one are given, and the rows of that one are known
pub record AreButOne (images : Images) (registry : Registry) (text : Text) (tables : Tables) (number : ℕ) (lines : List Line) (relation : Relation) (rows : List Row) (given : List Instance) : Type 0 where
  pub before : List Line
  pub query : Query
  pub are : lines ≡ before ++ line_of relation query ∷ []
  pub fits : Fits registry query
  pub kept : KeptIn tables (number ∷ []) query rows
  pub told : AreOfLines images registry text before given
