-- How many steps a search takes at most for a query whose head is a sequence of `==` tests, such as `[word=="a"]`, and that has neither filters nor conditions.
use Rattle.std.specs.Prelude.{ℕ, ◌≡◌, ◌+◌, List, sum, take}
use Rattle.std.specs.List.{AllZip}
use Rattle.mt_text_spec.specs.Registries.{Registry}
use Rattle.mt_text_spec.specs.Queries.{Query}
use Rattle.mt_query_spec.specs.Contents.{token_tests}
use Rattle.mt_match_spec.specs.Values.{Images}
use Rattle.mt_segment_spec.specs.Tables.{Tables, AreTablesOf}
use Rattle.mt_eval_spec.specs.Literals.{AreFew, FindEach}
use Rattle.mt_corpus_spec.specs.Groups.{Group, all_texts}

-- In a segment: those of finding the value of each test once, and then, where each test holds somewhere, one for each of the tests at each place of the rarest value.
pub record TakesIn (query : Query) (tables : Tables) (steps : ℕ) : Type 0 where
  pub find : ℕ
  pub finds : FindEach tables (token_tests query.head) find
  pub looks : ℕ
  pub few : AreFew tables query.head looks
  pub sum_is : steps ≡ find + looks

-- in a group of texts, of which the removed ones count too: those in its segment
pub record TakesOf (images : Images) (registry : Registry) (query : Query) (group : Group) (steps : ℕ) : Type 0 where
  pub tables : Tables
  pub are : AreTablesOf images registry (all_texts group) tables
  pub takes : TakesIn query tables steps

-- in a corpus: those of its groups, each once, up to the one that an error ends the search in
pub record TakesInAll (images : Images) (registry : Registry) (query : Query) (groups : List Group) (steps : ℕ) : Type 0 where
  pub upto : ℕ
  pub each : List ℕ
  pub takes : AllZip (TakesOf images registry query) (take upto groups) each
  pub sum_is : steps ≡ sum each
