-- The text of a name, among the texts of a corpus and in its segment.
use Rattle.std.specs.Prelude.{ℕ, ◌≡◌, ◌<◌, List, [], ◌∷◌, ◌++◌, length, slice_get, Some}
use Rattle.mt_text_spec.specs.Texts.{Text, ValidCorpus}
use Rattle.mt_segment_spec.specs.Tables.{Tables, AreTablesOf, AreTablesUnder}
use Rattle.mt_corpus_spec.specs.Groups.{Group, corpus_of, without}
use Rattle.mt_corpus_spec.specs.Images.{Corpus, AreImagesBy}

-- The text of a name stands between others, which alone are left once it is removed.
pub record SplitsAt (groups : List Group) (name : List ℕ) : Type 0 where
  pub text : Text
  pub before : List Text
  pub behind : List Text
  pub named : text.name ≡ name
  pub all : corpus_of groups ≡ before ++ text ∷ [] ++ behind
  pub rest : corpus_of (without name groups) ≡ before ++ behind

-- The text of a name has this number in the segment with these tables, and no other text of the corpus has the name.
pub record IsTextAt (corpus : Corpus) (name : List ℕ) (tables : Tables) (number : ℕ) : Type 0 where
  pub texts : List Text
  pub valid : ValidCorpus corpus.registry texts
  pub under : AreTablesUnder corpus.registry tables
  pub are : (images : List ℕ → List ℕ → List ℕ) → AreImagesBy images corpus.taken → AreTablesOf images corpus.registry texts tables
  pub text : Text
  pub there : slice_get texts number ≡ Some text
  pub within : number < length tables.texts
  pub split : SplitsAt corpus.groups name
  pub only : (other : SplitsAt corpus.groups name) → other.text ≡ text
