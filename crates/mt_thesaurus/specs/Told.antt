-- What the scores tell of a lemma, and how the reply is written.
use Rattle.std.specs.Prelude.{ℕ, ◌≡◌, ◌+◌, ◌-◌, ◌*◌, ◌^◌, ◌<◌, List, map, slice_index}
use Rattle.std.specs.List.{Contains, flat_map}
use Rattle.mt_text_spec.specs.Lines.{closed}
use Rattle.mt_text_spec.specs.Registries.{Registry}
use Rattle.mt_text_spec.specs.Texts.{Text}
use Rattle.mt_text_spec.specs.Queries.{Grammar}
use Rattle.mt_match_spec.specs.Values.{Images}
use Rattle.mt_count_spec.specs.Counts.{EachOnce}
use Rattle.mt_counts.specs.Tables.{text_at}
use Rattle.mt_word_sketch_spec.specs.Frequencies.{Frequencies}
use Rattle.mt_word_sketch_spec.specs.Ranks.{Ranked, FirstRanked}
use Rattle.mt_word_sketch_spec.specs.Order.{Weighed, ranked_of}
use Rattle.mt_word_sketch_spec.specs.Thesaurus.{IsAlike, Thesaurus}
use Rattle.mt_thesaurus.specs.declared.alike.Similar.{Similar}

-- the numbers of the words that share something with the lemma, each once
pub record AreOthers (parts : List ℕ) (lemma n : ℕ) (numbers : List ℕ) : Type 0 where
  pub once : EachOnce numbers
  pub below : (word : ℕ) → Contains numbers word → word < n
  pub other : (word : ℕ) → Contains numbers word → word ≡ lemma → ⊥
  pub some : (word : ℕ) → Contains numbers word → 0 < slice_index parts word
  pub each : (word : ℕ) → word < n → (word ≡ lemma → ⊥) → 0 < slice_index parts word → Contains numbers word

-- a word by its number, with its fraction
abbrev pub similar_at : (parts sums : List ℕ) (lemma word : ℕ) → Similar
similar_at parts sums lemma word = record { word = word; part = slice_index parts word; whole = 800 * (slice_index sums lemma + slice_index sums word) }

-- a word as it is ranked
abbrev pub weighed_of : (words : List (List ℕ)) → Similar → Weighed
weighed_of words similar = record { word = text_at words similar.word; part = similar.part; less_one = similar.whole - 1 }

-- the words of these numbers, as they are ranked
abbrev pub weighed_all : (words : List (List ℕ)) (parts sums : List ℕ) (lemma : ℕ) (numbers : List ℕ) → List Weighed
weighed_all words parts sums lemma numbers = map (weighed_of words) (map (similar_at parts sums lemma) numbers)

-- its part is a sum that fits
abbrev pub IsSmall : Weighed → Type 0
IsSmall word = word.part < 2 ^ 118

-- all words that are like the lemma, in any order
pub record AreAlike (f : Frequencies) (lemma : List ℕ) (words : List Weighed) : Type 0 where
  pub only : (word : Weighed) → Contains words word → IsAlike f lemma (ranked_of word)
  pub each : (one : Ranked) → IsAlike f lemma one → Contains (map ranked_of words) one

-- the first so many of the words that are like the lemma
pub record AreFirstAlike (f : Frequencies) (lemma : List ℕ) (max : ℕ) (shown : List Weighed) : Type 0 where
  pub words : List Weighed
  pub are : AreAlike f lemma words
  pub first : FirstRanked ranked_of (Contains words) max shown

-- the bytes are the lines of the thesaurus
pub record IsThesaurusReply (images : Images) (registry : Registry) (grammar : Grammar) (corpus : List Text) (lemma : List ℕ) (max : ℕ) (bytes : List ℕ) : Type 0 where
  pub lines : List (List ℕ)
  pub are : Thesaurus images registry grammar corpus lemma max lines
  pub bytes_are : bytes ≡ flat_map closed lines
