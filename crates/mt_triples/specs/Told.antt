-- What counts tell of the words of texts.
use Rattle.std.specs.Prelude.{ℕ, ◌<◌, Bool, true, false, List, Some, None}
use Rattle.std.specs.List.{Contains}
use Rattle.std.specs.List.Sorted.{IsStrictlySortedBy}
use Rattle.std.specs.Ordering.{nat_cmp}
use Rattle.std.specs.Cmp.Lexicographic.{slice_cmp}
use Rattle.mt_text_spec.specs.Registries.{Registry}
use Rattle.mt_text_spec.specs.Texts.{Text}
use Rattle.mt_text_spec.specs.Queries.{Grammar}
use Rattle.mt_match_spec.specs.Values.{Images}
use Rattle.mt_count_spec.specs.Counts.{IsF, IsF1}
use Rattle.mt_counts.specs.declared.listing.Head.{Head}
use Rattle.mt_counts.specs.declared.pairs.Pair.{Pair}

-- how often a word stands under a name in the texts: under a unary one, or under a binary one as its first word
abbrev pub IsHeadCount : Images → Registry → Grammar → List Text → (name word : List ℕ) → (unary : Bool) → ℕ → Type 0
IsHeadCount images registry grammar corpus name word true count = IsF1 images registry grammar corpus name (Some word) count
IsHeadCount images registry grammar corpus name word false count = IsF images registry grammar corpus name (Some word) None count

-- a name under which the word stands in the texts, with how often it does
pub record IsHeadIn (images : Images) (registry : Registry) (grammar : Grammar) (corpus : List Text) (word : List ℕ) (head : Head) : Type 0 where
  pub some : 0 < head.count
  pub is : IsHeadCount images registry grammar corpus head.name word head.unary head.count

-- a word that stands in the texts under a name with a first word, with how often it does, and how often it does with any first word
pub record IsPairIn (images : Images) (registry : Registry) (grammar : Grammar) (corpus : List Text) (name word : List ℕ) (pair : Pair) : Type 0 where
  pub some : 0 < pair.both
  pub both_is : IsF images registry grammar corpus name (Some word) (Some pair.word) pair.both
  pub right_is : IsF images registry grammar corpus name None (Some pair.word) pair.right

-- the word stands in the texts as a first one
pub record StandsFirstIn (images : Images) (registry : Registry) (grammar : Grammar) (corpus : List Text) (word : List ℕ) : Type 0 where
  pub name : List ℕ
  pub count : ℕ
  pub some : 0 < count
  pub is : IsF images registry grammar corpus name (Some word) None count

-- all words that do, ascending by their bytes, each once
pub record AreFirstWordsIn (images : Images) (registry : Registry) (grammar : Grammar) (corpus : List Text) (words : List (List ℕ)) : Type 0 where
  pub ascending : IsStrictlySortedBy (slice_cmp nat_cmp) words
  pub only : (word : List ℕ) → Contains words word → StandsFirstIn images registry grammar corpus word
  pub each : (word : List ℕ) → StandsFirstIn images registry grammar corpus word → Contains words word
