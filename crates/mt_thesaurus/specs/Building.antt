-- How scores are found in counts.
use Rattle.std.specs.Prelude.{ℕ, ◌≡◌, ◌+◌, ◌*◌, ◌^◌, ◌<◌, ◌≤◌, pos, List, slice_get, Some}
use Rattle.std.specs.List.{Contains}
use Rattle.mt_count_spec.specs.Counts.{EachOnce}
use Rattle.mt_sketch_spec.specs.Score.{IsScore}
use Rattle.mt_counts.specs.declared.numbered.Entry.{Entry}
use Rattle.mt_thesaurus.specs.declared.placed.Placed.{Placed}

-- an entry has this score, which is above 0
pub record HasNumber (entry : Entry) (score : ℕ) : Type 0 where
  pub some : 0 < entry.both
  pub scored : IsScore (2 * entry.both) (entry.left + entry.right) (pos score)
  pub positive : 0 < score

-- the entry's word in its context, with the score
pub record IsOfEntry (entry : Entry) (placed : Placed) : Type 0 where
  pub word : placed.group ≡ entry.word
  pub context : placed.member ≡ entry.context
  pub score : HasNumber entry placed.score
  pub small : placed.score < 2 ^ 8

-- both words stand together no more often than each does by itself
pub record IsWithin (entry : Entry) : Type 0 where
  pub left : entry.both ≤ entry.left
  pub right : entry.both ≤ entry.right

-- no two entries that count are of one word and one context
abbrev pub AreApart : List Entry → Type 0
AreApart entries = (i j : ℕ) (one other : Entry) → slice_get entries i ≡ Some one → slice_get entries j ≡ Some other → one.word ≡ other.word → one.context ≡ other.context →
    0 < one.right → 0 < other.right → i ≡ j

-- the scored one comes from an entry before this place
pub record IsFrom (entries : List Entry) (n : ℕ) (placed : Placed) : Type 0 where
  pub place : ℕ
  pub before : place < n
  pub entry : Entry
  pub there : slice_get entries place ≡ Some entry
  pub is : IsOfEntry entry placed

-- an entry has its score among these
pub record IsAmong (placed : List Placed) (entry : Entry) (score : ℕ) : Type 0 where
  pub item : Placed
  pub there : Contains placed item
  pub word : item.group ≡ entry.word
  pub context : item.member ≡ entry.context
  pub score_is : item.score ≡ score

-- the scores of the entries before this place, each once
pub record AreScored (entries : List Entry) (n : ℕ) (placed : List Placed) : Type 0 where
  pub only : (p : Placed) → Contains placed p → IsFrom entries n p
  pub each : (place : ℕ) (entry : Entry) (score : ℕ) → place < n → slice_get entries place ≡ Some entry → HasNumber entry score → IsAmong placed entry score
  pub once : EachOnce placed
  pub one : (p q : Placed) → Contains placed p → Contains placed q → p.group ≡ q.group → p.member ≡ q.member → p ≡ q
