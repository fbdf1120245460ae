-- Scores and likenesses that are added up by numbers.
use Rattle.std.specs.Prelude.{ℕ, ◌≡◌, ◌+◌, ◌-◌, ◌*◌, ◌^◌, ◌<◌, ◌≤◌, ◌==◌, ◌&&◌, if◌then◌else◌, List, length, slice_index, filter}
use Rattle.std.specs.List.{All, AllWithin, sum_by}
use Rattle.mt_word_sketch_spec.specs.Thesaurus.{difference}
use Rattle.mt_thesaurus.specs.declared.placed.Placed.{Placed}

-- the context of a word as a word of the context
abbrev pub turned : Placed → Placed
turned p = record { group = p.member; member = p.group; score = p.score }

-- those of a group
abbrev pub of_group : ℕ → List Placed → List Placed
of_group group placed = filter (λ p. p.group == group) placed

-- the scores of lesser groups stand before this place, and no others
pub record IsStart (placed : List Placed) (group place : ℕ) : Type 0 where
  pub within : place ≤ length placed
  pub before : AllWithin (λ p. p.group < group) placed 0 place
  pub behind : AllWithin (λ p. group ≤ p.group) placed place (length placed)

-- where each of the first groups starts
abbrev pub AreStarts : (placed : List Placed) (starts : List ℕ) → Type 0
AreStarts placed starts = (group : ℕ) → group < length starts → IsStart placed group (slice_index starts group)

-- what two scores in one context make two words alike
abbrev pub like : ℕ → ℕ → ℕ
like one other = 800 * (one + other) - difference one other ^ 2

-- the scores of a group, added up
abbrev pub score_sum : List Placed → ℕ → ℕ
score_sum placed group = sum_by (λ p. if p.group == group then p.score else 0) placed

-- what a score gives to a word by some of the words in one context
abbrev pub given : (score : ℕ) (others : List Placed) (word : ℕ) → ℕ
given score others word = sum_by (λ p. if p.member == word then like score p.score else 0) others

-- what a word's contexts give to another word
abbrev pub part_of : (own by_context : List Placed) (word : ℕ) → ℕ
part_of own by_context word = sum_by (λ p. given p.score (of_group p.member by_context) word) own

-- what a word's contexts give to each word, by the words' numbers
pub record ArePartsOf (words : ℕ) (own by_context : List Placed) (parts : List ℕ) : Type 0 where
  pub count : length parts ≡ words
  pub are : (word : ℕ) → slice_index parts word ≡ part_of own by_context word
  pub few : (word : ℕ) → slice_index parts word ≤ length own * 2 ^ 51

-- what a score in a context gives to a word, by that word's scores
abbrev pub shares : (score context : ℕ) (placed : List Placed) (word : ℕ) → ℕ
shares score context placed word = sum_by (λ p. if (p.member == context) && (p.group == word) then like score p.score else 0) placed

-- how the parts of a thesaurus stand to one another: the same scores by words and by contexts, and the sum for each word
pub record AreJoined (words : List (List ℕ)) (by_word by_context : List Placed) (sums : List ℕ) : Type 0 where
  pub few : length words < 2 ^ 32
  pub below : All (λ p. p.member < length words) by_context
  pub same : (score context word : ℕ) → given score (of_group context by_context) word ≡ shares score context by_word word
  pub count : length sums ≡ length words
  pub sums_are : (word : ℕ) → word < length words → slice_index sums word ≡ score_sum by_word word
