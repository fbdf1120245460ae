-- The scores of words in their contexts, by numbers of words and contexts.
use Rattle.std.specs.Prelude.{ℕ, ◌≡◌, ◌^◌, ◌<◌, List, slice_get, Some}
use Rattle.std.specs.List.{Contains}
use Rattle.mt_count_spec.specs.Counts.{EachOnce}
use Rattle.mt_counts.specs.Names.{AreDistinct}
use Rattle.mt_word_sketch_spec.specs.Frequencies.{Frequencies}
use Rattle.mt_word_sketch_spec.specs.Thesaurus.{Context, HasScore}
use Rattle.mt_thesaurus.specs.declared.placed.Placed.{Placed}

-- Words by their numbers, and what has a score: a word, whose number is the group, in a context, whose number is the member.
pub record Scores : Type 0 where
  pub words : List (List ℕ)
  pub placed : List Placed

-- this is a word in a context, with its score
pub record IsPlaced (f : Frequencies) (words : List (List ℕ)) (contexts : List (List ℕ × List ℕ)) (placed : Placed) : Type 0 where
  pub word : List ℕ
  pub context : Context
  pub word_is : slice_get words placed.group ≡ Some word
  pub context_is : slice_get contexts placed.member ≡ Some (context.name, context.second)
  pub has : HasScore f word context placed.score
  pub small : placed.score < 2 ^ 8

-- a word's score in a context is there
pub record HasPlaced (scores : Scores) (contexts : List (List ℕ × List ℕ)) (word : List ℕ) (context : Context) (score : ℕ) : Type 0 where
  pub placed : Placed
  pub there : Contains scores.placed placed
  pub word_is : slice_get scores.words placed.group ≡ Some word
  pub context_is : slice_get contexts placed.member ≡ Some (context.name, context.second)
  pub score_is : placed.score ≡ score

-- All scores of all words in all contexts, each once, where no word and no context has two numbers.
pub record AreScoresOf (f : Frequencies) (scores : Scores) : Type 0 where
  pub contexts : List (List ℕ × List ℕ)
  pub words_once : AreDistinct scores.words
  pub contexts_once : (context : List ℕ × List ℕ) (i j : ℕ) → slice_get contexts i ≡ Some context → slice_get contexts j ≡ Some context → i ≡ j
  pub once : EachOnce scores.placed
  pub one : (p q : Placed) → Contains scores.placed p → Contains scores.placed q → p.group ≡ q.group → p.member ≡ q.member → p ≡ q
  pub only : (p : Placed) → Contains scores.placed p → IsPlaced f scores.words contexts p
  pub each : (word : List ℕ) (context : Context) (score : ℕ) → HasScore f word context score → HasPlaced scores contexts word context score
