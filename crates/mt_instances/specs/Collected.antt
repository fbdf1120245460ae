-- What is known of a text and counted of the texts before.
use Rattle.std.specs.Prelude.{ℕ, ◌≡◌, List, ◌<◌, length}
use Rattle.mt_count_spec.specs.Instances.{Instance}
use Rattle.mt_count_spec.specs.Counts.{EachOnce}
use Rattle.mt_counts.specs.Counted.{Counted}
use Rattle.mt_instances.specs.Members.{HaveSameItems}
use Rattle.mt_instances.specs.Gathered.{AreGathered, value_in}
use Rattle.mt_instances.specs.Counting.{AddsEach, AreReady}
use Rattle.mt_instances.specs.declared.gathering.Gathered.{Gathered}
use Rattle.mt_instances.specs.declared.counter.Counter.{Counter}

-- the values of a lexicon, the number of the value at each place of the text, the instances that its rows have given so far, and what is counted of the texts before
pub record Collected : Type 0 where
  pub lexicon : List (List ℕ)
  pub numbers : List ℕ
  pub given : List Instance
  pub counted : Counted

-- Each of the instances that are given was counted once, however often it is given, by the values at its places.
pub record CountsEach (lexicon : List (List ℕ)) (numbers : List ℕ) (given : List Instance) (old new : Counted) : Type 0 where
  pub all : List Instance
  pub once : EachOnce all
  pub same : HaveSameItems given all
  pub adds : (values : ℕ → List ℕ) → ((place : ℕ) → place < length numbers → values place ≡ value_in lexicon numbers place) → AddsEach values all old new

-- what is known of the text is so, and so are the numbers that the counts have
pub record AreCollected (lexicon : List (List ℕ)) (numbers : List ℕ) (gathered : Gathered) (counter : Counter) : Type 0 where
  pub gathered_is : AreGathered lexicon numbers gathered
  pub ready : AreReady gathered.instances.names lexicon counter
