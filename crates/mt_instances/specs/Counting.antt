-- What is counted of instances.
use Rattle.std.specs.Prelude.{ℕ, ◌≡◌, ◌+◌, Bool, List, length}
use Rattle.mt_count_spec.specs.Instances.{Instance}
use Rattle.mt_counts.specs.Totals.{total}
use Rattle.mt_counts.specs.Counted.{Counted}
use Rattle.mt_triples.specs.Tallied.{twos, ones}
use Rattle.mt_instances.specs.Numbers.{AreNumbers, AreWithin}
use Rattle.mt_instances.specs.declared.counter.Counter.{Counter}

-- each of these instances was counted once more, by the values at its places, and nothing else
pub record AddsEach (values : ℕ → List ℕ) (all : List Instance) (old new : Counted) : Type 0 where
  pub both : (test : List ℕ × List ℕ × List ℕ → Bool) → total test new.both ≡ total test old.both + twos values test all
  pub first : (test : List ℕ × List ℕ → Bool) → total test new.first ≡ total test old.first + twos values (λ key. test (key.0, key.1)) all
  pub second : (test : List ℕ × List ℕ → Bool) → total test new.second ≡ total test old.second + twos values (λ key. test (key.0, key.2)) all
  pub alone : (test : List ℕ × List ℕ → Bool) → total test new.alone ≡ total test old.alone + ones values test all

-- the numbers that the counts have for names and for values are those of the same texts
pub record AreReady (names lexicon : List (List ℕ)) (counter : Counter) : Type 0 where
  pub names_are : AreNumbers names counter.noted.names counter.names
  pub words_are : AreNumbers lexicon counter.noted.words counter.words
  pub names_within : AreWithin (length names) counter.names
