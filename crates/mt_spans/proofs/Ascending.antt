-- Numbers that are added in ascending order.
use Rattle.std.proofs.Common.{ℕ, ◌+◌, ◌<◌, List, [], ◌∷◌, ◌++◌, arith}
use Rattle.std.specs.List.{All, AllPairs}
use Rattle.std.proofs.lemmas.List.Elements.{All-nil, All-push, All-weaker}
use Rattle.std.proofs.lemmas.List.Quantifiers.{all_pairs_push}

-- some numbers below a count, in ascending order, all before the next one
pub record AreBefore (count next : ℕ) (numbers : List ℕ) : Type 0 where
  pub pairs : AllPairs (λ x y. x < y) numbers
  pub before : All (λ number. number < next) numbers
  pub within : All (λ number. number < count) numbers

pub none_before : (count next : ℕ) → AreBefore count next []
none_before count next = record { pairs = λ i j d l m. absurd (omega arith); before = All-nil (λ number. number < next); within = All-nil (λ number. number < count) }

pub one_left_out : (count next : ℕ) (numbers : List ℕ) → AreBefore count next numbers → AreBefore count (next + 1) numbers
one_left_out count next numbers are = record { pairs = are.pairs; before = All-weaker (λ number. number < next) (λ number. number < next + 1) (λ number l. omega (arith, l)) numbers are.before; within = are.within }

pub one_more : (count next : ℕ) (numbers : List ℕ) → AreBefore count next numbers → next < count → AreBefore count (next + 1) (numbers ++ next ∷ [])
one_more count next numbers are l = record {
  pairs = all_pairs_push (λ x y. x < y) numbers next are.pairs (λ k d m. are.before k d m);
  before = All-push (λ number. number < next + 1) numbers next (one_left_out count next numbers are).before (omega arith);
  within = All-push (λ number. number < count) numbers next are.within l;
}
