-- The rarest of some tests of one value.
use Rattle.std.specs.Prelude.{ℕ, ◌≡◌, ◌<◌, ◌≤◌, List, Option, None, Some, length}
use Rattle.mt_segment_spec.specs.Tables.{Tables}
use Rattle.mt_prepare.specs.declared.resolved.Resolved.{Resolved}
use Rattle.mt_eval.specs.declared.rarest.Rare.{Rare}
use Rattle.mt_eval.specs.Sequences.{IsOne, positions_of, test_at}

-- of the tests of one value, among those before a number, this is one with the fewest positions
pub record IsRarest (tables : Tables) (tests : List Resolved) (upto number : ℕ) : Type 0 where
  pub within : number < upto
  pub is_one : IsOne (test_at tests number)
  pub fewest : (n : ℕ) → n < upto → IsOne (test_at tests n) → length (positions_of tables (test_at tests number)) ≤ length (positions_of tables (test_at tests n))

-- it is that, with the number of its positions; or there is none
abbrev pub IsBest : Tables → List Resolved → (upto : ℕ) → Option Rare → Type 0
IsBest tables tests upto None = (n : ℕ) → n < upto → ¬ IsOne (test_at tests n)
IsBest tables tests upto (Some rare) = IsRarest tables tests upto rare.number × (rare.positions ≡ length (positions_of tables (test_at tests rare.number)))
