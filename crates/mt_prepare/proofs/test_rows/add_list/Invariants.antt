-- The places that were passed are in the row, the others are left.
use Rattle.std.proofs.Common.{◌≡◌, ℕ, ◌≤◌, ◌⊎◌, length}
use Rattle.std.specs.List.{Contains}
use Rattle.mt_places.specs.Places.{In}
use Rattle.mt_prepare.proofs.test_rows.add_list.Given as goal

abbrev pub invariant-loop-place : goal.invariant-loop-place
invariant-loop-place g l =
    record {
      width : length l.row ≡ length l.initial.row;
      sound : (place : ℕ) → In l.row place → In l.initial.row place ⊎ Contains l.list place;
      kept : (place : ℕ) → In l.initial.row place → In l.row place;
      rest : (place : ℕ) → Contains l.left place → Contains l.list place;
      done : (place : ℕ) → Contains l.list place → In l.row place ⊎ Contains l.left place;
      rises : l.initial.steps ≤ l.steps;
    }

abbrev pub decreases-loop-place : goal.decreases-loop-place
decreases-loop-place g l = length l.left
