-- The numbers below `id` are done.
use Rattle.std.proofs.Common.{◌≡◌, ℕ, ◌<◌, length, slice_get, Some, true}
use Rattle.mt_places.specs.Places.{HasJust}
use Rattle.mt_prepare.proofs.test_rows.mark_some.Given as goal

abbrev pub invariant-loop-id : goal.invariant-loop-id
invariant-loop-id l =
    record {
      width : length l.numbers ≡ length l.initial.numbers;
      numbers : HasJust (λ (number : ℕ). (number < l.id) × (slice_get l.ids number ≡ Some true)) l.numbers;
    }
