-- The ends of the instances before `at` are in the set.
use Rattle.std.proofs.Common.{◌≡◌, length}
use Rattle.mt_places.specs.Places.{HasJust}
use Rattle.mt_prepare.specs.TagRows.{IsOfSome, EndsAt}
use Rattle.mt_prepare.proofs.tag_rows.add_ends.Given as goal

abbrev pub invariant-loop-at : goal.invariant-loop-at
invariant-loop-at l =
    record {
      width : length l.set ≡ length l.initial.set;
      places : HasJust (IsOfSome EndsAt l.instances 0 l.at) l.set;
    }
