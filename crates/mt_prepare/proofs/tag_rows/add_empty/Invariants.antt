-- The places of the empty spans before `at` are in the set.
use Rattle.std.proofs.Common.{◌≡◌, length}
use Rattle.mt_places.specs.Places.{HasJust}
use Rattle.mt_prepare.specs.TagRows.{IsOfSome, IsEmptyAt}
use Rattle.mt_prepare.proofs.tag_rows.add_empty.Given as goal

abbrev pub invariant-loop-at : goal.invariant-loop-at
invariant-loop-at l =
    record {
      width : length l.set ≡ length l.initial.set;
      places : HasJust (IsOfSome IsEmptyAt l.spans l.from l.at) l.set;
    }
