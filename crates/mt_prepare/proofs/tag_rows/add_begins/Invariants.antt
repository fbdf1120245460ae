-- The begins of the spans before `at` are in the set.
use Rattle.std.proofs.Common.{◌≡◌, length}
use Rattle.mt_places.specs.Places.{HasJust}
use Rattle.mt_prepare.specs.TagRows.{IsOfSome, BeginsAt}
use Rattle.mt_prepare.proofs.tag_rows.add_begins.Given as goal

abbrev pub invariant-loop-at : goal.invariant-loop-at
invariant-loop-at l =
    record {
      width : length l.set ≡ length l.initial.set;
      places : HasJust (IsOfSome BeginsAt l.spans l.from l.at) l.set;
    }
