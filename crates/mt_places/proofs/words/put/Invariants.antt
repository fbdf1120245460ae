-- Words below `at` say where a mark stands.
use Rattle.std.proofs.Common.{ℕ, ◌<◌, get_or}
use Rattle.mt_places.specs.Places.{WordIs}
use Rattle.mt_places.proofs.words.put.Given as goal

abbrev pub invariant-loop-at : goal.invariant-loop-at
invariant-loop-at g l = (j : ℕ) → j < l.at → WordIs (g.M.Marks.stands l.marks) j (get_or l.set j 0)
