-- Words below `at` are kept where a mark stands, the others are as at first.
use Rattle.std.proofs.Common.{ℕ, ◌≡◌, ◌<◌, ◌≤◌, get_or}
use Rattle.mt_places.specs.Places.{In, WordIs}
use Rattle.mt_places.proofs.words.keep.Given as goal

abbrev pub invariant-loop-at : goal.invariant-loop-at
invariant-loop-at g l =
    record {
      done : (j : ℕ) → j < l.at → WordIs (λ (k : ℕ). In l.initial.set k × g.M.Marks.stands l.marks k) j (get_or l.set j 0);
      rest : (j : ℕ) → l.at ≤ j → get_or l.set j 0 ≡ get_or l.initial.set j 0;
    }
