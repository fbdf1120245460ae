-- The words below `at` are done.
use Rattle.std.proofs.Common.{◌≡◌, ℕ, ◌<◌, ◌≤◌, length, get_or}
use Rattle.mt_places.specs.Places.{WordIs}
use Rattle.mt_prepare.specs.TestRows.{IsSoughtAt}
use Rattle.mt_prepare.proofs.column_rows.words_of.Given as goal

abbrev pub invariant-loop-at : goal.invariant-loop-at
invariant-loop-at g l =
    record {
      count : length l.words.items ≡ l.at;
      done : (j : ℕ) → j < l.at → WordIs (λ (place : ℕ). (place < l.tokens) × IsSoughtAt l.column l.sought place) j (get_or l.words.items j 0);
      rises : l.initial.steps ≤ l.steps;
    }
