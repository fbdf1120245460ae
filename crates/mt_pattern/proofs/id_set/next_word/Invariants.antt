-- The words so far are 0.
use Rattle.std.proofs.Common.{◌≡◌, ◌<◌, ◌≤◌, ℕ, get_or}
use Rattle.mt_pattern.proofs.id_set.next_word.Given as goal

abbrev pub invariant-loop-at : goal.invariant-loop-at
invariant-loop-at l = (at : ℕ) → l.fn.place ≤ at → at < l.at → get_or l.words at 0 ≡ 0
