-- Each value up to the place is below the next.
use Rattle.std.proofs.Common.{ℕ, ◌+◌, ◌<◌, [], get_or}
use Rattle.mt_store_spec.specs.Lexicons.{IsBelow}
use Rattle.mt_lexicon.proofs.lexicon.is_ascending.Given as goal

abbrev pub invariant-loop-place : goal.invariant-loop-place
invariant-loop-place l = (k : ℕ) → k + 1 < l.place → IsBelow (get_or l.values k []) (get_or l.values (k + 1) [])
