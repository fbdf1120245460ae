use Rattle.std.proofs.Common.{◌≡◌, ◌<◌, length}
use Rattle.mt_pattern.proofs.known.put.Given as goal

abbrev pub invariant-loop : goal.invariant-loop
invariant-loop l = (length l.places ≡ l.count) × (l.at < l.count)
