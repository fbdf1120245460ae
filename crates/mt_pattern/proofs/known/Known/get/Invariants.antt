use Rattle.std.proofs.Common.{◌<◌}
use Rattle.mt_pattern.proofs.known.Known.get.Given as goal

abbrev pub invariant-loop : goal.invariant-loop
invariant-loop l = l.at < l.count
