-- The numbers below `base` are done.
use Rattle.std.proofs.Common.{ℕ, get_or}
use Rattle.mt_places.specs.Places.{In}
use Rattle.mt_prepare.proofs.Sets.{SaysBelow}
use Rattle.mt_prepare.proofs.test_rows.sought_bases.Given as goal

abbrev pub invariant-loop-base : goal.invariant-loop-base
invariant-loop-base l = SaysBelow (λ (base : ℕ). In l.numbers (get_or l.table base 0)) l.count l.base l.sought.items
