-- The tokens are counted whose value has a number of the set below `next`.
use Rattle.std.proofs.Common.{◌-◌}
use Rattle.mt_segment_spec.specs.Tables.{number_at, token_count}
use Rattle.mt_tally.specs.Counts.{CountsBelow}
use Rattle.mt_totals.proofs.Values.{IsMarkedBelow}
use Rattle.mt_totals.proofs.counts.some_count.Given as goal

abbrev pub invariant-loop-id : goal.invariant-loop-id
invariant-loop-id l = CountsBelow (token_count l.segment) (IsMarkedBelow (token_count l.segment) (λ place. number_at l.segment l.attr place) l.ids l.next) l.count

abbrev pub decreases-loop-id : goal.decreases-loop-id
decreases-loop-id l = l._most - l.next
