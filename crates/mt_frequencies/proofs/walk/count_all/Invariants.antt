-- The spans so far are counted.
use Rattle.std.proofs.Common.{◌≡◌, ℕ, ◌+◌, ◌-◌, ◌≤◌, length}
use Rattle.mt_frequencies.specs.Numbers.{number_in}
use Rattle.mt_frequencies.specs.Seen.{ArePast, seen_at, spans_with, window_at}
use Rattle.mt_frequencies.proofs.walk.count_all.Given as goal

abbrev pub invariant-loop-next : goal.invariant-loop-next
invariant-loop-next g l = record {
  from : l.from ≤ l.next;
  to : l.next ≤ l.to;
  count : length l.seen ≡ length l.fn.seen;
  past : ArePast l.next l.seen;
  each : (number : ℕ) → (seen_at l.seen number).spans ≡ (seen_at l.fn.seen number).spans + spans_with (number_in l.numbers) number (window_at l.around l.spans) l.from (l.next - l.from);
}

abbrev pub decreases-loop-next : goal.decreases-loop-next
decreases-loop-next g l = l.to - l.next
