-- The spans so far are counted.
use Rattle.std.proofs.Common.{◌≡◌, ℕ, ◌+◌, ◌-◌, length}
use Rattle.mt_frequencies.specs.Numbers.{number_in}
use Rattle.mt_frequencies.specs.Seen.{ArePast, seen_at, spans_with, window_at}
use Rattle.mt_frequencies.proofs.walk.count_each.Given as goal

abbrev pub invariant-loop-span : goal.invariant-loop-span
invariant-loop-span g l = record {
  count : length l.seen ≡ length l.fn.seen;
  past : ArePast l.span l.seen;
  each : (number : ℕ) → (seen_at l.seen number).spans ≡ (seen_at l.fn.seen number).spans + spans_with (number_in l.numbers) number (window_at l.around l.spans) l.from (l.span - l.from);
}
