-- The spans before low come before the key, those from high on do not.
use Rattle.std.proofs.Common.{ℕ, ◌-◌, ◌<◌, ◌≤◌, length, get_or}
use Rattle.mt_text_spec.specs.Texts as spec
use Rattle.mt_prepare.specs.TagRows.{IsBefore}
use Rattle.mt_prepare.proofs.tag_rows.first_from.Given as goal

abbrev pub invariant-loop-low : goal.invariant-loop-low
invariant-loop-low l =
    record {
      order : l.low ≤ l.high;
      within : l.high ≤ length l.spans;
      before : (k : ℕ) (d : spec.Span) → k < l.low → IsBefore (get_or l.spans k d) l.key;
      behind : (k : ℕ) (d : spec.Span) → l.high ≤ k → k < length l.spans → ¬ IsBefore (get_or l.spans k d) l.key;
    }

abbrev pub decreases-loop-low : goal.decreases-loop-low
decreases-loop-low l = l.high - l.low
