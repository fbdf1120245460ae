-- The values before low are below the value, and those from high on above it. Each step halves what is left.
use Rattle.std.proofs.Common.{ℕ, [], ◌+◌, ◌-◌, ◌*◌, ◌^◌, ◌<◌, ◌≤◌, length, get_or}
use Rattle.mt_store_spec.specs.Lexicons.{IsBelow}
use Rattle.mt_lexicon.proofs.lexicon.Lexicon.find.Given as goal

abbrev pub invariant-loop-low : goal.invariant-loop-low
invariant-loop-low g l =
    record {
      order : l.low ≤ l.high;
      within : l.high ≤ length l.self-inside.values;
      below : (k : ℕ) → k < l.low → IsBelow (get_or l.self-inside.values k []) l.value;
      above : (k : ℕ) → l.high ≤ k → k < length l.self-inside.values → IsBelow l.value (get_or l.self-inside.values k []);
      rises : l.fn.steps ≤ l.steps;
      cost : 2 ^ (l.steps - l.fn.steps) * (l.high - l.low) ≤ length l.self-inside.values;
      total : 2 ^ (l.steps - l.fn.steps) ≤ 2 * length l.self-inside.values + 1;
    }

abbrev pub decreases-loop-low : goal.decreases-loop-low
decreases-loop-low g l = l.high - l.low
