-- The spans so far lie in the text, and they are counted.
use Rattle.std.proofs.Common.{◌≡◌, ℕ, ◌<◌, ◌-◌, ◌≤◌, List, get_or, length}
use Rattle.mt_text_spec.specs.Texts.{Span}
use Rattle.mt_segment_spec.specs.Tables.{tables_at}
use Rattle.mt_frequencies.specs.Amounts.{AreMore, values_told}
use Rattle.mt_frequencies.proofs.begins.count_by.Given as goal

abbrev pub invariant-loop-to : goal.invariant-loop-to
invariant-loop-to g l = record {
  from : l.from ≤ l.to;
  within : l.to ≤ length l.spans;
  text : (k : ℕ) (span : Span) → l.from ≤ k → k < l.to → (get_or l.spans k span).text ≡ (get_or l.spans l.from span).text;
  count : length l.counts ≡ length l.fn.counts;
  few : (number : ℕ) → number < length l.fn.counts → get_or l.counts number 0 ≤ l.to;
  counted : (near : Span → List (List ℕ)) → ((k : ℕ) (span : Span) → l.from ≤ k → k < l.to → near (get_or l.spans k span) ≡ values_told l.segment l.attr l.text l.distance (get_or l.spans k span).begin) →
      AreMore (tables_at l.segment.attrs l.attr).lexicon near l.spans l.from l.to l.fn.counts l.counts;
}

abbrev pub decreases-loop-to : goal.decreases-loop-to
decreases-loop-to g l = length l.spans - l.to
