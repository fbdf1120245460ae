-- The spans so far lie in the text.
use Rattle.std.proofs.Common.{◌≡◌, ℕ, ◌<◌, ◌-◌, ◌≤◌, get_or, length}
use Rattle.mt_text_spec.specs.Texts.{Span}
use Rattle.mt_frequencies.proofs.walk.text_end.Given as goal

abbrev pub invariant-loop-to : goal.invariant-loop-to
invariant-loop-to l = record {
  from : l.from < l.to;
  within : l.to ≤ length l.spans;
  text : (k : ℕ) (span : Span) → l.from ≤ k → k < l.to → (get_or l.spans k span).text ≡ (get_or l.spans l.from span).text;
}

abbrev pub decreases-loop-to : goal.decreases-loop-to
decreases-loop-to l = length l.spans - l.to
