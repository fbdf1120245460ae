-- The values before this one are written.
use Rattle.std.proofs.Common.{◌≡◌, ℕ, ◌+◌, ◌++◌, ◌∷◌}
use Rattle.mt_report_spec.specs.Lines.{shown_attr, values_text}
use Rattle.mt_reports.specs.Told.{told_value}
use Rattle.mt_reports.proofs.lines.put_values.Given as goal

abbrev pub invariant-loop-place : goal.invariant-loop-place
invariant-loop-place l = l.out ≡ l.fn.out ++ 9 ∷ values_text (λ (place : ℕ). told_value l.segment shown_attr (l.first + place)) l.from l.place
