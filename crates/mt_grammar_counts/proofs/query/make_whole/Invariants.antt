-- The rooms so far are whole.
use Rattle.std.proofs.Common.{◌≡◌, ◌-◌, ◌≤◌, length, replicate}
use Rattle.mt_match_spec.specs.Kept.{operand_rows_limit}
use Rattle.mt_grammar_counts.proofs.query.make_whole.Given as goal

abbrev pub invariant-fill : goal.invariant-fill
invariant-fill l = record { few : length l.rooms ≤ l.count; whole : l.rooms ≡ replicate (length l.rooms) operand_rows_limit }

abbrev pub decreases-fill : goal.decreases-fill
decreases-fill l = l.count - length l.rooms
