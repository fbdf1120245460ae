-- The entries so far have no label.
use Rattle.std.proofs.Common.{◌≡◌, ℕ, ◌<◌}
use Rattle.mt_match_spec.specs.Labels.{no_labels}
use Rattle.mt_shapes.specs.Tables.{entry}
use Rattle.mt_shapes.proofs.blocks.are_unlabelled.Given as goal

abbrev pub invariant-loop-entry : goal.invariant-loop-entry
invariant-loop-entry l = (i : ℕ) → i < l.entry-index → (entry l.entries i).shape.labels ≡ no_labels
