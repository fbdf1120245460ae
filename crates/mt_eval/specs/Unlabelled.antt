-- Sequences that set no label.
use Rattle.std.specs.Prelude.{ℕ, ◌≡◌}
use Rattle.mt_text_spec.specs.Queries as q
use Rattle.mt_match_spec.specs.Labels.{no_labels}
use Rattle.mt_eval.specs.Sequences.{labels_from}

-- a sequence sets no label, wherever it begins
abbrev pub SetsNone : q.Expr → Type 0
SetsNone expr = (begin : ℕ) → labels_from expr begin ≡ no_labels
