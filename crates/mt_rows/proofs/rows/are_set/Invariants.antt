-- None of the labels so far is set.
use Rattle.std.proofs.Common.{◌≡◌, take, replicate}
use Rattle.mt_text_spec.specs.Texts.{unset}
use Rattle.mt_rows.proofs.rows.are_set.Given as goal

abbrev pub invariant-loop-i : goal.invariant-loop-i
invariant-loop-i l = take l.i l.labels ≡ replicate l.i unset
