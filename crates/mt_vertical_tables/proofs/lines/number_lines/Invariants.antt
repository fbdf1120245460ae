-- The values of the lines so far are numbered.
use Rattle.std.proofs.Common.{◌≤◌, length}
use denote.Shadow.{shadow}
use denote.Text.{Utf8}
use Rattle.mt_text_spec.specs.Texts.{text_tokens_limit}
use Rattle.mt_vertical_tables.proofs.Values.{IsAt}
use Rattle.mt_vertical_tables.proofs.lines.number_lines.Given as goal

abbrev pub invariant-loop-rest : goal.invariant-loop-rest
invariant-loop-rest l = record {
  text : shadow (Utf8 l.rest);
  few : length l.numbering ≤ text_tokens_limit;
  so_far : IsAt l.column l.text l.rest l.numbering;
}

abbrev pub decreases-loop-rest : goal.decreases-loop-rest
decreases-loop-rest l = length l.rest
