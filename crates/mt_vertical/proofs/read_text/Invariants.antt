use Rattle.mt_file_spec.specs.Vertical.{text_lines}
use Rattle.mt_vertical.proofs.SoFar.{HasRead}
use Rattle.mt_vertical.proofs.read_text.Given as goal

abbrev pub invariant-loop-line : goal.invariant-loop-line
invariant-loop-line l = HasRead l.registry (text_lines l.bytes) l.line-iterator l.number l.reader
