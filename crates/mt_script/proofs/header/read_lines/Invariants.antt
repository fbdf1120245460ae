-- The lines before the rest are read.
use Rattle.mt_script.proofs.BatchSteps.{HasRead}
use Rattle.mt_script.proofs.header.read_lines.Given as goal

abbrev pub invariant-loop-line : goal.invariant-loop-line
invariant-loop-line l = HasRead l.body l.line-iterator l.read
