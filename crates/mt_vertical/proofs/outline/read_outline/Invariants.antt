-- The lines so far are read.
use Rattle.std.specs.Str.Iter.{lines_steps}
use Rattle.std.specs.Str.Lines.{lines}
use Rattle.mt_vertical.proofs.Outlines.{CountsOn}
use Rattle.mt_vertical.proofs.outline.read_outline.Given as goal

abbrev pub invariant-loop-line : goal.invariant-loop-line
invariant-loop-line l = CountsOn lines_steps (λ line. line.now) l.registry (lines l.text) l.line-iterator l.number l.reader.tokens l.reader.structs
