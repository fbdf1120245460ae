-- The lines before the rest are read.
use Rattle.std.specs.Str.Lines.{lines}
use Rattle.mt_grammar.proofs.SoFar.{HasRead}
use Rattle.mt_grammar.proofs.read_grammar.Given as goal

abbrev pub invariant-loop-line : goal.invariant-loop-line
invariant-loop-line l = HasRead l.registry (lines l.bytes) l.line-iterator l.reader
