-- The lines before the rest are read.
use Rattle.std.specs.Str.Lines.{lines}
use Rattle.mt_registry.proofs.RegistryLines.{HasReadLines}
use Rattle.mt_registry.proofs.lines.read_lines.Given as goal

abbrev pub invariant-loop-text : goal.invariant-loop-text
invariant-loop-text l = HasReadLines (lines l.bytes) l.reader.number l.reader.nesting l.reader.statements.items l.reader.refused l.text-iterator
