-- So many lines are written.
use Rattle.std.proofs.Common.{◌≡◌, ◌++◌, length, map, take}
use Rattle.std.specs.List.{flat_map}
use Rattle.mt_text_spec.specs.Lines.{closed}
use Rattle.mt_report_spec.specs.Counts.{number_line}
use Rattle.mt_frequencies.proofs.lines.put_all.Given as goal

abbrev pub invariant-loop-one : goal.invariant-loop-one
invariant-loop-one g l = l.out ≡ l.fn.out ++ (closed (number_line (length l.all)) ++ flat_map closed (map g.L.Listed.line (take l.one-index l.all)))
