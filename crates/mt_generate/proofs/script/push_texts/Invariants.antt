-- So many lines are there.
use Rattle.std.proofs.Common.{◌≡◌, ◌++◌, map}
use Rattle.std.specs.List.{flat_map, range_with_len}
use Rattle.mt_text_spec.specs.Lines.{closed}
use Rattle.mt_generate_spec.specs.Demo.{generate_line}
use Rattle.mt_generate.proofs.script.push_texts.Given as goal

abbrev pub invariant-loop-text : goal.invariant-loop-text
invariant-loop-text l = l.out ≡ l.fn.out ++ flat_map closed (map generate_line (range_with_len 1 l.text))
