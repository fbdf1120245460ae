-- The values of the instances so far are added.
use Rattle.std.proofs.Common.{take}
use Rattle.mt_prepare.specs.Judges.{AddsValues}
use Rattle.mt_prepare.proofs.judges.Values.add_all.Given as goal

abbrev pub invariant-loop-span : goal.invariant-loop-span
invariant-loop-span l = AddsValues l.attr (take l.span-index l.spans) l.initial.self l.self
