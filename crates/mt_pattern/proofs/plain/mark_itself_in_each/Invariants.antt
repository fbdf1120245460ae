-- The lexicons so far are marked.
use Rattle.std.proofs.Common.{take}
use Rattle.std.specs.List.{AllZip}
use Rattle.mt_pattern_spec.specs.Patterns.{MarksAccepted}
use Rattle.mt_pattern.proofs.plain.mark_itself_in_each.Given as goal

abbrev pub invariant-loop-lexicon : goal.invariant-loop-lexicon
invariant-loop-lexicon l = AllZip (λ lexicon marks. MarksAccepted l.text lexicon.now marks) (take l.lexicon-index l.lexicons) l.sets
