-- The lexicons so far are marked.
use Rattle.std.proofs.Common.{◌≡◌, map, take}
use Rattle.regex.specs.Strings.{matcher_pattern}
use Rattle.mt_pattern_spec.specs.Patterns.{finds}
use Rattle.mt_pattern.proofs.regexes.Built.mark_each.Given as goal

abbrev pub invariant-loop-lexicon : goal.invariant-loop-lexicon
invariant-loop-lexicon l = record {
  pattern : matcher_pattern l.matcher ≡ matcher_pattern l.initial.matcher;
  marked : l.sets ≡ map (λ lexicon. map (finds l.self) lexicon.now) (take l.lexicon-index l.lexicons);
}
