-- The values before the number are marked.
use Rattle.std.proofs.Common.{◌≡◌, length}
use Rattle.regex.specs.Patterns.{default_config}
use Rattle.regex.specs.Strings.{matcher_pattern, regex_source, regex_config, regex_pattern, IsReadFromSource}
use Rattle.regex.specs.declared.string.regex.Regex.{Regex}
use Rattle.mt_pattern_spec.specs.Patterns.{finds}
use Rattle.mt_pattern.proofs.Marked.{Marked}
use Rattle.mt_pattern.proofs.regexes.mark_values.Given as goal

abbrev pub invariant-loop-id : goal.invariant-loop-id
invariant-loop-id l = record {
  size : length l.marks ≡ length l.lexicon;
  pattern : matcher_pattern l.matcher ≡ matcher_pattern l.initial.matcher;
  marked : (built : Regex) → regex_config built ≡ default_config → IsReadFromSource built → matcher_pattern l.initial.matcher ≡ regex_pattern built → Marked (finds (regex_source built)) l.lexicon l.id l.marks;
}
