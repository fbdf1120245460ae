-- What a search by `regex` tells.
use Rattle.std.specs.Prelude.{ℕ, ◌≡◌, List, Bool, map}
use Rattle.regex.specs.Patterns.{Re, default_config}
use Rattle.regex.specs.Strings.{regex_source, regex_config, regex_pattern, IsReadFromSource}
use Rattle.regex.specs.declared.string.regex.Regex.{Regex}
use Rattle.mt_pattern_spec.specs.Patterns.{finds}

-- of each text that `regex` has built into this expression, whether it has a match in the value
abbrev pub Tells : Re → List ℕ → Bool → Type 0
Tells expression value found = (built : Regex) → regex_config built ≡ default_config → IsReadFromSource built → expression ≡ regex_pattern built → found ≡ finds (regex_source built) value

-- of each text that `regex` has built into this expression, which of the values it has a match in
abbrev pub TellsEach : Re → List (List ℕ) → List Bool → Type 0
TellsEach expression values marks = (built : Regex) → regex_config built ≡ default_config → IsReadFromSource built → expression ≡ regex_pattern built → marks ≡ map (finds (regex_source built)) values
