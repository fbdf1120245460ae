-- From what `regex` promises of what it built to the text alone.
use Rattle.std.proofs.Common.{ℕ, ◌≡◌, ◌≢◌, ◌≤◌, ◌<◌, inl, inr, List, length, get_or, Option, None, Some, IsSome, IsSomeAnd, is_some, true, refl}
use Rattle.std.specs.Prelude.{IfSome}
use Rattle.regex.specs.Patterns.{find_str, default_config, SameCaptures, Reads, Refuses}
use Rattle.regex.specs.Strings.{regex_source, regex_config, regex_pattern, IsReadFromSource}
use Rattle.regex.specs.declared.string.regex.Regex.{Regex}
use Rattle.regex.specs.Failures.{IsPattern as IsBuilt}
use Rattle.regex.proofs.ForCallers.{is_match_alike}
use Rattle.regex_hir.specs.Re.{Re}
use Rattle.regex_syntax.specs.Brackets.{Nested}
use Rattle.regex_syntax.specs.Grammar.{Names, group_count}
use Rattle.regex_syntax.specs.declared.error.ErrorKind.{ErrorKind}
use Rattle.regex_syntax.specs.declared.error.ErrorKind.TheVariants.{OutOfMemory}
use Rattle.mt_pattern_spec.specs.Patterns.{reading, finds_read, finds, IsPattern, IsTooDeep}

-- what `Reads` says of the reading
abbrev ReadAs : Option (Nested Re × Names) → Re → Names → Type 0
ReadAs o a names = IsSomeAnd o (λ (re, found). (re.depth ≤ 250) × SameCaptures a re.value × (names ≡ found) × (group_count a ≤ length names))

same_match : (o : Option (Nested Re × Names)) (a : Re) (names : Names) → ReadAs o a names → (value : List ℕ) → ((k : ℕ) → get_or value k 0 < 256) → is_some (find_str a value 0) ≡ finds_read o value
same_match None a names h value bytes = absurd h
same_match (Some x) a names h value bytes = is_match_alike h.1 value bytes true 0

is_read : (o : Option (Nested Re × Names)) (a : Re) (names : Names) → ReadAs o a names → IsSome o
is_read None a names h = absurd h
is_read (Some x) a names h = refl

pub agrees : (r : Regex) (value : List ℕ) → regex_config r ≡ default_config → IsReadFromSource r → ((k : ℕ) → get_or value k 0 < 256) →
    is_some (find_str (regex_pattern r) value 0) ≡ finds (regex_source r) value
unfolding Reads
agrees r value config h bytes = same_match (reading (regex_source r)) (regex_pattern r) _ (rw config at h) value bytes

pub is_pattern : (r : Regex) → regex_config r ≡ default_config → IsReadFromSource r → IsPattern (regex_source r)
unfolding Reads
is_pattern r config h = is_read (reading (regex_source r)) (regex_pattern r) _ (rw config at h)

too_deep : (o : Option (Nested Re × Names)) → IsSome o → IfSome o (λ (re, _). 250 < re.depth) → IsSomeAnd o (λ (re, _). 250 < re.depth)
too_deep None some deep = cc
too_deep (Some x) some deep = deep

none_read : (o : Option (Nested Re × Names)) → o ≡ None → IsSome o → ⊥
none_read None e some = cc
none_read (Some x) e some = cc

pub refused : (text : List ℕ) (kind : ErrorKind) → Refuses default_config text kind → kind ≢ OutOfMemory → IsPattern text → IsTooDeep text
unfolding Refuses
refused text kind r no_memory some = elim r [
  | inl e ↦ absurd (no_memory e)
  | inr more ↦ elim more [ inl none ↦ absurd (none_read _ none some) | inr deep ↦ too_deep _ some deep.1 ]
]

-- what is built but for its size is a pattern
pub built : (text : List ℕ) → IsBuilt default_config text → IsPattern text
unfolding Reads
built text (hir, names, reads) = is_read (reading text) _ names reads
