-- `registry`: the registry of a file is the corpus's from now on.
use Rattle.std.specs.Prelude.{ℕ, ◌≡◌, ◌≢◌, ◌⊎◌, true, List, [], ◌∷◌, ◌++◌, None}
use Rattle.mt_text_spec.specs.Registries.{Registry}
use Rattle.mt_file_spec.specs.RegistryFile.{ReadsRegistry, FirstRegistryFault, LacksBase, RegistryCause}
use Rattle.mt_session_spec.specs.World.{Held, World, corpus_of}
use Rattle.mt_session_spec.specs.Settings.{Setting, mapper_names}
use Rattle.mt_session_spec.specs.Refusals.{Refusal, RegistryLate, BadRegistry, NoAttribute, ok_line}
use Rattle.mt_session_spec.specs.Checks.{Check, When}
use Rattle.mt_session_spec.specs.Answers.{Answer, Lines}
use Rattle.mt_session_spec.specs.Files.{IsFile, file_checks}
use Rattle.mt_session_spec.specs.Meaning.{Meaning, Exception, LoadsBehind}

-- a registry comes too late behind another, a text or a grammar
abbrev pub IsLate : Held → Type 0
IsLate held = (held.accepted ≡ true) ⊎ ((corpus_of held.groups ≢ []) ⊎ (held.grammar ≢ None))

-- what is asked before the file is loaded
abbrev pub registry_front : World → List Check
registry_front world = When (IsLate world.held) RegistryLate ∷ []

-- the file's bytes are no registry: a line is bad, or no base attribute is declared
pub data IsNoRegistry (setting : Setting) (world : World) (file : List ℕ) : Refusal → Type 0 where
  BadLine : (bytes : List ℕ) (line : ℕ) (cause : RegistryCause) → IsFile world.files file bytes → FirstRegistryFault (mapper_names setting) bytes line cause →
      IsNoRegistry setting world file (BadRegistry line cause)
  Baseless : (bytes : List ℕ) → IsFile world.files file bytes → LacksBase (mapper_names setting) bytes → IsNoRegistry setting world file NoAttribute

-- from now on this registry holds, and there is no text and no grammar
abbrev pub with_registry : Held → Registry → Held
with_registry held registry = record held { registry = registry; accepted = true; grammar = None; groups = [] }

-- the registry that the file is read as holds from now on
pub record SetsRegistry (setting : Setting) (world : World) (file : List ℕ) (new : World) (answer : Answer) : Type 0 where
  pub bytes : List ℕ
  pub found : IsFile world.files file bytes
  pub registry : Registry
  pub read : ReadsRegistry (mapper_names setting) bytes registry
  pub changed : new ≡ record world { held = with_registry world.held registry }
  pub says : answer ≡ Lines (ok_line ∷ [])

-- `registry`: it does not come too late, the file is there and is a registry
abbrev pub registering : Setting → World → List ℕ → Meaning
registering setting world file = record {
  checks = registry_front world ++ file_checks world.files file ++ IsNoRegistry setting world file ∷ [];
  Accepts = SetsRegistry setting world file;
  Excepts = Exception world (LoadsBehind (registry_front world) file);
}
