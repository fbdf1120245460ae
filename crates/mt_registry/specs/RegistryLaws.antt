-- A registry file has one answer.
use Rattle.std.specs.Prelude.{◌≡◌, ℕ, List}
use Rattle.mt_text_spec.specs.Registries.{Registry, ValidRegistry}
use Rattle.mt_file_spec.specs.RegistryFile.{RegistryCause, FirstRegistryFault, ReadsRegistry, LacksBase}

-- a file is read as at most one registry
abbrev pub OneRegistry : Type 0
OneRegistry = (mappers : List (List ℕ)) (bytes : List ℕ) (a b : Registry) → ReadsRegistry mappers bytes a → ReadsRegistry mappers bytes b → a ≡ b

-- what a file is read as is valid
abbrev pub ValidRegistries : Type 0
ValidRegistries = (mappers : List (List ℕ)) (bytes : List ℕ) (registry : Registry) → ReadsRegistry mappers bytes registry → ValidRegistry registry

-- a file has at most one first fault
abbrev pub OneFault : Type 0
OneFault = (mappers : List (List ℕ)) (bytes : List ℕ) (line number : ℕ) (cause other : RegistryCause) →
    FirstRegistryFault mappers bytes line cause → FirstRegistryFault mappers bytes number other → (line ≡ number) × (cause ≡ other)

-- a file that is read has no fault and declares a base attribute; one that declares none has no fault
pub record AreApart : Type 0 where
  pub read_or_faulty : (mappers : List (List ℕ)) (bytes : List ℕ) (registry : Registry) (line : ℕ) (cause : RegistryCause) → ReadsRegistry mappers bytes registry → FirstRegistryFault mappers bytes line cause → ⊥
  pub read_or_baseless : (mappers : List (List ℕ)) (bytes : List ℕ) (registry : Registry) → ReadsRegistry mappers bytes registry → LacksBase mappers bytes → ⊥
  pub baseless_or_faulty : (mappers : List (List ℕ)) (bytes : List ℕ) (line : ℕ) (cause : RegistryCause) → LacksBase mappers bytes → FirstRegistryFault mappers bytes line cause → ⊥
