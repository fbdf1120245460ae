-- What contracts see of the errors of a registry.
use Rattle.std.specs.Prelude.{ℕ, List}
use Rattle.mt_file_spec.specs.RegistryFile.{RegistryCause, Syntax, Twice, TooMany, UnknownMapper, UnknownBase, FirstRegistryFault, LacksBase}
use Rattle.mt_registry.specs.Misstated.{Blamed}
use Rattle.mt_registry.specs.declared.error.RegistryCause.{RegistryCause as RustCause}
use Rattle.mt_registry.specs.declared.error.RegistryCause.TheVariants as cause
use Rattle.mt_registry.specs.declared.error.BadLine.{BadLine}
use Rattle.mt_registry.specs.declared.error.RegistryError.{RegistryError}
use Rattle.mt_registry.specs.declared.error.RegistryError.TheVariants as error

-- the cause that is told
abbrev pub registry_cause_of : RustCause → RegistryCause
registry_cause_of cause.Syntax = Syntax
registry_cause_of cause.Twice = Twice
registry_cause_of cause.TooMany = TooMany
registry_cause_of cause.UnknownMapper = UnknownMapper
registry_cause_of cause.UnknownBase = UnknownBase

abbrev pub bad_seen : BadLine → Blamed
bad_seen bad = record { line = bad.line; cause = registry_cause_of bad.cause }

-- an error tells the first fault, that no base attribute is declared, or out of memory
abbrev pub IsRefusal : List (List ℕ) → List ℕ → RegistryError → Type 0
IsRefusal mappers bytes (error.Bad bad) = FirstRegistryFault mappers bytes bad.line (registry_cause_of bad.cause)
IsRefusal mappers bytes error.NoAttribute = LacksBase mappers bytes
IsRefusal mappers bytes error.NoMemory = Unit {0}
