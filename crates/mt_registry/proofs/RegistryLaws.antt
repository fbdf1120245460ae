-- A registry file has one answer.
use Rattle.std.proofs.Common.{◌≡◌, ℕ, zero, suc, ◌<◌, ◌≤◌, List, sym, ◌∙◌, ap, subst, refl, arith}
use Rattle.mt_text_spec.specs.Registries.{Registry, base_count}
use Rattle.mt_file_spec.specs.RegistryFile.{RegistryCause, Syntax, Twice, TooMany, UnknownMapper, UnknownBase, rank, FirstRegistryFault, ReadsRegistry, HasCause, file_of}
use Rattle.mt_registry.specs.RegistryErrors.{registry_cause_of, IsRefusal}
use Rattle.mt_registry.specs.declared.error.RegistryError.{RegistryError}
use Rattle.mt_registry.specs.declared.error.RegistryError.TheVariants as error
use Rattle.mt_registry.specs.RegistryLaws.{AreApart, OneFault, OneRegistry}

-- the cause of a rank
cause_at : ℕ → RegistryCause
cause_at zero = Syntax
cause_at (suc zero) = Twice
cause_at (suc (suc zero)) = TooMany
cause_at (suc (suc (suc zero))) = UnknownMapper
cause_at (suc (suc (suc (suc n)))) = UnknownBase

at_rank : (cause : RegistryCause) → cause_at (rank cause) ≡ cause
unfolding cause_at
at_rank Syntax = refl
at_rank Twice = refl
at_rank TooMany = refl
at_rank UnknownMapper = refl
at_rank UnknownBase = refl

same_cause : (a b : RegistryCause) → rank a ≡ rank b → a ≡ b
same_cause a b e = sym (at_rank a) ∙ ap cause_at e ∙ at_rank b

pub one_registry : OneRegistry
one_registry mappers bytes a b x y = x.are ∙ sym y.are

faults : (mappers : List (List ℕ)) (bytes : List ℕ) (line number : ℕ) (cause other : RegistryCause) → FirstRegistryFault mappers bytes line cause → FirstRegistryFault mappers bytes number other →
    line ≡ number → (line ≡ number) × (cause ≡ other)
faults mappers bytes line number cause other a b same =
    let low : rank cause ≤ rank other = a.first_cause other (subst (λ (n : ℕ). HasCause mappers (file_of bytes) n other) (sym same) b.here) in
    let high : rank other ≤ rank cause = b.first_cause cause (subst (λ (n : ℕ). HasCause mappers (file_of bytes) n cause) same a.here) in
    let equal : rank cause ≡ rank other = omega arith in
    (same, same_cause cause other equal)

pub one_fault : OneFault
one_fault mappers bytes line number cause other a b =
    let low : line ≤ number = a.first_line number other b.here in
    let high : number ≤ line = b.first_line line cause a.here in
    faults mappers bytes line number cause other a b (omega arith)

pub one_answer : AreApart
one_answer = record {
  read_or_faulty = λ mappers bytes registry line cause read fault. read.faultless line cause fault.here;
  read_or_baseless = λ mappers bytes registry read lacks.
      let some : 0 < base_count registry.attrs = read.some in
      let count = ap (λ (r : Registry). base_count r.attrs) read.are in
      let none = lacks.none in omega arith;
  baseless_or_faulty = λ mappers bytes line cause lacks fault. lacks.faultless line cause fault.here;
}

-- a file that is read is refused only where memory runs out
pub only_memory : (mappers : List (List ℕ)) (bytes : List ℕ) (registry : Registry) (e : RegistryError) → ReadsRegistry mappers bytes registry → IsRefusal mappers bytes e → e ≡ error.NoMemory
only_memory mappers bytes registry (error.Bad bad) read refused = absurd (read.faultless bad.line (registry_cause_of bad.cause) refused.here)
only_memory mappers bytes registry error.NoAttribute read refused = absurd (one_answer.read_or_baseless mappers bytes registry read refused)
only_memory mappers bytes registry error.NoMemory read refused = refl
