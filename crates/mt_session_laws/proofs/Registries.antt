-- A file cannot be without a registry, without a first fault and with a base attribute.
use Rattle.std.proofs.Common.{◌≡◌, ℕ, zero, suc, ◌⊎◌, inl, inr, List, refl, arith}
use Rattle.mt_text_spec.specs.Registries.{Registry, base_count}
use Rattle.mt_file_spec.specs.RegistryFile.{RegistryCause, rank, HasCause, FirstRegistryFault, ReadsRegistry, LacksBase, file_of, registry_of, statements_of}
use Rattle.mt_session_laws.proofs.Never.{either, some_least}

-- what is found of a file
abbrev pub IsJudged : List (List ℕ) → List ℕ → Type 0
IsJudged mappers bytes = ((registry : Registry) × ReadsRegistry mappers bytes registry) ⊎ (((line : ℕ) × (cause : RegistryCause) × FirstRegistryFault mappers bytes line cause) ⊎ LacksBase mappers bytes)

-- the least line with a cause, and the least cause of it
first_fault : (mappers : List (List ℕ)) (bytes : List ℕ) (number : ℕ) (cause : RegistryCause) → HasCause mappers (file_of bytes) number cause →
    (((line : ℕ) × (cause : RegistryCause) × FirstRegistryFault mappers bytes line cause) → ⊥) → ⊥
first_fault mappers bytes number cause has k =
    some_least (λ line. (c : RegistryCause) × HasCause mappers (file_of bytes) line c) number (cause, has) (λ l.
    some_least (λ r. (c : RegistryCause) × (rank c ≡ r) × HasCause mappers (file_of bytes) l.number c) (rank (l.here).0) ((l.here).0, refl, (l.here).1) (λ m. k (
      l.number,
      (m.here).0,
      record {
        here = (m.here).2;
        first_cause = λ other h. let least = m.first (rank other) (other, refl, h) in let same : rank (m.here).0 ≡ m.number = (m.here).1 in omega arith;
        first_line = λ line other h. l.first line (other, h);
      },
    )))

counted : (mappers : List (List ℕ)) (bytes : List ℕ) → ((number : ℕ) (cause : RegistryCause) → HasCause mappers (file_of bytes) number cause → ⊥) → (n : ℕ) →
    base_count (registry_of (statements_of (file_of bytes).lines)).attrs ≡ n → IsJudged mappers bytes
counted mappers bytes none zero e = inr (inr (record { faultless = none; none = e }))
counted mappers bytes none (suc n) e = inl (registry_of (statements_of (file_of bytes).lines), record { faultless = none; some = omega arith; are = refl })

pub some_judged : (mappers : List (List ℕ)) (bytes : List ℕ) → (IsJudged mappers bytes → ⊥) → ⊥
some_judged mappers bytes k = either ((number : ℕ) × (cause : RegistryCause) × HasCause mappers (file_of bytes) number cause) (λ d. elim d [
  | inl found ↦ first_fault mappers bytes found.0 found.1 found.2 (λ f. k (inr (inl f)))
  | inr none ↦ k (counted mappers bytes (λ number cause h. none (number, cause, h)) (base_count (registry_of (statements_of (file_of bytes).lines)).attrs) refl)
])
