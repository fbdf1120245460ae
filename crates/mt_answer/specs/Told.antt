-- What builders of patterns say of texts, in the words of the checks.
use Rattle.std.specs.Prelude.{ℕ, ◌≡◌, ◌⊎◌, List, ◌++◌}
use Rattle.std.specs.List.{All}
use Rattle.mt_prepare.specs.Built as built
use Rattle.mt_prepare.specs.declared.patterns.PatternError.TheVariants as pattern
use Rattle.mt_session_spec.specs.Patterns.{IsFirstBad, IsDeep, IsRefused}

-- A shop, which had refused the old texts, came to have refused the new ones, and the text with the number k is among those that it refused meanwhile.
pub record IsRefusedSince (texts old new : List (List ℕ)) (k : ℕ) : Type 0 where
  pub refused : List (List ℕ)
  pub more : new ≡ old ++ refused
  pub one : IsRefused texts refused k

-- Where all texts are built, none is bad. One that is told as no pattern is the first that is bad, or it nests too deep, and no text was refused; and one that is told
-- as refused was refused meanwhile.
pub record PatternsAreTold : Type 0 where
  pub whole : (texts : List (List ℕ)) (k : ℕ) → All built.IsWhole texts → IsFirstBad texts k → ⊥
  pub bad : (texts old new : List (List ℕ)) (k : ℕ) → built.Blames 1 texts old new (pattern.Syntax k) → IsFirstBad texts k ⊎ IsDeep texts k
  pub kept : (texts old new : List (List ℕ)) (k : ℕ) → built.Blames 1 texts old new (pattern.Syntax k) → new ≡ old
  pub refused : (texts old new : List (List ℕ)) (k : ℕ) → built.Blames 1 texts old new (pattern.Refused k) → IsRefusedSince texts old new k
