-- What shops refuse, and why there is no set of numbers.
use Rattle.std.specs.Prelude.{ℕ, ◌≡◌, ◌⊎◌, List, [], ◌∷◌, ◌++◌}
use Rattle.mt_pattern_spec.specs.Patterns.{IsPattern, wrapped}
use Rattle.mt_pattern.specs.declared.shop.ShopError.{ShopError}
use Rattle.mt_pattern.specs.declared.shop.ShopError.TheVariants as shop
use Rattle.mt_pattern.specs.declared.build.IdsError.{IdsError}
use Rattle.mt_pattern.specs.declared.build.IdsError.TheVariants as ids

-- A shop that refuses chosen texts: these, and the texts that it refused, first to last.
pub record Fussy : Type 0 where
  pub texts : List (List ℕ)
  pub refused : List (List ℕ)

-- the text was refused, or, being a pattern by itself, it was refused wrapped
abbrev pub RefusedOne : List (List ℕ) → List ℕ → List (List ℕ) → Type 0
RefusedOne old text new = (new ≡ old ++ text ∷ []) ⊎ (IsPattern text × (new ≡ old ++ wrapped text ∷ []))

-- a shop's cause is the cause of there being no set
abbrev pub same_cause : ShopError → IdsError
same_cause shop.Syntax = ids.Syntax
same_cause shop.Refused = ids.Refused
same_cause shop.NoMemory = ids.NoMemory
