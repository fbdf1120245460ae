-- Which texts are patterns of whole values, and where in a list of texts the first one stands that is not built.
use Rattle.std.specs.Prelude.{ℕ, ◌≡◌, ◌+◌, List, ◌∷◌, ◌++◌, length}
use Rattle.std.specs.List.{All}
use Rattle.mt_pattern_spec.specs.Patterns.{IsPattern, MayBeNoPattern, wrapped}
use Rattle.mt_pattern.specs.Shops.{RefusedOne}
use Rattle.mt_prepare.specs.declared.patterns.PatternError.{PatternError}
use Rattle.mt_prepare.specs.declared.patterns.PatternError.TheVariants.{Syntax, Refused, NoMemory}

-- a pattern by itself, and between marks for a value's start and end
pub record IsWhole (text : List ℕ) : Type 0 where
  pub alone : IsPattern text
  pub whole : IsPattern (wrapped text)

-- Of texts that are numbered from `first` on, this one has the number k, and each earlier one is a pattern of whole values.
pub record StopsAt (first : ℕ) (texts : List (List ℕ)) (k : ℕ) (text : List ℕ) : Type 0 where
  pub before : List (List ℕ)
  pub behind : List (List ℕ)
  pub split : texts ≡ before ++ text ∷ behind
  pub number : k ≡ first + length before
  pub patterns : All IsWhole before

-- the text with the number k may be refused as no pattern
pub record IsNoPatternAt (first : ℕ) (texts : List (List ℕ)) (k : ℕ) : Type 0 where
  pub text : List ℕ
  pub stops : StopsAt first texts k text
  pub none : MayBeNoPattern text

-- a shop refused the text with the number k, by itself or between the marks
pub record IsRefusedAt (first : ℕ) (texts old new : List (List ℕ)) (k : ℕ) : Type 0 where
  pub text : List ℕ
  pub stops : StopsAt first texts k text
  pub refused : RefusedOne old text new

-- What an error says of the texts, and of what a shop had refused before and has refused since: it refused a text with `Refused` alone.
abbrev pub Blames : (first : ℕ) → (texts old new : List (List ℕ)) → PatternError → Type 0
Blames first texts old new (Syntax k) = IsNoPatternAt first texts k × (new ≡ old)
Blames first texts old new (Refused k) = IsRefusedAt first texts old new k
Blames first texts old new NoMemory = new ≡ old
