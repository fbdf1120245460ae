-- When a test holds of a token, or of an instance of a structure, by the values that it has.
use Rattle.std.specs.Prelude.{ℕ, ◌≡◌, ◌⊎◌, Bool, true, false, List}
use Rattle.mt_text_spec.specs.Queries.{Test, Any, Pattern, Literal, Not, Both, Either}
use Rattle.mt_pattern_spec.specs.Patterns.{Accepts}

-- the fact, or its contrary where it is negated
abbrev pub Unless : (negated : Bool) → Type 0 → Type 0
Unless false fact = fact
Unless true fact = ¬ fact

-- `value` gives the value of each attribute, by its number. A pattern holds where it accepts the whole value, a literal where it is the value.
abbrev pub Holds : Test → (value : ℕ → List ℕ) → Type 0
Holds Any value = Unit {0}
Holds (Pattern attr text negated) value = Unless negated (Accepts text (value attr))
Holds (Literal attr text negated) value = Unless negated (value attr ≡ text)
Holds (Not inner) value = ¬ Holds inner value
Holds (Both left right) value = Holds left value × Holds right value
Holds (Either left right) value = Holds left value ⊎ Holds right value
