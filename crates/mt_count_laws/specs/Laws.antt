-- Counts are one number each.
use Rattle.std.specs.Prelude.{◌≡◌, ℕ, List, Option}
use Rattle.mt_text_spec.specs.Registries.{Registry}
use Rattle.mt_text_spec.specs.Texts.{Text}
use Rattle.mt_text_spec.specs.Queries.{Grammar}
use Rattle.mt_match_spec.specs.Values.{Images}
use Rattle.mt_count_spec.specs.Counts.{IsF, IsF1}

-- f of a final name and two values is one number
abbrev pub OneCount : Type 0
OneCount = (images : Images) (registry : Registry) (grammar : Grammar) (corpus : List Text) (name : List ℕ) (x y : Option (List ℕ)) (a b : ℕ) →
    IsF images registry grammar corpus name x y a → IsF images registry grammar corpus name x y b → a ≡ b

-- f1 of a unary relation is one number
abbrev pub OneUnaryCount : Type 0
OneUnaryCount = (images : Images) (registry : Registry) (grammar : Grammar) (corpus : List Text) (name : List ℕ) (x : Option (List ℕ)) (a b : ℕ) →
    IsF1 images registry grammar corpus name x a → IsF1 images registry grammar corpus name x b → a ≡ b
