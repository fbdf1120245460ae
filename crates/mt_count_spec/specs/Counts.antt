-- How many instances there are over texts, by their values.
use Rattle.std.specs.Prelude.{ℕ, ◌≡◌, ◌+◌, List, [], ◌∷◌, length, Option, None, Some}
use Rattle.std.specs.List.{Contains}
use Rattle.mt_text_spec.specs.Registries.{Registry}
use Rattle.mt_text_spec.specs.Texts.{Text}
use Rattle.mt_text_spec.specs.Queries.{Query, Relation, Grammar}
use Rattle.mt_match_spec.specs.Values.{Images, value_at}
use Rattle.mt_match_spec.specs.Kept.{Over}
use Rattle.mt_count_spec.specs.Instances.{Instance, AtTwo, AtOne, HasInstance}

-- no item stands twice in a list
abbrev pub EachOnce : {X : Type 0} → List X → Type 0
EachOnce [] = Unit {0}
EachOnce (x ∷ xs) = (Contains xs x → ⊥) × EachOnce xs

-- so many things are there of which P holds: a list of them all, each once, is so long
pub record Number {X : Type 0} (P : X → Type 0) (count : ℕ) : Type 0 where
  pub all : List X
  pub once : EachOnce all
  pub only : (x : X) → Contains all x → P x
  pub each : (x : X) → P x → Contains all x
  pub are : length all ≡ count

-- a value is the one that is asked for, or any will do
abbrev pub IsAsked : Option (List ℕ) → List ℕ → Type 0
IsAsked None value = Unit {0}
IsAsked (Some asked) value = value ≡ asked

-- Both places of an instance of this final name have the values that are asked for, of the attribute that sketches count.
pub data CountsTwo (images : Images) (registry : Registry) (text : Text) (name : List ℕ) (x y : Option (List ℕ)) : Instance → Type 0 where
  IsTwo : (p q : ℕ) → IsAsked x (value_at images registry text registry.ws_attr p) → IsAsked y (value_at images registry text registry.ws_attr q) →
      CountsTwo images registry text name x y (AtTwo name p q)

-- the place of an instance of this final name has the value that is asked for
pub data CountsOne (images : Images) (registry : Registry) (text : Text) (name : List ℕ) (x : Option (List ℕ)) : Instance → Type 0 where
  IsOne : (p : ℕ) → IsAsked x (value_at images registry text registry.ws_attr p) → CountsOne images registry text name x (AtOne name p)

-- the instances of a text that count
pub record IsCounted (images : Images) (registry : Registry) (grammar : Grammar) (text : Text) (Counts : Instance → Type 0) (instance : Instance) : Type 0 where
  pub has : HasInstance images registry grammar text instance
  pub counts : Counts instance

-- how many there are over all texts: those of each text by itself, added up
pub data Summed (Of : Text → ℕ → Type 0) : List Text → ℕ → Type 0 where
  OverNone : Summed Of [] 0
  OverOne : (text : Text) (corpus : List Text) (here others : ℕ) → Of text here → Summed Of corpus others → Summed Of (text ∷ corpus) (here + others)

-- f of a relation: how many instances over the texts have this final name, and these values at their places, where `None` stands for any
abbrev pub IsF : Images → Registry → Grammar → List Text → (name : List ℕ) → (x y : Option (List ℕ)) → ℕ → Type 0
IsF images registry grammar corpus name x y count =
    Summed (λ text here. Number (IsCounted images registry grammar text (CountsTwo images registry text name x y)) here) corpus count

-- f1 of a unary relation
abbrev pub IsF1 : Images → Registry → Grammar → List Text → (name : List ℕ) → (x : Option (List ℕ)) → ℕ → Type 0
IsF1 images registry grammar corpus name x count =
    Summed (λ text here. Number (IsCounted images registry grammar text (CountsOne images registry text name x)) here) corpus count

-- a query of some relation of the grammar
pub record IsQueryIn (grammar : Grammar) (query : Query) : Type 0 where
  pub relation : Relation
  pub relations : Contains grammar.relations relation
  pub queries : Contains relation.queries query

-- no query of the grammar has too many rows on one of these texts alone
abbrev pub HasRoom : Images → Registry → Grammar → List Text → Type 0
HasRoom images registry grammar corpus = (text : Text) (query : Query) → Contains corpus text → IsQueryIn grammar query → Over images registry (text ∷ []) query → ⊥
