-- What is at the places of a list of counts, and how it grows.
use Rattle.std.specs.Prelude.{ℕ, ◌≡◌, ◌≢◌, ◌+◌, ◌<◌, List, ◌∷◌, ◌++◌, length, map, slice_get, Some}
use Rattle.std.specs.List.{All, AllPairs, Contains}

-- a key stands at a place, with whatever count
pub record IsAt {K : Type 0} (entries : List (K × ℕ)) (key : K) (place : ℕ) : Type 0 where
  pub count : ℕ
  pub there : slice_get entries place ≡ Some (key, count)

-- a pair stands at a place among the keys
abbrev pub IsHint : List (ℕ × ℕ) → (group member place : ℕ) → Type 0
IsHint keys group member place = slice_get keys place ≡ Some (group, member)

-- no key stands at two places
abbrev pub AreOnce : {K : Type 0} → List (K × ℕ) → Type 0
AreOnce {K} entries = (key : K) (i j : ℕ) → IsAt entries key i → IsAt entries key j → i ≡ j

-- keys were added behind the others, with the count 0
pub record Grows {K : Type 0} (old new : List (K × ℕ)) : Type 0 where
  pub more : List (K × ℕ)
  pub are : new ≡ old ++ more
  pub zeros : All (λ e. e.1 ≡ 0) more

-- a pair of the group with a count above 0 stands at the place
pub record IsPlaced (entries : List ((ℕ × ℕ) × ℕ)) (group place : ℕ) : Type 0 where
  pub member : ℕ
  pub count : ℕ
  pub there : slice_get entries place ≡ Some ((group, member), count)
  pub some : 0 < count

-- the group has a pair with a count above 0
pub record HasPlaced (entries : List ((ℕ × ℕ) × ℕ)) (group : ℕ) : Type 0 where
  pub place : ℕ
  pub is : IsPlaced entries group place

-- a list of everything that P holds of and of nothing else, each once
pub record ListsOnce {X : Type 0} (P : X → Type 0) (all : List X) : Type 0 where
  pub once : AllPairs (λ x y. x ≢ y) all
  pub only : (x : X) → Contains all x → P x
  pub each : (x : X) → P x → Contains all x

-- The count at one place is so much higher in the second list, and nothing else differs.
pub record IsRaised {K : Type 0} (low : List (K × ℕ)) (place by : ℕ) (high : List (K × ℕ)) : Type 0 where
  pub front : List (K × ℕ)
  pub key : K
  pub count : ℕ
  pub back : List (K × ℕ)
  pub at : length front ≡ place
  pub low_is : low ≡ front ++ (key, count) ∷ back
  pub high_is : high ≡ front ++ (key, count + by) ∷ back

-- groups and members are numbers below these
abbrev pub HasKeysBelow : (groups members : ℕ) → List ((ℕ × ℕ) × ℕ) → Type 0
HasKeysBelow groups members entries = (key : ℕ × ℕ) (place : ℕ) → IsAt entries key place → (key.0 < groups) × (key.1 < members)

-- and so of keys alone
abbrev pub AreKeysBelow : (groups members : ℕ) → List (ℕ × ℕ) → Type 0
AreKeysBelow groups members keys = All (λ key. (key.0 < groups) × (key.1 < members)) keys

-- each of the keys counts once, as often as it is there
abbrev pub each_once : {K : Type 0} → List K → List (K × ℕ)
each_once keys = map (λ key. (key, 1)) keys
