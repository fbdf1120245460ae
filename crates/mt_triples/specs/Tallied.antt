-- What a list of instances counts, by the values at their places.
use Rattle.std.specs.Prelude.{ℕ, ◌≡◌, ◌+◌, Bool, List, [], ◌∷◌, if◌then◌else◌}
use Rattle.std.specs.List.{Contains}
use Rattle.mt_text_spec.specs.Registries.{Registry}
use Rattle.mt_text_spec.specs.Texts.{Text}
use Rattle.mt_text_spec.specs.Queries.{Grammar}
use Rattle.mt_match_spec.specs.Values.{Images, value_at}
use Rattle.mt_count_spec.specs.Instances.{Instance, AtTwo, AtOne, HasInstance}
use Rattle.mt_count_spec.specs.Counts.{EachOnce}
use Rattle.mt_counts.specs.Totals.{total}
use Rattle.mt_counts.specs.Counted.{Counted}
use Rattle.mt_triples.specs.CountsOf.{AreCountsOf}

-- how many of the binary instances have a name and two values that pass a test
abbrev pub twos : (values : ℕ → List ℕ) → (List ℕ × List ℕ × List ℕ → Bool) → List Instance → ℕ
twos values test [] = 0
twos values test (AtTwo name p q ∷ all) = (if test (name, values p, values q) then 1 else 0) + twos values test all
twos values test (AtOne name p ∷ all) = twos values test all

-- how many of the unary instances have a name and a value that pass one
abbrev pub ones : (values : ℕ → List ℕ) → (List ℕ × List ℕ → Bool) → List Instance → ℕ
ones values test [] = 0
ones values test (AtTwo name p q ∷ all) = ones values test all
ones values test (AtOne name p ∷ all) = (if test (name, values p) then 1 else 0) + ones values test all

-- the tables count each of these instances once, and nothing else
pub record CountEach (values : ℕ → List ℕ) (all : List Instance) (counted : Counted) : Type 0 where
  pub both : (test : List ℕ × List ℕ × List ℕ → Bool) → total test counted.both ≡ twos values test all
  pub first : (test : List ℕ × List ℕ → Bool) → total test counted.first ≡ twos values (λ key. test (key.0, key.1)) all
  pub second : (test : List ℕ × List ℕ → Bool) → total test counted.second ≡ twos values (λ key. test (key.0, key.2)) all
  pub alone : (test : List ℕ × List ℕ → Bool) → total test counted.alone ≡ ones values test all

-- all instances of a text, each once
pub record AreInstances (images : Images) (registry : Registry) (grammar : Grammar) (text : Text) (all : List Instance) : Type 0 where
  pub once : EachOnce all
  pub only : (instance : Instance) → Contains all instance → HasInstance images registry grammar text instance
  pub each : (instance : Instance) → HasInstance images registry grammar text instance → Contains all instance

-- tables that count each instance of a text once have the counts of this text
abbrev pub InstancesAreCounted : Type 0
InstancesAreCounted = (images : Images) (registry : Registry) (grammar : Grammar) (text : Text) (all : List Instance) (counted : Counted) →
    AreInstances images registry grammar text all → CountEach (value_at images registry text registry.ws_attr) all counted → AreCountsOf images registry grammar (text ∷ []) counted

-- every text has a list of its instances
abbrev pub HaveInstances : Type 0
HaveInstances = (images : Images) (registry : Registry) (grammar : Grammar) (text : Text) → (all : List Instance) × AreInstances images registry grammar text all

-- and every list of texts has counts
abbrev pub HaveCounts : Type 0
HaveCounts = (images : Images) (registry : Registry) (grammar : Grammar) (corpus : List Text) → (counted : Counted) × AreCountsOf images registry grammar corpus counted
