-- How often words stand in the relations of a sketch grammar, as functions.
use Rattle.std.specs.Prelude.{ℕ, List, Some, None}
use Rattle.mt_text_spec.specs.Registries.{Registry}
use Rattle.mt_text_spec.specs.Texts.{Text}
use Rattle.mt_text_spec.specs.Queries.{Grammar}
use Rattle.mt_match_spec.specs.Values.{Images}
use Rattle.mt_count_spec.specs.Counts.{IsF, IsF1}

-- How often a binary relation has the words x and y at its places, the word x and any second one, and any first word and the word y; and how often a unary relation has
-- the word x.
pub record Frequencies : Type 0 where
  pub both : (name x y : List ℕ) → ℕ
  pub first : (name x : List ℕ) → ℕ
  pub second : (name y : List ℕ) → ℕ
  pub alone : (name x : List ℕ) → ℕ

-- they are those of a grammar over texts
pub record AreFrequencies (images : Images) (registry : Registry) (grammar : Grammar) (corpus : List Text) (f : Frequencies) : Type 0 where
  pub both : (name x y : List ℕ) → IsF images registry grammar corpus name (Some x) (Some y) (f.both name x y)
  pub first : (name x : List ℕ) → IsF images registry grammar corpus name (Some x) None (f.first name x)
  pub second : (name y : List ℕ) → IsF images registry grammar corpus name None (Some y) (f.second name y)
  pub alone : (name x : List ℕ) → IsF1 images registry grammar corpus name (Some x) (f.alone name x)
