-- What is so of word sketches and of the thesaurus.
use Rattle.std.specs.Prelude.{◌≡◌, ℕ, ◌*◌, ◌<◌, ◌≤◌, ℤ, List}
use Rattle.mt_text_spec.specs.Registries.{Registry}
use Rattle.mt_text_spec.specs.Texts.{Text}
use Rattle.mt_text_spec.specs.Queries.{Grammar}
use Rattle.mt_match_spec.specs.Values.{Images}
use Rattle.mt_sketch_spec.specs.Score.{IsScore}
use Rattle.mt_word_sketch_spec.specs.Frequencies.{Frequencies, AreFrequencies}
use Rattle.mt_word_sketch_spec.specs.Sketches.{Sketch}
use Rattle.mt_word_sketch_spec.specs.Thesaurus.{Thesaurus}

-- two words stand in a relation no more often than the first one does, and no more often than the second one
pub record IsWithinBoth (f : Frequencies) (name x y : List ℕ) : Type 0 where
  pub first : f.both name x y ≤ f.first name x
  pub second : f.both name x y ≤ f.second name y

-- so it is over any texts
abbrev pub PairsAreWithin : Type 0
PairsAreWithin = (images : Images) (registry : Registry) (grammar : Grammar) (corpus : List Text) (f : Frequencies) → AreFrequencies images registry grammar corpus f →
    (name x y : List ℕ) → IsWithinBoth f name x y

-- texts have one set of frequencies
abbrev pub OneFrequencies : Type 0
OneFrequencies = (images : Images) (registry : Registry) (grammar : Grammar) (corpus : List Text) (f g : Frequencies) → AreFrequencies images registry grammar corpus f →
    AreFrequencies images registry grammar corpus g → f ≡ g

-- a fraction above 0 and below 2 has a score
abbrev pub ThereIsAScore : Type 0
ThereIsAScore = (two_f sum : ℕ) → 0 < two_f → two_f < 2 * sum → (score : ℤ) × IsScore two_f sum score

-- a lemma has one sketch at most
abbrev pub OneSketch : Type 0
OneSketch = (images : Images) (registry : Registry) (grammar : Grammar) (corpus : List Text) (lemma : List ℕ) (least max : ℕ) (lines others : List (List ℕ)) →
    Sketch images registry grammar corpus lemma least max lines → Sketch images registry grammar corpus lemma least max others → lines ≡ others

-- and it has one
abbrev pub HaveSketches : Type 0
HaveSketches = (images : Images) (registry : Registry) (grammar : Grammar) (corpus : List Text) (lemma : List ℕ) (least max : ℕ) → (lines : List (List ℕ)) × Sketch images registry grammar corpus lemma least max lines

-- a lemma has one thesaurus at most
abbrev pub OneThesaurus : Type 0
OneThesaurus = (images : Images) (registry : Registry) (grammar : Grammar) (corpus : List Text) (lemma : List ℕ) (max : ℕ) (lines others : List (List ℕ)) →
    Thesaurus images registry grammar corpus lemma max lines → Thesaurus images registry grammar corpus lemma max others → lines ≡ others

-- and it has one
abbrev pub HaveThesauri : Type 0
HaveThesauri = (images : Images) (registry : Registry) (grammar : Grammar) (corpus : List Text) (lemma : List ℕ) (max : ℕ) → (lines : List (List ℕ)) × Thesaurus images registry grammar corpus lemma max lines
