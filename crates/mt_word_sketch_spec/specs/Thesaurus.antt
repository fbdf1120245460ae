-- The reply to `thes`: the words that stand where a lemma does.
use Rattle.std.specs.Prelude.{ℕ, ◌≡◌, ◌+◌, ◌-◌, ◌*◌, ◌/◌, ◌%◌, ◌^◌, ◌<◌, pos, List, ◌∷◌, ◌++◌, length, map}
use Rattle.std.specs.List.{Contains, sum_by}
use Rattle.std.specs.Fmt.{decimal}
use Rattle.mt_text_spec.specs.Registries.{Registry}
use Rattle.mt_text_spec.specs.Texts.{Text}
use Rattle.mt_text_spec.specs.Queries.{Grammar}
use Rattle.mt_match_spec.specs.Values.{Images}
use Rattle.mt_count_spec.specs.Counts.{EachOnce}
use Rattle.mt_sketch_spec.specs.Score.{IsScore, last_digits}
use Rattle.mt_word_sketch_spec.specs.Ranks.{Ranked, FirstRanked, number_line}
use Rattle.mt_word_sketch_spec.specs.Frequencies.{Frequencies, AreFrequencies}
use Rattle.mt_word_sketch_spec.specs.Sketches.{apart}

-- A place where words stand: a binary relation and the word that is second in it.
pub record Context : Type 0 where
  pub name : List ℕ
  pub second : List ℕ

-- a context in which a word stands, with its score there in sixteenths, which is above 0
pub record HasScore (f : Frequencies) (word : List ℕ) (context : Context) (score : ℕ) : Type 0 where
  pub some : 0 < f.both context.name word context.second
  pub scored : IsScore (2 * f.both context.name word context.second) (apart f context.name word context.second) (pos score)
  pub positive : 0 < score

-- a context of a word, with the word's score
pub record Own : Type 0 where
  pub context : Context
  pub score : ℕ

-- this one is
abbrev pub IsOwn : Frequencies → (word : List ℕ) → Own → Type 0
IsOwn f word own = HasScore f word own.context own.score

-- a context of two words, with the scores of both
pub record Shared : Type 0 where
  pub context : Context
  pub one_score : ℕ
  pub other_score : ℕ

-- both words have it
pub record IsShared (f : Frequencies) (one other : List ℕ) (shared : Shared) : Type 0 where
  pub by_one : HasScore f one shared.context shared.one_score
  pub by_other : HasScore f other shared.context shared.other_score

-- how far two numbers are apart
abbrev pub difference : ℕ → ℕ → ℕ
difference a b = (a - b) + (b - a)

-- what a context makes the two words alike: a + b less a fiftieth of the square of a - b, 800 times over, as the scores are in sixteenths
abbrev pub likeness : Shared → ℕ
likeness shared = 800 * (shared.one_score + shared.other_score) - difference shared.one_score shared.other_score ^ 2

-- the numbers of all things that P holds of, each taken once, add up to this
pub record AddUp {X : Type 0} (P : X → Type 0) (number : X → ℕ) (total : ℕ) : Type 0 where
  pub all : List X
  pub once : EachOnce all
  pub only : (x : X) → Contains all x → P x
  pub each : (x : X) → P x → Contains all x
  pub are : sum_by number all ≡ total

-- the scores of a word in all its contexts, added up
abbrev pub IsScoreSum : Frequencies → (word : List ℕ) → ℕ → Type 0
IsScoreSum f word total = AddUp (IsOwn f word) (λ own. own.score) total

-- Another word that has a context of the lemma. It is ranked by the likeness of the contexts that both have, of the scores in all contexts of the one and of the other.
pub record IsAlike (f : Frequencies) (lemma : List ℕ) (one : Ranked) : Type 0 where
  pub other : one.word ≡ lemma → ⊥
  pub shared : Shared
  pub shares : IsShared f lemma one.word shared
  pub part_is : AddUp (IsShared f lemma one.word) likeness one.part
  pub lemma_sum : ℕ
  pub word_sum : ℕ
  pub lemma_adds : IsScoreSum f lemma lemma_sum
  pub word_adds : IsScoreSum f one.word word_sum
  pub whole_is : one.whole ≡ 800 * (lemma_sum + word_sum)

-- so many thousandths, with three decimals
abbrev pub thousandths_text : ℕ → List ℕ
thousandths_text n = decimal (n / 1000) ++ 46 ∷ last_digits 3 (n % 1000)

-- a word and its similarity, a tab between, rounded down to a thousandth
abbrev pub alike_line : Ranked → List ℕ
alike_line one = one.word ++ 9 ∷ thousandths_text (one.part * 1000 / one.whole)

-- how many words are shown, and each one's line
pub record ThesaurusText (f : Frequencies) (lemma : List ℕ) (max : ℕ) (lines : List (List ℕ)) : Type 0 where
  pub shown : List Ranked
  pub first : FirstRanked (λ one. one) (IsAlike f lemma) max shown
  pub say : lines ≡ number_line (length shown) ∷ map alike_line shown

-- the reply to `thes` over these texts under a grammar
pub record Thesaurus (images : Images) (registry : Registry) (grammar : Grammar) (corpus : List Text) (lemma : List ℕ) (max : ℕ) (lines : List (List ℕ)) : Type 0 where
  pub frequencies : Frequencies
  pub are : AreFrequencies images registry grammar corpus frequencies
  pub text : ThesaurusText frequencies lemma max lines
