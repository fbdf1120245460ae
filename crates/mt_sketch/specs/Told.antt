-- What tables of counts tell of a lemma, and how its sketch is written.
use Rattle.std.specs.Prelude.{ℕ, ◌≡◌, ◌+◌, ◌-◌, ◌*◌, ◌/◌, ◌^◌, ◌<◌, ℤ, if◌then◌else◌, nat_le, List, [], ◌∷◌, ◌++◌, map}
use Rattle.std.specs.List.{AllZip, Contains, flat_map}
use Rattle.std.specs.Fmt.{decimal}
use Rattle.mt_text_spec.specs.Lines.{closed}
use Rattle.mt_text_spec.specs.Registries.{Registry}
use Rattle.mt_text_spec.specs.Texts.{Text}
use Rattle.mt_text_spec.specs.Queries.{Grammar}
use Rattle.mt_match_spec.specs.Values.{Images}
use Rattle.mt_match_spec.specs.Rows.{ListsAll}
use Rattle.mt_sketch_spec.specs.Score.{IsScore, sixteenths_text}
use Rattle.mt_counts.specs.Counted.{Counted, f, f_first, f_second, f1}
use Rattle.mt_counts.specs.declared.listing.Head.{Head}
use Rattle.mt_counts.specs.declared.pairs.Pair.{Pair}
use Rattle.mt_triples.specs.CountsOf.{AreCountsOf}
use Rattle.mt_word_sketch_spec.specs.Ranks.{FirstRanked}
use Rattle.mt_word_sketch_spec.specs.Order.{Weighed, ranked_of}
use Rattle.mt_word_sketch_spec.specs.Frequencies.{Frequencies}
use Rattle.mt_word_sketch_spec.specs.Sketches.{Heading, heading_cmp, heading_count, IsHeading, IsCollocate, collocate_rank, Sketch}
use Rattle.mt_word_sketch_laws.specs.Laws.{IsWithinBoth}
use Rattle.mt_ranks.specs.Bests.{AreDistinct}

-- ## What the tables tell

-- the counts of some texts under a grammar
pub record AreOfSome (counted : Counted) : Type 0 where
  pub images : Images
  pub registry : Registry
  pub grammar : Grammar
  pub corpus : List Text
  pub are : AreCountsOf images registry grammar corpus counted

-- the same counts as functions
abbrev pub frequencies_of : Counted → Frequencies
frequencies_of counted = record { both = f counted; first = f_first counted; second = f_second counted; alone = f1 counted }

-- two words stand together no more often than each does by itself
abbrev pub AreWithin : Counted → Type 0
AreWithin counted = (name x y : List ℕ) → IsWithinBoth (frequencies_of counted) name x y

-- ## Relations

-- the relation of a name under which a word stands
abbrev pub heading_of : Head → Heading
heading_of head = record { name = head.name; unary = head.unary }

-- the lemma stands under this name, so often
pub record IsHeadOf (frequencies : Frequencies) (lemma : List ℕ) (head : Head) : Type 0 where
  pub some : 0 < head.count
  pub is : head.count ≡ heading_count frequencies lemma (heading_of head)

-- all relations of a lemma in their order, with how often it stands in them
pub record AreHeadings (frequencies : Frequencies) (lemma : List ℕ) (heads : List Head) : Type 0 where
  pub counted : (head : Head) → Contains heads head → IsHeadOf frequencies lemma head
  pub are : ListsAll heading_cmp (IsHeading frequencies lemma) (map heading_of heads)

-- ## Collocates

-- a pair with the fraction by which it is ranked, where the first word stands in the relation so often
abbrev pub weighed_of : (left : ℕ) → Pair → Weighed
weighed_of left pair = record { word = pair.word; part = 2 * pair.both; less_one = left + pair.right - 1 }

-- the pairs that stand there as often as is asked for, as they are ranked
abbrev pub candidates_of : (left least : ℕ) → List Pair → List Weighed
candidates_of left least [] = []
candidates_of left least (pair ∷ pairs) = if nat_le least pair.both then weighed_of left pair ∷ candidates_of left least pairs else candidates_of left least pairs

-- both numbers of the fraction are sums of two counts of 64 bits
pub record IsSmall (word : Weighed) : Type 0 where
  pub part : word.part < 2 ^ 65
  pub whole : word.less_one + 1 < 2 ^ 65

-- a collocate as it is ranked
pub record IsCandidate (frequencies : Frequencies) (name lemma : List ℕ) (least : ℕ) (word : Weighed) : Type 0 where
  pub ranked : ranked_of word ≡ collocate_rank frequencies name lemma word.word
  pub is : IsCollocate frequencies name lemma least word.word
  pub within : word.part < 2 * (word.less_one + 1)
  pub small : IsSmall word

-- all collocates of a lemma in a relation, in any order
pub record AreCandidates (frequencies : Frequencies) (name lemma : List ℕ) (least : ℕ) (words : List Weighed) : Type 0 where
  pub distinct : AreDistinct words
  pub only : (word : Weighed) → Contains words word → IsCandidate frequencies name lemma least word
  pub each : (word : List ℕ) → IsCollocate frequencies name lemma least word → Contains (map (λ w. w.word) words) word

-- those that a sketch shows
pub record AreShown (frequencies : Frequencies) (name lemma : List ℕ) (least max : ℕ) (words : List Weighed) : Type 0 where
  pub first : FirstRanked (collocate_rank frequencies name lemma) (IsCollocate frequencies name lemma least) max (map (λ w. w.word) words)
  pub only : (word : Weighed) → Contains words word → IsCandidate frequencies name lemma least word

-- ## Lines

-- the fraction of a word has a score
pub record IsScored (word : Weighed) : Type 0 where
  pub some : 0 < word.part
  pub within : word.part < 2 * (word.less_one + 1)
  pub small : IsSmall word

-- the line of a word, which is ranked by twice its count
pub record IsLineOf (word : Weighed) (line : List ℕ) : Type 0 where
  pub score : ℤ
  pub scored : IsScore word.part (word.less_one + 1) score
  pub says : line ≡ 9 ∷ word.word ++ 9 ∷ decimal (word.part / 2) ++ 9 ∷ sixteenths_text score

-- the name of a relation, a tab, and how often the lemma stands in it
abbrev pub heading_text : Head → List ℕ
heading_text head = head.name ++ 9 ∷ decimal head.count

-- one line more is written, of which this holds
pub record AppendsLine (P : List ℕ → Type 0) (old new : List ℕ) : Type 0 where
  pub line : List ℕ
  pub is : P line
  pub more : new ≡ old ++ closed line

-- lines are written, of which this holds
pub record AppendsLines (P : List (List ℕ) → Type 0) (old new : List ℕ) : Type 0 where
  pub lines : List (List ℕ)
  pub are : P lines
  pub more : new ≡ old ++ flat_map closed lines

-- a line is written for each of these things
abbrev pub AppendsEach : {X : Type 0} → (X → List ℕ → Type 0) → List X → (old new : List ℕ) → Type 0
AppendsEach R xs old new = AppendsLines (AllZip R xs) old new

-- the bytes are the lines of the sketch
pub record IsSketchReply (images : Images) (registry : Registry) (grammar : Grammar) (corpus : List Text) (lemma : List ℕ) (least max : ℕ) (bytes : List ℕ) : Type 0 where
  pub lines : List (List ℕ)
  pub are : Sketch images registry grammar corpus lemma least max lines
  pub bytes_are : bytes ≡ flat_map closed lines
