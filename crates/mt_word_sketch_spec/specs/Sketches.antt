-- The reply to `sketch`: the relations of a lemma, with what stands beside it there.
use Rattle.std.specs.Prelude.{ℕ, ◌≡◌, ◌+◌, ◌*◌, ◌<◌, ◌≤◌, ℤ, Bool, true, false, if◌then◌else◌, List, [], ◌∷◌, ◌++◌, length, codes}
use Rattle.std.specs.List.{AllZip, flat_map}
use Rattle.std.specs.Fmt.{decimal}
use Rattle.std.specs.declared.cmp.Ordering.{Ordering}
use Rattle.std.specs.Ordering.{nat_cmp, bool_cmp, on, then_cmp}
use Rattle.std.specs.Cmp.Lexicographic.{slice_cmp}
use Rattle.mt_text_spec.specs.Registries.{Registry}
use Rattle.mt_text_spec.specs.Texts.{Text}
use Rattle.mt_text_spec.specs.Queries.{Grammar}
use Rattle.mt_match_spec.specs.Values.{Images}
use Rattle.mt_match_spec.specs.Rows.{ListsAll}
use Rattle.mt_sketch_spec.specs.Score.{IsScore, sixteenths_text}
use Rattle.mt_word_sketch_spec.specs.Ranks.{Ranked, FirstRanked, number_line}
use Rattle.mt_word_sketch_spec.specs.Frequencies.{Frequencies, AreFrequencies}

-- ## The relations of a lemma

-- a relation, by its name and by whether it is unary
pub record Heading : Type 0 where
  pub name : List ℕ
  pub unary : Bool

-- by name, and the binary one before the unary one of the same name
abbrev pub heading_cmp : Heading → Heading → Ordering
heading_cmp = then_cmp (on (λ h. h.name) (slice_cmp nat_cmp)) (on (λ h. h.unary) bool_cmp)

-- how often the lemma stands in it: with any second word, or alone
abbrev pub heading_count : Frequencies → (lemma : List ℕ) → Heading → ℕ
heading_count f lemma heading = if heading.unary then f.alone heading.name lemma else f.first heading.name lemma

-- the lemma stands in it
abbrev pub IsHeading : Frequencies → (lemma : List ℕ) → Heading → Type 0
IsHeading f lemma heading = 0 < heading_count f lemma heading

-- the line of a relation: its name, how often the lemma stands in it, and what is said last, with a tab between each two
abbrev pub heading_line : Frequencies → (lemma : List ℕ) → Heading → (last : List ℕ) → List ℕ
heading_line f lemma heading last = heading.name ++ 9 ∷ decimal (heading_count f lemma heading) ++ 9 ∷ last

-- ## What stands beside it in a binary relation

-- the word stands second with the lemma as often as is asked for, once at least
pub record IsCollocate (f : Frequencies) (name lemma : List ℕ) (least : ℕ) (word : List ℕ) : Type 0 where
  pub some : 0 < f.both name lemma word
  pub enough : least ≤ f.both name lemma word

-- how often the lemma and how often the word stand at their places of this relation, added up
abbrev pub apart : Frequencies → (name lemma word : List ℕ) → ℕ
apart f name lemma word = f.first name lemma + f.second name word

-- a collocate is ranked by twice how often both stand there together, of how often each does by itself
abbrev pub collocate_rank : Frequencies → (name lemma word : List ℕ) → Ranked
collocate_rank f name lemma word = record { word = word; part = 2 * f.both name lemma word; whole = apart f name lemma word }

-- the line of a collocate: a tab, the word, how often it stands with the lemma, and the score of this fraction, which is rounded and does not rank
pub record IsCollocateLine (f : Frequencies) (name lemma word line : List ℕ) : Type 0 where
  pub score : ℤ
  pub scored : IsScore (2 * f.both name lemma word) (apart f name lemma word) score
  pub says : line ≡ 9 ∷ word ++ 9 ∷ decimal (f.both name lemma word) ++ 9 ∷ sixteenths_text score

-- the lines of a binary relation: its own one tells how many collocates are shown, and theirs follow
pub record BinaryLines (f : Frequencies) (lemma : List ℕ) (least max : ℕ) (heading : Heading) (lines : List (List ℕ)) : Type 0 where
  pub shown : List (List ℕ)
  pub first : FirstRanked (collocate_rank f heading.name lemma) (IsCollocate f heading.name lemma least) max shown
  pub below : List (List ℕ)
  pub each : AllZip (IsCollocateLine f heading.name lemma) shown below
  pub say : lines ≡ heading_line f lemma heading (decimal (length shown)) ∷ below

-- ## The whole reply

-- the lines of a relation; a unary one has one line
abbrev pub LinesBy : (unary : Bool) → Frequencies → (lemma : List ℕ) → (least max : ℕ) → Heading → List (List ℕ) → Type 0
LinesBy true f lemma least max heading lines = lines ≡ heading_line f lemma heading (codes "unary") ∷ []
LinesBy false f lemma least max heading lines = BinaryLines f lemma least max heading lines

-- the same, by whether the relation is unary
abbrev pub RelationLines : Frequencies → (lemma : List ℕ) → (least max : ℕ) → Heading → List (List ℕ) → Type 0
RelationLines f lemma least max heading lines = LinesBy heading.unary f lemma least max heading lines

-- how many relations the lemma has, and then the lines of each
pub record SketchText (f : Frequencies) (lemma : List ℕ) (least max : ℕ) (lines : List (List ℕ)) : Type 0 where
  pub headings : List Heading
  pub are : ListsAll heading_cmp (IsHeading f lemma) headings
  pub blocks : List (List (List ℕ))
  pub each : AllZip (RelationLines f lemma least max) headings blocks
  pub say : lines ≡ number_line (length headings) ∷ flat_map (λ block. block) blocks

-- the reply to `sketch` over these texts under a grammar
pub record Sketch (images : Images) (registry : Registry) (grammar : Grammar) (corpus : List Text) (lemma : List ℕ) (least max : ℕ) (lines : List (List ℕ)) : Type 0 where
  pub frequencies : Frequencies
  pub are : AreFrequencies images registry grammar corpus frequencies
  pub text : SketchText frequencies lemma least max lines
