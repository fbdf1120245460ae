-- Frequencies and collocations: how many spans have a value near them.
use Rattle.std.specs.Prelude.{ℕ, ◌≡◌, ◌+◌, ◌*◌, ◌<◌, ◌≤◌, ℤ, List, ◌∷◌, ◌++◌, length, map, count_by}
use Rattle.std.specs.List.{list_any, flat_map, range_with_len}
use Rattle.std.specs.Str.{bytes_eq}
use Rattle.std.specs.Fmt.{decimal}
use Rattle.std.specs.declared.cmp.Ordering.{Ordering}
use Rattle.std.specs.Ordering.{nat_cmp, ordering_then}
use Rattle.std.specs.Cmp.Lexicographic.{slice_cmp}
use Rattle.mt_text_spec.specs.Registries.{Registry}
use Rattle.mt_text_spec.specs.Texts.{Text, Span}
use Rattle.mt_match_spec.specs.Values.{Images, value_at}
use Rattle.mt_match_spec.specs.Rows.{ListsAll}
use Rattle.mt_sketch_spec.specs.Score.{IsScore, sixteenths_text}
use Rattle.mt_report_spec.specs.Near.{Near, in_window, near_begin, values_by}

-- how many of the spans have a value near them; one that has it at more places than one counts once
abbrev pub spans_with : Images → Registry → List Text → Near → List Span → (value : List ℕ) → ℕ
spans_with images registry corpus near spans value = count_by (λ span. list_any (bytes_eq value) (values_by images registry corpus near span)) spans

-- the value of each token of a text
abbrev pub token_values : Images → Registry → (attr : ℕ) → Text → List (List ℕ)
token_values images registry attr text = map (value_at images registry text attr) (range_with_len 0 (length text.tokens))

-- how many tokens of the corpus have a value
abbrev pub tokens_with : Images → Registry → List Text → (attr : ℕ) → (value : List ℕ) → ℕ
tokens_with images registry corpus attr value = count_by (bytes_eq value) (flat_map (token_values images registry attr) corpus)

-- the first line of a list: how many lines follow
abbrev pub number_line : ℕ → List ℕ
number_line count = 61 ∷ 32 ∷ decimal count

-- ## Frequencies

-- a value, and how many spans have it
pub record Frequency : Type 0 where
  pub value : List ℕ
  pub spans : ℕ

-- the most frequent value first, and values of one frequency by their bytes
abbrev pub frequency_cmp : Frequency → Frequency → Ordering
frequency_cmp one other = ordering_then (nat_cmp other.spans one.spans) (slice_cmp nat_cmp one.value other.value)

-- a value that some span has so far from its begin
pub record IsFrequency (images : Images) (registry : Registry) (corpus : List Text) (spans : List Span) (attr : ℕ) (distance : ℤ) (one : Frequency) : Type 0 where
  pub count : one.spans ≡ spans_with images registry corpus (near_begin attr distance) spans one.value
  pub some : 0 < one.spans

-- value and count, with a tab between
abbrev pub frequency_line : Frequency → List ℕ
frequency_line one = one.value ++ 9 ∷ decimal one.spans

-- the reply to `freq`: how many values there are, and each one's line
pub record FrequencyText (images : Images) (registry : Registry) (corpus : List Text) (spans : List Span) (attr : ℕ) (distance : ℤ) (lines : List (List ℕ)) : Type 0 where
  pub all : List Frequency
  pub are : ListsAll frequency_cmp (IsFrequency images registry corpus spans attr distance) all
  pub says : lines ≡ number_line (length all) ∷ map frequency_line all

-- ## Collocations

-- A value, how many spans have it in their windows, how many tokens have it, and its score.
pub record Collocate : Type 0 where
  pub value : List ℕ
  pub both : ℕ
  pub tokens : ℕ
  pub score : ℤ

-- The greatest fraction of `both` by the spans and the tokens first, compared exactly, and values of one fraction by their bytes. The score is that of twice this
-- fraction, and rounded, so it does not rank.
abbrev pub collocate_cmp : (spans : ℕ) → Collocate → Collocate → Ordering
collocate_cmp spans one other = ordering_then (nat_cmp (other.both * (spans + one.tokens)) (one.both * (spans + other.tokens))) (slice_cmp nat_cmp one.value other.value)

-- a value that as many spans as are asked for have in their windows, one at least
pub record IsCollocate (images : Images) (registry : Registry) (corpus : List Text) (spans : List Span) (attr : ℕ) (first last : ℤ) (least : ℕ) (one : Collocate) : Type 0 where
  pub count : one.both ≡ spans_with images registry corpus (in_window attr first last) spans one.value
  pub some : 0 < one.both
  pub enough : least ≤ one.both
  pub tokens_are : one.tokens ≡ tokens_with images registry corpus attr one.value
  pub scored : IsScore (2 * one.both) (length spans + one.tokens) one.score

-- value, spans, tokens and score, with a tab between each two
abbrev pub collocate_line : Collocate → List ℕ
collocate_line one = one.value ++ 9 ∷ decimal one.both ++ 9 ∷ decimal one.tokens ++ 9 ∷ sixteenths_text one.score

-- the reply to `colloc`: how many collocates there are, and each one's line
pub record CollocationText (images : Images) (registry : Registry) (corpus : List Text) (spans : List Span) (attr : ℕ) (first last : ℤ) (least : ℕ) (lines : List (List ℕ)) : Type 0 where
  pub all : List Collocate
  pub are : ListsAll (collocate_cmp (length spans)) (IsCollocate images registry corpus spans attr first last least) all
  pub says : lines ≡ number_line (length all) ∷ map collocate_line all
