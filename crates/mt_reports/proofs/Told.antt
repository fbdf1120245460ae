-- What the tables of a segment tell of a line is the line.
use Rattle.std.proofs.Common.{◌≡◌, ℕ, zero, suc, ◌+◌, ◌-◌, ◌<◌, ◌≤◌, min, List, [], ◌∷◌, ◌++◌, length, map, take, get_or, slice_get, sum, Option, None, Some, option_map, refl, sym, ◌∙◌, ap, subst, arith}
use Rattle.std.specs.Fmt.{decimal}
use Rattle.std.specs.List.{join_with_byte, range_with_len}
use Rattle.std.proofs.lemmas.List.{get_or-map}
use Rattle.std.proofs.lemmas.List.Concat.{length-flat_map}
use Rattle.std.proofs.lemmas.List.Sums.{sum-map, sum_by_more, count_by-le-length}
use Rattle.std.proofs.lemmas.Simd.{map-map}
use Rattle.std.proofs.lemmas.Option.{slice_get_within, get_or_from_slice_get, slice_get-map, slice_get-get_or}
use Rattle.mt_text_spec.specs.Registries.{Registry, ValidRegistry, column_of, is_base}
use Rattle.mt_text_spec.specs.Texts.{Text, Token, value_of, tokens_of}
use Rattle.mt_match_spec.specs.Values.{Images, attr_at, token_at, value_at, value_by}
use Rattle.mt_segment_spec.specs.Tables as tables
use Rattle.mt_segment_spec.specs.Tables.{Tables, AreTables, AreTablesOf, attr_value, attr_values, first_place, heads_of, number_at, tables_at, token_count}
use Rattle.mt_segment_laws.specs.Laws.{NumbersStandForValues, TokensStandInTexts}
use Rattle.mt_report_spec.specs.Lines.{context_tokens, line_by, shown_attr, text_line, values_text}
use Rattle.mt_reports.specs.Told.{told_line, told_tokens, told_value}

-- where a text ends
pub text_behind : (all : Tables) (number : ℕ) → number < length all.texts → first_place all (number + 1) ≡ first_place all number + told_tokens all number
text_behind all number l =
    sum-map (λ (head : List ℕ × ℕ). head.1) (take (number + 1) all.texts) ∙ sum_by_more (λ (head : List ℕ × ℕ). head.1) all.texts number ([], 0) l
    ∙ ap (λ n. n + told_tokens all number) (sym (sum-map (λ (head : List ℕ × ℕ). head.1) (take number all.texts)))

-- valid tables have an attribute
pub has_attr : (all : Tables) → AreTables all → 0 < length all.attrs
has_attr all are =
    omega (arith, are.under.by.valid.some, count_by-le-length is_base are.registry.attrs, are.under.by.are.attr_count)

count_told : (corpus : List Text) (all : Tables) → all.texts ≡ heads_of corpus → token_count all ≡ length (tokens_of corpus)
count_told corpus all are =
    ap (λ (heads : List (List ℕ × ℕ)). sum (map (λ head. head.1) heads)) are
    ∙ ap sum (map-map (λ (head : List ℕ × ℕ). head.1) (λ (t : Text). (t.name, length t.tokens)) corpus)
    ∙ sum-map (λ (t : Text). length t.tokens) corpus ∙ sym (length-flat_map (λ (t : Text). t.tokens) corpus)

same_values : (values others : ℕ → List ℕ) (from count : ℕ) → ((place : ℕ) → from ≤ place → place < from + count → values place ≡ others place) →
    map values (range_with_len from count) ≡ map others (range_with_len from count)
same_values values others from zero same = refl
same_values values others from (suc count) same =
    let here = same from (omega arith) (omega arith) in
    let rest = same_values values others (from + 1) count (λ place l m. same place (omega arith) (omega arith)) in
    cc

same_text : (values others : ℕ → List ℕ) (size : ℕ) → ((place : ℕ) → place < size → values place ≡ others place) → (from to : ℕ) → to ≤ size → values_text values from to ≡ values_text others from to
same_text values others size same from to l = ap join (same_values values others from (to - from) (λ place below above. same place (omega arith)))
  where
    join : List (List ℕ) → List ℕ
    join = join_with_byte 32

module _ (stand : NumbersStandForValues) (tokens : TokensStandInTexts) (images : Images) (registry : Registry) (corpus : List Text) (all : Tables) (valid : ValidRegistry registry)
    (are : AreTablesOf images registry corpus all) (number : ℕ) (text : Text) (there : slice_get corpus number ≡ Some text) where
  -- the value of a token, by either definition
  same_value : (token : Token) (place attr : ℕ) → token_at text place ≡ token → attr_value images registry attr token ≡ value_at images registry text attr place
  same_value token place attr is = by (attr_at registry attr).base refl
    where
      image : List ℕ → List ℕ
      image = images (attr_at registry attr).mapper

      own : Token → ℕ → List ℕ
      own one base = value_of one (column_of registry.attrs base)

      by : (base : Option ℕ) → (attr_at registry attr).base ≡ base → attr_value images registry attr token ≡ value_at images registry text attr place
      by None none = ap (tables.value_by image registry attr token) none ∙ ap (λ (t : Token). own t attr) (sym is) ∙ ap (value_by image (own (token_at text place)) attr) (sym none)
      by (Some base) some = ap (tables.value_by image registry attr token) some ∙ ap (λ (t : Token). image (own t base)) (sym is) ∙ ap (value_by image (own (token_at text place)) attr) (sym some)

  head_told : get_or all.texts number ([], 0) ≡ (text.name, length text.tokens)
  head_told =
      ap (λ (heads : List (List ℕ × ℕ)). get_or heads number ([], 0)) are.texts
      ∙ get_or-map (λ (t : Text). (t.name, length t.tokens)) corpus number text ([], 0) (slice_get_within corpus number text there)
      ∙ ap (λ (t : Text). (t.name, length t.tokens)) (get_or_from_slice_get corpus number text text there)

  pub tokens_told : told_tokens all number ≡ length text.tokens
  tokens_told = ap (λ (head : List ℕ × ℕ). head.1) head_told

  pub value_told : (attr place : ℕ) → attr < length registry.attrs → place < length text.tokens → told_value all attr (first_place all number + place) ≡ value_at images registry text attr place
  value_told attr place l inside =
      let token = get_or text.tokens place (record { values = [] }) in
      let at : slice_get (tokens_of corpus) (first_place all number + place) ≡ Some token =
      tokens images registry corpus all are number place text there inside ∙ slice_get-get_or text.tokens place (record { values = [] }) inside in
      let within : first_place all number + place < length (tokens_of corpus) = slice_get_within (tokens_of corpus) (first_place all number + place) token at in
      let stands = stand images registry corpus all valid are attr (first_place all number + place) (omega (arith, l, are.attr_count)) (subst (λ n. first_place all number + place < n) (sym (count_told corpus all are.texts)) within) in
      get_or_from_slice_get (tables_at all.attrs attr).lexicon (number_at all attr (first_place all number + place)) _ [] stands
      ∙ get_or_from_slice_get (attr_values images registry corpus attr) (first_place all number + place) (attr_value images registry attr token) []
      (slice_get-map (attr_value images registry attr) (tokens_of corpus) (first_place all number + place) ∙ ap (option_map (attr_value images registry attr)) at)
      ∙ same_value token place attr refl

  pub line_told : (begin end : ℕ) → begin ≤ end → end ≤ told_tokens all number → told_line all number begin end ≡ text_line images registry text begin end
  line_told begin end order inside =
      let values = λ (place : ℕ). told_value all shown_attr (first_place all number + place) in
      let others = λ (place : ℕ). value_at images registry text shown_attr place in
      let some : shown_attr < length registry.attrs = omega (arith, valid.some, count_by-le-length is_base registry.attrs) in
      let same = λ (place : ℕ) (l : place < length text.tokens). value_told shown_attr place some l in
      let before = same_text values others (length text.tokens) same (begin - context_tokens) begin (omega (arith, tokens_told)) in
      let own = same_text values others (length text.tokens) same begin end (omega (arith, tokens_told)) in
      let behind = same_text values others (length text.tokens) same end (min (end + context_tokens) (length text.tokens)) (omega arith) in
      ap (λ (head : List ℕ × ℕ). line_by head.0 head.1 values begin end) head_told
      ∙ ap (λ (part : List ℕ). head begin end ++ 9 ∷ part ++ 9 ∷ values_text values begin end ++ 9 ∷ values_text values end (min (end + context_tokens) (length text.tokens))) before
      ∙ ap (λ (part : List ℕ). head begin end ++ 9 ∷ values_text others (begin - context_tokens) begin ++ 9 ∷ part ++ 9 ∷ values_text values end (min (end + context_tokens) (length text.tokens))) own
      ∙ ap (λ (part : List ℕ). head begin end ++ 9 ∷ values_text others (begin - context_tokens) begin ++ 9 ∷ values_text others begin end ++ 9 ∷ part) behind
    where
      head : ℕ → ℕ → List ℕ
      head begin end = text.name ++ 58 ∷ decimal begin ++ 58 ∷ decimal (end - begin)
