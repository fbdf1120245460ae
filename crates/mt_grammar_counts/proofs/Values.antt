-- The values of a text, and the labels of its rows, as a collector is told them.
use Rattle.std.proofs.Common.{◌≡◌, ℕ, ◌+◌, ◌<◌, List, [], ◌∷◌, length, map, get_or, slice_get, sum, Option, None, Some, option_map, refl, sym, ◌∙◌, ap, ap₂, subst, arith}
use Rattle.std.proofs.lemmas.List.{get_or-map}
use Rattle.std.proofs.lemmas.List.Concat.{length-flat_map}
use Rattle.std.proofs.lemmas.List.Sums.{sum-map}
use Rattle.std.proofs.lemmas.Simd.{map-map}
use Rattle.std.proofs.lemmas.Option.{slice_get_within, get_or_from_slice_get, slice_get-map, slice_get-get_or}
use Rattle.mt_text_spec.specs.Registries.{Registry, column_of}
use Rattle.mt_text_spec.specs.Texts.{Text, Token, Row, value_of, tokens_of}
use Rattle.mt_text_spec.specs.Queries.{Query}
use Rattle.mt_match_spec.specs.Values.{Images, attr_at, token_at, value_at, value_by}
use Rattle.mt_segment_spec.specs.Tables as tables
use Rattle.mt_segment_spec.specs.Tables.{Tables, attr_value, attr_values, first_place, heads_of, number_at, tables_at, token_count}
use Rattle.mt_segment_laws.specs.Laws.{NumbersStandForValues, TokensStandInTexts}
use Rattle.mt_eval_spec.specs.Told.{told_value, told_tokens}
use Rattle.mt_eval_spec.specs.RowsIn.{KeptIn}
use Rattle.mt_eval_laws.specs.Laws.{LabelsAreInside}
use Rattle.mt_instances.specs.Collected.{Collected}
use Rattle.mt_instances.specs.Gains.{LabelsLie}
use Rattle.mt_instances.specs.Gathered.{IsText}
use Rattle.mt_grammar_counts.specs.Collecting.{Knows}
use Rattle.mt_grammar_counts.specs.Told.{Tells}
use Rattle.mt_grammar_counts.proofs.Alone.{alone_listed}

count_told : (corpus : List Text) (all : Tables) → all.texts ≡ heads_of corpus → token_count all ≡ length (tokens_of corpus)
count_told corpus all are =
    ap (λ (heads : List (List ℕ × ℕ)). sum (map (λ head. head.1) heads)) are
    ∙ ap sum (map-map (λ (head : List ℕ × ℕ). head.1) (λ (t : Text). (t.name, length t.tokens)) corpus)
    ∙ sum-map (λ (t : Text). length t.tokens) corpus ∙ sym (length-flat_map (λ (t : Text). t.tokens) corpus)

module _ (stand : NumbersStandForValues) (stand_in : TokensStandInTexts) (images : Images) (registry : Registry) (all : Tables) (number : ℕ) (text : Text) (tells : Tells images registry all number text) where
  -- the value of a token of the text, by either definition
  same_value : (token : Token) (place attr : ℕ) → token_at text place ≡ token → attr_value images registry attr token ≡ value_at images registry text attr place
  same_value token place attr is = by (attr_at registry attr).base refl
    where
      image : List ℕ → List ℕ
      image = images (attr_at registry attr).mapper

      own : Token → ℕ → List ℕ
      own one base = value_of one (column_of registry.attrs base)

      by : (base : Option ℕ) → (attr_at registry attr).base ≡ base → attr_value images registry attr token ≡ value_at images registry text attr place
      by None none = ap (tables.value_by image registry attr token) none ∙ ap (λ (t : Token). own t attr) (sym is) ∙ ap (value_by image (own (token_at text place)) attr) (sym none)
      by (Some base) some = ap (tables.value_by image registry attr token) some ∙ ap (λ (t : Token). image (own t base)) (sym is) ∙ ap (value_by image (own (token_at text place)) attr) (sym some)

  tokens_told : told_tokens all number ≡ length text.tokens
  tokens_told =
      ap (λ (heads : List (List ℕ × ℕ)). (get_or heads number ([], 0)).1) tells.tell.are.texts
      ∙ ap (λ (head : List ℕ × ℕ). head.1) (get_or-map (λ (t : Text). (t.name, length t.tokens)) tells.corpus number text ([], 0) (slice_get_within tells.corpus number text tells.there))
      ∙ ap (λ (t : Text). length t.tokens) (get_or_from_slice_get tells.corpus number text text tells.there)

  values_told : (attr place : ℕ) → attr < length registry.attrs → place < length text.tokens → told_value all attr (first_place all number + place) ≡ value_at images registry text attr place
  values_told attr place l inside =
      let corpus = tells.corpus in
      let tell = tells.tell in
      let token = get_or text.tokens place (record { values = [] }) in
      let at : slice_get (tokens_of corpus) (first_place all number + place) ≡ Some token =
      stand_in images registry corpus all tell.are number place text tells.there inside ∙ slice_get-get_or text.tokens place (record { values = [] }) inside in
      let within : first_place all number + place < length (tokens_of corpus) = slice_get_within (tokens_of corpus) (first_place all number + place) token at in
      let stands = stand images registry corpus all tell.registry_valid tell.are attr (first_place all number + place) (omega (arith, l, tell.are.attr_count)) (subst (λ n. first_place all number + place < n) (sym (count_told corpus all tell.are.texts)) within) in
      get_or_from_slice_get (tables_at all.attrs attr).lexicon (number_at all attr (first_place all number + place)) _ [] stands
      ∙ get_or_from_slice_get (attr_values images registry corpus attr) (first_place all number + place) (attr_value images registry attr token) []
      (slice_get-map (attr_value images registry attr) (tokens_of corpus) (first_place all number + place) ∙ ap (option_map (attr_value images registry attr)) at)
      ∙ same_value token place attr refl

  -- the numbers that are known are those of the text's values
  pub is_text : (collected : Collected) → Knows all registry.ws_attr number collected → IsText images registry text collected.lexicon collected.numbers
  is_text collected known = λ place l.
      let low : place < told_tokens all number = omega (arith, l, known.count) in
      sym
      (ap₂ (λ (lexicon : List (List ℕ)) (n : ℕ). get_or lexicon n []) known.lexicon (known.each place low)
      ∙ values_told registry.ws_attr place tells.tell.registry_valid.sketched (subst (λ n. place < n) tokens_told low))

-- each label of a row that is kept stands at a place of the text
pub labels_lie : LabelsAreInside → (all : Tables) (number : ℕ) (query : Query) (rows : List Row) (places : ℕ) → places ≡ told_tokens all number → KeptIn all (number ∷ []) query rows → LabelsLie rows places
labels_lie law all number query rows places count kept = λ row label place there set.
    let is_row = (kept.only row there).is_row in
    let inside = law all (number ∷ []) query.head row label place is_row set in
    let same = ap (told_tokens all) (alone_listed number row.span.text is_row.listed) in
    omega (arith, inside, same, count)
