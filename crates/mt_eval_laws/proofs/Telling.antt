-- What tables tell of a text is what stands in it.
use Rattle.std.proofs.Common.{◌≡◌, ℕ, ◌+◌, ◌<◌, List, [], length, map, get_or, slice_get, sum, Option, None, Some, option_map, true, refl, sym, ◌∙◌, ap, subst, arith}
use Rattle.std.specs.List.{Contains, filter}
use Rattle.std.proofs.lemmas.Bool.Decides.{nat_tests}
use Rattle.std.proofs.lemmas.List.{length-map, get_or-map}
use Rattle.std.proofs.lemmas.List.Concat.{length-flat_map}
use Rattle.std.proofs.lemmas.List.Sums.{sum-map}
use Rattle.std.proofs.lemmas.Simd.{map-map}
use Rattle.std.proofs.lemmas.Option.{slice_get_within, get_or_from_slice_get, slice_get-map, slice_get-get_or}
use Rattle.mt_text_spec.specs.Registries.{Registry, Attr, attr_names, column_of}
use Rattle.mt_text_spec.specs.Texts.{Text, Token, StructSpan, value_of, tokens_of}
use Rattle.mt_text_spec.specs.Queries.{Test}
use Rattle.mt_query_spec.specs.Valid.{ValidMaybe}
use Rattle.mt_match_spec.specs.Values.{attr_at, token_at, value_at, value_by}
use Rattle.mt_match_spec.specs.Matches.{sight}
use Rattle.mt_segment_spec.specs.Tables as tables
use Rattle.mt_segment_spec.specs.Tables.{Tables, AreTablesOf, attr_value, attr_values, first_place, heads_of, is_of_kind, number_at, tables_at, token_count}
use Rattle.mt_segment_laws.specs.Laws.{NumbersStandForValues, TokensStandInTexts, InstancesLieInTexts}
use Rattle.mt_eval_spec.specs.Told.{told, told_value, told_tokens, told_spans}
use Rattle.mt_eval_laws.specs.Laws.{Tell}
use Rattle.mt_eval_laws.proofs.Members.{was_member, passes, is_member}
use Rattle.mt_eval_laws.proofs.Tests.{GiveSame, holds_too}
use Rattle.mt_eval_laws.proofs.Sights.{SeesAll}

count_told : (corpus : List Text) (all : Tables) → all.texts ≡ heads_of corpus → token_count all ≡ length (tokens_of corpus)
count_told corpus all are =
    ap (λ (heads : List (List ℕ × ℕ)). sum (map (λ head. head.1) heads)) are
    ∙ ap sum (map-map (λ (head : List ℕ × ℕ). head.1) (λ (t : Text). (t.name, length t.tokens)) corpus)
    ∙ sum-map (λ (t : Text). length t.tokens) corpus ∙ sym (length-flat_map (λ (t : Text). t.tokens) corpus)

-- the laws of tables that are used
pub record Given : Type 0 where
  pub stand : NumbersStandForValues
  pub tokens : TokensStandInTexts
  pub instances : InstancesLieInTexts

module _ (given : Given) (images : List ℕ → List ℕ → List ℕ) (registry : Registry) (corpus : List Text) (all : Tables) (tell : Tell images registry corpus all) where
  -- the value of a token of the corpus, by either definition
  same_value : (text : Text) (token : Token) (place attr : ℕ) → token_at text place ≡ token → attr_value images registry attr token ≡ value_at images registry text attr place
  same_value text token place attr is = by (attr_at registry attr).base refl
    where
      image : List ℕ → List ℕ
      image = images (attr_at registry attr).mapper

      own : Token → ℕ → List ℕ
      own one base = value_of one (column_of registry.attrs base)

      by : (base : Option ℕ) → (attr_at registry attr).base ≡ base → attr_value images registry attr token ≡ value_at images registry text attr place
      by None none = ap (tables.value_by image registry attr token) none ∙ ap (λ (t : Token). own t attr) (sym is) ∙ ap (value_by image (own (token_at text place)) attr) (sym none)
      by (Some base) some = ap (tables.value_by image registry attr token) some ∙ ap (λ (t : Token). image (own t base)) (sym is) ∙ ap (value_by image (own (token_at text place)) attr) (sym some)

  module _ (number : ℕ) (text : Text) (there : slice_get corpus number ≡ Some text) where
    pub tokens_told : told_tokens all number ≡ length text.tokens
    tokens_told =
        ap (λ (heads : List (List ℕ × ℕ)). (get_or heads number ([], 0)).1) tell.are.texts
        ∙ ap (λ (head : List ℕ × ℕ). head.1) (get_or-map (λ (t : Text). (t.name, length t.tokens)) corpus number text ([], 0) (slice_get_within corpus number text there))
        ∙ ap (λ (t : Text). length t.tokens) (get_or_from_slice_get corpus number text text there)

    pub values_told : (attr place : ℕ) → attr < length registry.attrs → place < length text.tokens → told_value all attr (first_place all number + place) ≡ value_at images registry text attr place
    values_told attr place l inside =
        let token = get_or text.tokens place (record { values = [] }) in
        let at : slice_get (tokens_of corpus) (first_place all number + place) ≡ Some token =
        given.tokens images registry corpus all tell.are number place text there inside ∙ slice_get-get_or text.tokens place (record { values = [] }) inside in
        let within : first_place all number + place < length (tokens_of corpus) = slice_get_within (tokens_of corpus) (first_place all number + place) token at in
        let stands = given.stand images registry corpus all tell.registry_valid tell.are attr (first_place all number + place) (omega (arith, l, tell.are.attr_count)) (subst (λ n. first_place all number + place < n) (sym (count_told corpus all tell.are.texts)) within) in
        get_or_from_slice_get (tables_at all.attrs attr).lexicon (number_at all attr (first_place all number + place)) _ [] stands
        ∙ get_or_from_slice_get (attr_values images registry corpus attr) (first_place all number + place) (attr_value images registry attr token) []
        (slice_get-map (attr_value images registry attr) (tokens_of corpus) (first_place all number + place) ∙ ap (option_map (attr_value images registry attr)) at)
        ∙ same_value text token place attr refl

    spans_told : (kind : ℕ) → kind < length registry.kinds → told_spans all kind number ≡ filter (is_of_kind kind) text.structs
    spans_told kind l = (given.instances images registry corpus all tell.valid tell.are kind number text (omega (arith, l, tell.are.kind_count)) there).are

    of_kind : (kind : ℕ) (span : StructSpan) → is_of_kind kind span ≡ true → span.kind ≡ kind
    of_kind kind span e = grind (arith, nat_tests)

    is_kind : (kind : ℕ) (span : StructSpan) → span.kind ≡ kind → is_of_kind kind span ≡ true
    is_kind kind span e = grind (arith, nat_tests)

    told_holds : (test : Test) (place : ℕ) → ValidMaybe (attr_names registry.attrs) test → place < length text.tokens → GiveSame (attr_names registry.attrs) (λ attr. told_value all attr (first_place all number + place)) (λ attr. value_at images registry text attr place)
    told_holds test place v inside attr l = values_told attr place (omega (arith, l, length-map registry.attrs (λ (a : Attr). a.name))) inside

    pub sees : SeesAll registry (told all number) (sight images registry text)
    sees = record {
      tokens = tokens_told;
      holds = λ test place v inside h. holds_too (attr_names registry.attrs) test _ _ v (told_holds test place v (omega (arith, inside, tokens_told))) h;
      lies = λ kind test begin end l i. record {
        span = i.span;
        there = was_member (is_of_kind kind) text.structs i.span (subst (λ (spans : List StructSpan). Contains spans i.span) (spans_told kind l) i.there);
        kind_is = of_kind kind i.span (passes (is_of_kind kind) text.structs i.span (subst (λ (spans : List StructSpan). Contains spans i.span) (spans_told kind l) i.there));
        begins = i.begins;
        ends = i.ends;
        holds = i.holds;
      };
    }

    pub seen : SeesAll registry (sight images registry text) (told all number)
    seen = record {
      tokens = sym tokens_told;
      holds = λ test place v inside h. holds_too (attr_names registry.attrs) test _ _ v (λ attr l. sym (told_holds test place v inside attr l)) h;
      lies = λ kind test begin end l i. record {
        span = i.span;
        there = subst (λ (spans : List StructSpan). Contains spans i.span) (sym (spans_told kind l)) (is_member (is_of_kind kind) text.structs i.span i.there (is_kind kind i.span i.kind_is));
        begins = i.begins;
        ends = i.ends;
        holds = i.holds;
      };
    }
