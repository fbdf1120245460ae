-- The values that stand at a place of the base attributes are those of the token there.
use Rattle.std.proofs.Common.{◌≡◌, ℕ, zero, suc, ◌+◌, ◌<◌, cond, List, [], ◌∷◌, ◌++◌, length, map, sum, take, drop, get_or, slice_get, is_none, Option, None, Some, option_map, refl, sym, ◌∙◌, ap, arith}
use Rattle.std.specs.List.{range_with_len}
use Rattle.std.proofs.lemmas.List.{append-nil, append_assoc, drop_all, drop_more, get_or_at, length-append, length_push, same_lists, take_at}
use Rattle.std.proofs.lemmas.List.Sums.{sum-map, sum_by-append, sum_by_push, sum_by-cons}
use Rattle.std.proofs.lemmas.List.FromFn.{length-map-range_with_len, get_or-map-range_with_len}
use Rattle.std.proofs.lemmas.Option.{slice_get-get_or, slice_get_within, get_or_from_slice_get, slice_get-map}
use Rattle.mt_text_spec.specs.Registries.{Registry, Attr, base_attr, base_count, column_of, is_base}
use Rattle.mt_text_spec.specs.Texts.{Text, Token, ValidText, value_of, tokens_of}
use Rattle.mt_segment_spec.specs.Tables.{Tables, AreTablesOf, attr_at, attr_value, attr_values, first_place, heads_of, number_by, tables_at, value_by}
use Rattle.mt_decode_laws.proofs.Gets.{slice_get_left, slice_get_right}
use Rattle.mt_corpus_spec.specs.Decoded.{token_in, value_in, values_in}

-- ---- the values of a token

module _ (tables : Tables) (place : ℕ) (all : List Attr) (values : List (List ℕ)) (known : (number : ℕ) → number < length all → (get_or all number (base_attr [])).base ≡ None → value_in tables number place ≡ get_or values (column_of all number) [])
    (long : length values ≡ base_count all) where
  -- from one attribute on, the values are those from its column on
  from : (attrs before : List Attr) (number column : ℕ) → all ≡ before ++ attrs → number ≡ length before → column ≡ base_count before → values_in tables place number attrs ≡ drop column values
  from [] before number column split n c =
      let whole : all ≡ before = split ∙ append-nil before in
      sym (drop_all column values (omega (arith, long, c, ap base_count whole)))
  from (attr ∷ attrs) before number column split n c = by (from attrs (before ++ attr ∷ []) (number + 1) (column + 1) next longer) (from attrs (before ++ attr ∷ []) (number + 1) column next longer) attr.base refl
    where
      next : all ≡ (before ++ attr ∷ []) ++ attrs
      next = split ∙ sym (append_assoc before (attr ∷ []) attrs)

      longer : number + 1 ≡ length (before ++ attr ∷ [])
      longer = omega (arith, length_push before attr, n)

      count : base_count (before ++ attr ∷ []) ≡ base_count before + cond (is_base attr) 1 0
      count = sum_by_push (λ (a : Attr). cond (is_base a) 1 0) before attr

      here : get_or all number (base_attr []) ≡ attr
      here = ap (λ (some : List Attr). get_or some number (base_attr [])) split ∙ get_or_at before attr attrs (base_attr []) number (sym n)

      within : number < length all
      within = omega (arith, ap length next, longer, length-append (before ++ attr ∷ []) attrs)

      columns : column_of all number ≡ column
      columns = ap (λ (some : List Attr). base_count (take number some)) split ∙ ap base_count (take_at before (attr ∷ attrs) number (sym n)) ∙ sym c

      by : (column + 1 ≡ base_count (before ++ attr ∷ []) → values_in tables place (number + 1) attrs ≡ drop (column + 1) values) → (column ≡ base_count (before ++ attr ∷ []) → values_in tables place (number + 1) attrs ≡ drop column values) →
          (base : Option ℕ) → attr.base ≡ base → values_in tables place number (attr ∷ attrs) ≡ drop column values
      by own other None none =
          let one : base_count (before ++ attr ∷ []) ≡ column + 1 = count ∙ ap (λ (o : Option ℕ). base_count before + cond (is_none o) 1 0) none ∙ omega (arith, c) in
          let value : value_in tables number place ≡ get_or values column [] = known number within (ap (λ (a : Attr). a.base) here ∙ none) ∙ ap (λ k. get_or values k []) columns in
          let few : column < length values = omega (arith, long, ap base_count next, sum_by-append (λ (a : Attr). cond (is_base a) 1 0) (before ++ attr ∷ []) attrs, one) in
          ap (λ (o : Option ℕ). cond (is_none o) (value_in tables number place ∷ values_in tables place (number + 1) attrs) (values_in tables place (number + 1) attrs)) none
          ∙ ap (λ (v : List ℕ). v ∷ values_in tables place (number + 1) attrs) value ∙ ap (λ (vs : List (List ℕ)). get_or values column [] ∷ vs) (own (sym one)) ∙ sym (drop_more values column [] few)
      by own other (Some b) some =
          let none_more : base_count (before ++ attr ∷ []) ≡ column = count ∙ ap (λ (o : Option ℕ). base_count before + cond (is_none o) 1 0) some ∙ omega (arith, c) in
          ap (λ (o : Option ℕ). cond (is_none o) (value_in tables number place ∷ values_in tables place (number + 1) attrs) (values_in tables place (number + 1) attrs)) some ∙ other (sym none_more)

  pub values_are : values_in tables place 0 all ≡ values
  values_are = from all [] 0 0 refl refl refl

-- ---- tokens of texts

abbrev tokens_in : List ℕ × ℕ → ℕ
tokens_in head = head.1

-- the token with a number in a text stands so far behind the text's first place
stands : (corpus : List Text) (number token : ℕ) (text : Text) → slice_get corpus number ≡ Some text → token < length text.tokens →
    slice_get (tokens_of corpus) (sum (map tokens_in (take number (heads_of corpus))) + token) ≡ slice_get text.tokens token
stands [] number token text e l = cc
stands (first ∷ corpus) zero token text e l =
    let same : first ≡ text = cc in
    let long : length first.tokens ≡ length text.tokens = ap (λ (t : Text). length t.tokens) same in
    let none : 0 + token ≡ token = omega arith in
    ap (slice_get (tokens_of (first ∷ corpus))) none ∙ slice_get_left first.tokens (tokens_of corpus) token (omega (arith, long)) ∙ ap (λ (t : Text). slice_get t.tokens token) same
stands (first ∷ corpus) (suc number) token text e l =
    let heads = take number (heads_of corpus) in
    let before = sum (map tokens_in heads) in
    let all = sum (map tokens_in (take (suc number) (heads_of (first ∷ corpus)))) in
    let more : all + token ≡ length first.tokens + (before + token) =
    omega (arith, sum-map tokens_in ((first.name, length first.tokens) ∷ heads), sum_by-cons tokens_in (first.name, length first.tokens) heads, sum-map tokens_in heads) in
    ap (slice_get (tokens_of (first ∷ corpus))) more ∙ slice_get_right first.tokens (tokens_of corpus) (before + token) ∙ stands corpus number token text e l

module _ (images : List ℕ → List ℕ → List ℕ) (registry : Registry) (corpus : List Text) (tables : Tables) (are : AreTablesOf images registry corpus tables) where
  module _ (number : ℕ) (text : Text) (there : slice_get corpus number ≡ Some text) (valid : ValidText registry text) where
    at : (token : ℕ) → token < length text.tokens → slice_get (tokens_of corpus) (first_place tables number + token) ≡ slice_get text.tokens token
    at token l = ap (λ (heads : List (List ℕ × ℕ)). slice_get (tokens_of corpus) (sum (map tokens_in (take number heads)) + token)) are.texts ∙ stands corpus number token text there l

    -- the value of a base attribute
    own_value : (token attr : ℕ) (d : Token) → token < length text.tokens → attr < length registry.attrs → (attr_at registry attr).base ≡ None →
        value_in tables attr (first_place tables number + token) ≡ value_of (get_or text.tokens token d) (column_of registry.attrs attr)
    own_value token attr d l m none =
        let place = first_place tables number + token in
        let one = get_or text.tokens token d in
        let base = are.bases attr m none in
        let here : slice_get (tokens_of corpus) place ≡ Some one = at token l ∙ slice_get-get_or text.tokens token d l in
        let value : slice_get (attr_values images registry corpus attr) place ≡ Some (attr_value images registry attr one) =
        slice_get-map (attr_value images registry attr) (tokens_of corpus) place ∙ ap (option_map (attr_value images registry attr)) here in
        let within : place < length (attr_values images registry corpus attr) = slice_get_within (attr_values images registry corpus attr) place (attr_value images registry attr one) value in
        ap (λ (o : Option ℕ). get_or (tables_at tables.attrs attr).lexicon (number_by (tables_at tables.attrs attr).numbers tables.attrs place o) []) base.unmapped
        ∙ get_or_from_slice_get (tables_at tables.attrs attr).lexicon (get_or (tables_at tables.attrs attr).numbers place 0) (attr_value images registry attr one) [] (base.numbers.same place within ∙ value)
        ∙ ap (value_by (images (attr_at registry attr).mapper) registry attr one) none

    token_is : (token : ℕ) (d : Token) → token < length text.tokens → token_in registry tables (first_place tables number + token) ≡ get_or text.tokens token d
    token_is token d l =
        let one = get_or text.tokens token d in
        ap (λ (vs : List (List ℕ)). let t : Token = record { values = vs } in t)
        (values_are tables (first_place tables number + token) registry.attrs one.values (λ attr m none. own_value token attr d l m none) (valid.tokens token d l).count)

    pub tokens_are : (many : ℕ) → many ≡ length text.tokens → map (token_in registry tables) (range_with_len (first_place tables number) many) ≡ text.tokens
    tokens_are many long =
        let first = first_place tables number in
        let count : length (map (token_in registry tables) (range_with_len first many)) ≡ many = length-map-range_with_len (token_in registry tables) first many in
        same_lists (map (token_in registry tables) (range_with_len first many)) text.tokens (count ∙ long) (λ k d l.
        get_or-map-range_with_len (token_in registry tables) first many k (first + k) d (omega (arith, count)) refl ∙ token_is k d (omega (arith, count, long)))
