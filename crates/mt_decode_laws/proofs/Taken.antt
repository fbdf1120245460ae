-- Tables that are made by some images are made by any others that agree with the images that the tables have.
use Rattle.std.proofs.Common.{◌≡◌, ℕ, zero, suc, ◌+◌, ◌<◌, ◌≤◌, List, [], ◌++◌, length, length-append, map, get_or, slice_get, Option, None, Some, option_map, refl, sym, ◌∙◌, ap, subst, arith, ◌⊎◌, inl, inr}
use Rattle.std.specs.List.{All, Contains, flat_map, range_with_len}
use Rattle.std.proofs.lemmas.Bool.{cases_order}
use Rattle.std.proofs.lemmas.List.{get_or-append-add, get_or-map, get_or_append_left, get_or_default, length-map, same_lists}
use Rattle.std.proofs.lemmas.List.Elements.{All-append, All-nil}
use Rattle.std.proofs.lemmas.List.FromFn.{length-map-range_with_len, get_or-map-range_with_len}
use Rattle.std.proofs.lemmas.Option.{slice_get-get_or, slice_get_within, get_or_from_slice_get, slice_get-map}
use Rattle.mt_text_spec.specs.Registries.{Registry, ValidRegistry, ValidAttr, IsBaseAt, Attr, base_attr, column_of}
use Rattle.mt_text_spec.specs.Texts.{Text, Token, value_of, tokens_of}
use Rattle.mt_store_spec.specs.Lexicons.{Renumbers}
use Rattle.mt_segment_spec.specs.Tables.{Tables, AreBaseTables, AreTablesOf, HaveValues, attr_at, attr_values, tables_at, value_by}
use Rattle.mt_corpus_spec.specs.Images.{Image, AreImagesBy}
use Rattle.mt_corpus_spec.specs.Decoded.{attr_images, image_in, images_at, images_in}
use Rattle.mt_decode_laws.specs.Laws.{ImagesAreDecoded}

-- ---- what holds of all parts

module _ {X : Type 0} (P : X → Type 0) where
  left_part : (xs ys : List X) → All P (xs ++ ys) → All P xs
  left_part xs ys h = λ k d l. subst P (get_or_append_left xs ys d k l) (h k d (omega (arith, l, length-append xs ys)))

  right_part : (xs ys : List X) → All P (xs ++ ys) → All P ys
  right_part xs ys h = λ k d l. subst P (get_or-append-add xs ys k d) (h (length xs + k) d (omega (arith, l, length-append xs ys)))

  all_made : (f : ℕ → List X) (first many : ℕ) → ((k : ℕ) → first ≤ k → k < first + many → All P (f k)) → All P (flat_map f (range_with_len first many))
  all_made f first zero h = All-nil P
  all_made f first (suc many) h = All-append P (f first) (flat_map f (range_with_len (first + 1) many)) (h first (omega arith) (omega arith)) (all_made f (first + 1) many (λ k l m. h k (omega arith) (omega (arith, m))))

  one_made : (f : ℕ → List X) (first many : ℕ) → All P (flat_map f (range_with_len first many)) → (k : ℕ) → first ≤ k → k < first + many → All P (f k)
  one_made f first zero h k l m = absurd (omega (arith, l, m))
  one_made f first (suc many) h k l m = by (cases_order k first) (λ (n : first < k). one_made f (first + 1) many (right_part (f first) (flat_map f (range_with_len (first + 1) many)) h) k (omega arith) (omega (arith, m)))
    where
      by : (k ≡ first) ⊎ ((k < first) ⊎ (first < k)) → (first < k → All P (f k)) → All P (f k)
      by (inl e) next = subst (λ n. All P (f n)) (sym e) (left_part (f first) (flat_map f (range_with_len (first + 1) many)) h)
      by (inr (inl n)) next = absurd (omega (arith, l, n))
      by (inr (inr n)) next = next n

  each_made : (f : ℕ → X) (many : ℕ) → ((k : ℕ) → k < many → P (f k)) → All P (map f (range_with_len 0 many))
  each_made f many h = λ k d l.
      let low : k < many = omega (arith, l, length-map-range_with_len f 0 many) in
      subst P (sym (get_or-map-range_with_len f 0 many k k d low (omega arith))) (h k low)

  made_each : (f : ℕ → X) (many : ℕ) → All P (map f (range_with_len 0 many)) → (k : ℕ) → k < many → P (f k)
  made_each f many h k l = subst P (get_or-map-range_with_len f 0 many k k (f k) l (omega arith)) (h k (f k) (omega (arith, l, length-map-range_with_len f 0 many)))

-- ---- registries

base_is : (registry : Registry) → ValidRegistry registry → (number base : ℕ) → number < length registry.attrs → (attr_at registry number).base ≡ Some base → (base < length registry.attrs) × ((attr_at registry base).base ≡ None)
base_is registry valid number base l some =
    let its : ValidAttr registry.attrs (attr_at registry number) = valid.attrs number (base_attr []) l in
    let is : IsBaseAt registry.attrs base = its.based base some in
    (slice_get_within registry.attrs base is.attr is.there, ap (λ (a : Attr). a.base) (get_or_from_slice_get registry.attrs base is.attr (base_attr []) is.there) ∙ is.base)

-- ---- images

abbrev Is : (images : List ℕ → List ℕ → List ℕ) → Image → Type 0
Is images each = images each.mapper each.value ≡ each.image

module _ (images : List ℕ → List ℕ → List ℕ) (registry : Registry) (corpus : List Text) (tables : Tables) (valid : ValidRegistry registry) (are : AreTablesOf images registry corpus tables) where
  own_at : (number : ℕ) → number < length registry.attrs → (base : Option ℕ) → (attr_at registry number).base ≡ base → All (Is images) (attr_images tables (tables_at tables.attrs number) (attr_at registry number).mapper base)
  own_at number l None none = All-nil (Is images)
  own_at number l (Some base) some =
      let mapper = (attr_at registry number).mapper in
      let mapped = tables_at tables.attrs number in
      let under = tables_at tables.attrs base in
      each_made (Is images) (image_in mapper under mapped) (length under.lexicon) (λ k low.
      let numbers = (are.mapped number base l some).numbers in
      let value : slice_get (map (images mapper) under.lexicon) k ≡ Some (images mapper (get_or under.lexicon k [])) =
      slice_get-map (images mapper) under.lexicon k ∙ ap (option_map (images mapper)) (slice_get-get_or under.lexicon k [] low) in
      sym (get_or_from_slice_get mapped.lexicon (get_or mapped.numbers k 0) (images mapper (get_or under.lexicon k [])) [] (numbers.same k (omega (arith, low, length-map under.lexicon (images mapper))) ∙ value)))

  own : AreImagesBy images (images_in registry tables)
  unfolding images_in
  own = all_made (Is images) (images_at registry tables) 0 (length registry.attrs) (λ k l m. own_at k (omega (arith, m)) (attr_at registry k).base refl)

  module _ (more : List ℕ → List ℕ → List ℕ) (agree : AreImagesBy more (images_in registry tables)) where
    agree_at : (number base : ℕ) → number < length registry.attrs → (attr_at registry number).base ≡ Some base →
        All (Is more) (attr_images tables (tables_at tables.attrs number) (attr_at registry number).mapper (Some base))
    unfolding images_in
    agree_at number base l some =
        subst (λ (o : Option ℕ). All (Is more) (attr_images tables (tables_at tables.attrs number) (attr_at registry number).mapper o)) some
        (one_made (Is more) (images_at registry tables) 0 (length registry.attrs) agree number (omega arith) (omega (arith, l)))

    -- both make the same of each value of the base
    same_image : (number base : ℕ) → number < length registry.attrs → (attr_at registry number).base ≡ Some base → (k : ℕ) → k < length (tables_at tables.attrs base).lexicon →
        more (attr_at registry number).mapper (get_or (tables_at tables.attrs base).lexicon k []) ≡ images (attr_at registry number).mapper (get_or (tables_at tables.attrs base).lexicon k [])
    same_image number base l some k low =
        let mapper = (attr_at registry number).mapper in
        let mapped = tables_at tables.attrs number in
        let under = tables_at tables.attrs base in
        made_each (Is more) (image_in mapper under mapped) (length under.lexicon) (agree_at number base l some) k low
        ∙ sym (made_each (Is images) (image_in mapper under mapped) (length under.lexicon) (own_at number l (Some base) some) k low)

    same_images : (number base : ℕ) → number < length registry.attrs → (attr_at registry number).base ≡ Some base →
        map (more (attr_at registry number).mapper) (tables_at tables.attrs base).lexicon ≡ map (images (attr_at registry number).mapper) (tables_at tables.attrs base).lexicon
    same_images number base l some =
        let mapper = (attr_at registry number).mapper in
        let under = (tables_at tables.attrs base).lexicon in
        same_lists (map (more mapper) under) (map (images mapper) under) (length-map under (more mapper) ∙ sym (length-map under (images mapper))) (λ k d n.
        let low : k < length under = omega (arith, n, length-map under (more mapper)) in
        get_or-map (more mapper) under k [] d low ∙ same_image number base l some k low ∙ sym (get_or-map (images mapper) under k [] d low))

    by_base : (every : List ℕ → List ℕ → List ℕ) (number : ℕ) (base : Option ℕ) → (attr_at registry number).base ≡ base →
        attr_values every registry corpus number ≡ map (λ token. value_by (every (attr_at registry number).mapper) registry number token base) (tokens_of corpus)
    by_base every number base e = ap (λ (o : Option ℕ). map (λ token. value_by (every (attr_at registry number).mapper) registry number token o) (tokens_of corpus)) e

    same_values : (number base : ℕ) → number < length registry.attrs → (attr_at registry number).base ≡ Some base → attr_values images registry corpus number ≡ attr_values more registry corpus number
    same_values number base l some =
        let mapper = (attr_at registry number).mapper in
        let under = (tables_at tables.attrs base).lexicon in
        let tokens = tokens_of corpus in
        let (low, none) = base_is registry valid number base l some in
        let all : All (Contains under) (attr_values images registry corpus base) = (are.bases base low none).have.lexicon.all in
        let here : All (Contains under) (map (λ token. value_of token (column_of registry.attrs base)) tokens) = subst (All (Contains under)) (by_base images base None none) all in
        let by = λ (every : List ℕ → List ℕ → List ℕ) (token : Token). every mapper (value_of token (column_of registry.attrs base)) in
        by_base images number (Some base) some
        ∙ same_lists (map (by images) tokens) (map (by more) tokens) (length-map tokens (by images) ∙ sym (length-map tokens (by more))) (λ k d n.
        let within : k < length tokens = omega (arith, n, length-map tokens (by images)) in
        let one = get_or tokens k (record { values = [] }) in
        let value = value_of one (column_of registry.attrs base) in
        let (at, inside, is) = subst (Contains under) (get_or-map (λ (token : Token). value_of token (column_of registry.attrs base)) tokens k (record { values = [] }) [] within)
        (here k [] (omega (arith, within, length-map tokens (λ (token : Token). value_of token (column_of registry.attrs base))))) in
        let it : get_or under at [] ≡ value = get_or_default under at [] value inside ∙ is in
        get_or-map (by images) tokens k (record { values = [] }) d within
        ∙ ap (images mapper) (sym it) ∙ sym (same_image number base l some at inside) ∙ ap (more mapper) it
        ∙ sym (get_or-map (by more) tokens k (record { values = [] }) d within))
        ∙ sym (by_base more number (Some base) some)

    same_own : (number : ℕ) → (attr_at registry number).base ≡ None → attr_values images registry corpus number ≡ attr_values more registry corpus number
    same_own number none = by_base images number None none ∙ sym (by_base more number None none)

    under_more : AreTablesOf more registry corpus tables
    under_more = record {
      texts = are.texts;
      attr_count = are.attr_count;
      bases = λ number l none. subst (λ (vs : List (List ℕ)). AreBaseTables vs (tables_at tables.attrs number)) (same_own number none) (are.bases number l none);
      mapped = λ number base l some.
          let old = are.mapped number base l some in
          record {
            mapped = old.mapped;
            have = subst (λ (vs : List (List ℕ)). HaveValues vs (tables_at tables.attrs number)) (same_values number base l some) old.have;
            numbers = subst (λ (vs : List (List ℕ)). Renumbers (tables_at tables.attrs number).numbers vs (tables_at tables.attrs number).lexicon) (sym (same_images number base l some)) old.numbers;
          };
      kind_count = are.kind_count;
      structs = are.structs;
    }

pub images_decoded : ImagesAreDecoded
images_decoded images registry corpus tables valid are = record {
  own = own images registry corpus tables valid are;
  others = λ more agree. under_more images registry corpus tables valid are more agree;
}
