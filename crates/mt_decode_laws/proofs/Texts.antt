-- Tables of valid texts are decoded to these texts.
use Rattle.std.proofs.Common.{◌≡◌, ℕ, zero, suc, ◌+◌, ◌<◌, List, [], ◌++◌, length, map, get_or, slice_get, Some, refl, ◌∙◌, ap, ap₂, arith}
use Rattle.std.specs.List.{All, filter, flat_map, range_with_len}
use Rattle.std.proofs.lemmas.List.{get_or-map, get_or_default, length-map, same_lists}
use Rattle.std.proofs.lemmas.List.FromFn.{fill_by_all, length-map-range_with_len, get_or-map-range_with_len}
use Rattle.std.proofs.lemmas.Option.{slice_get-get_or, slice_get_within}
use Rattle.mt_text_spec.specs.Registries.{Registry}
use Rattle.mt_text_spec.specs.Texts.{StructSpan, Text, Token, ValidText}
use Rattle.mt_segment_spec.specs.Tables.{Tables, AreTablesOf, instances_of, is_of_kind}
use Rattle.mt_corpus_spec.specs.Decoded.{text_in, texts_in}
use Rattle.mt_decode_laws.specs.Laws.{TextsAreDecoded}
use Rattle.mt_decode_laws.proofs.InOrder.{in_order}
use Rattle.mt_decode_laws.proofs.Tokens.{tokens_are}

-- lists that are made by numbers
flat_of_map : {X Y : Type 0} (f : ℕ → X) (g : X → List Y) (first many : ℕ) → flat_map g (map f (range_with_len first many)) ≡ flat_map (λ k. g (f k)) (range_with_len first many)
flat_of_map f g first zero = refl
flat_of_map f g first (suc many) = ap (λ ys. g (f first) ++ ys) (flat_of_map f g (first + 1) many)

flat_agree : {Y : Type 0} (f g : ℕ → List Y) (first many : ℕ) → ((k : ℕ) → f k ≡ g k) → flat_map f (range_with_len first many) ≡ flat_map g (range_with_len first many)
flat_agree f g first zero e = refl
flat_agree f g first (suc many) e = ap₂ (λ xs ys. xs ++ ys) (e first) (flat_agree f g (first + 1) many e)

module _ (images : List ℕ → List ℕ → List ℕ) (registry : Registry) (corpus : List Text) (tables : Tables) (are : AreTablesOf images registry corpus tables) where
  module _ (number : ℕ) (text : Text) (within : number < length corpus) (is : get_or corpus number text ≡ text) (valid : ValidText registry text) where
    head_is : get_or tables.texts number ([], 0) ≡ (text.name, length text.tokens)
    head_is =
        ap (λ (heads : List (List ℕ × ℕ)). get_or heads number ([], 0)) are.texts ∙ get_or-map (λ (t : Text). (t.name, length t.tokens)) corpus number text ([], 0) within
        ∙ ap (λ (t : Text). (t.name, length t.tokens)) is

    there : slice_get corpus number ≡ Some text
    there = slice_get-get_or corpus number text within ∙ ap Some is

    kinds_made : tables.structs ≡ map (λ kind. instances_of kind corpus) (range_with_len 0 (length registry.kinds))
    kinds_made = fill_by_all (λ kind. instances_of kind corpus) tables.structs (length registry.kinds) [] are.kind_count (λ k l. are.structs k l)

    structs_are : flat_map (λ kind. get_or kind number []) tables.structs ≡ text.structs
    structs_are =
        ap (λ (lists : List (List (List StructSpan))). flat_map (λ kind. get_or kind number []) lists) kinds_made
        ∙ flat_of_map (λ kind. instances_of kind corpus) (λ kind. get_or kind number []) 0 (length registry.kinds)
        ∙ flat_agree (λ kind. get_or (instances_of kind corpus) number []) (λ kind. filter (is_of_kind kind) text.structs) 0 (length registry.kinds)
        (λ kind. get_or-map (λ (t : Text). filter (is_of_kind kind) t.structs) corpus number text [] within ∙ ap (λ (t : Text). filter (is_of_kind kind) t.structs) is)
        ∙ in_order (length registry.kinds) 0 text.structs (λ k d l. let kind = valid.structs k d l in (omega arith, omega (arith, slice_get_within registry.kinds (get_or text.structs k d).kind kind.kind kind.declared))) valid.ordered

    text_is : text_in registry tables number ≡ text
    text_is =
        let made : List ℕ → List Token → List StructSpan → Text = λ n t s. record { name = n; tokens = t; structs = s } in
        let tokens = tokens_are images registry corpus tables are number text there valid (get_or tables.texts number ([], 0)).1 (ap (λ (head : List ℕ × ℕ). head.1) head_is) in
        ap (λ (n : List ℕ). made n (text_in registry tables number).tokens (text_in registry tables number).structs) (ap (λ (head : List ℕ × ℕ). head.0) head_is)
        ∙ ap (λ (t : List Token). made text.name t (text_in registry tables number).structs) tokens ∙ ap (made text.name text.tokens) structs_are

  all_are : All (ValidText registry) corpus → texts_in registry tables ≡ corpus
  unfolding texts_in
  all_are valid =
      let long : length tables.texts ≡ length corpus = ap length are.texts ∙ length-map corpus (λ (t : Text). (t.name, length t.tokens)) in
      let count : length (map (text_in registry tables) (range_with_len 0 (length tables.texts))) ≡ length tables.texts = length-map-range_with_len (text_in registry tables) 0 (length tables.texts) in
      same_lists (map (text_in registry tables) (range_with_len 0 (length tables.texts))) corpus (count ∙ long) (λ k d l.
      let low : k < length corpus = omega (arith, count, long) in
      let one = get_or corpus k d in
      get_or-map-range_with_len (text_in registry tables) 0 (length tables.texts) k k d (omega (arith, count)) (omega arith)
      ∙ text_is k one low (get_or_default corpus k one d low) (valid k d low))

pub texts_decoded : TextsAreDecoded
texts_decoded images registry corpus tables valid are = all_are images registry corpus tables are valid
