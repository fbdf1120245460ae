-- The tables of a generated text.
use Rattle.std.proofs.Common.{◌≡◌, ℕ, zero, suc, ◌<◌, None, Some, get_or, List, [], ◌∷◌, ◌++◌, length, map, filter, refl, sym, ◌∙◌, ap, subst, arith, append-nil}
use Rattle.std.specs.List.{flat_map, range_with_len}
use Rattle.std.proofs.lemmas.List.FromFn.{length-map-range_with_len}
use Rattle.std.proofs.lemmas.Option.{none-some}
use Rattle.mt_text_spec.specs.Registries.{Registry, standard_registry}
use Rattle.mt_text_spec.specs.Texts.{StructSpan, Text, Token, ValidCorpus, ValidText}
use Rattle.mt_generate_spec.specs.Generated.{document, generated_text, sentence, sentence_count, token_at, tokens_from}
use Rattle.mt_segment_spec.specs.Tables.{AttrTables, AreBaseTables, AreTablesOf, HaveParts, attr_at, attr_values, instances_of, is_of_kind, tables_at}
use Rattle.mt_generate_tables.specs.Joined.{AreColumnTables, tables_of}
use Rattle.mt_generate_tables.specs.Coded.{values_of}

-- ---- instances of one kind

only_sentences : (tokens : ℕ) (numbers : List ℕ) → filter (is_of_kind 1) (map (sentence tokens) numbers) ≡ map (sentence tokens) numbers
only_sentences tokens [] = refl
only_sentences tokens (n ∷ numbers) = ap (λ (spans : List StructSpan). sentence tokens n ∷ spans) (only_sentences tokens numbers)

no_documents : (tokens : ℕ) (numbers : List ℕ) → filter (is_of_kind 0) (map (sentence tokens) numbers) ≡ []
no_documents tokens [] = refl
no_documents tokens (n ∷ numbers) = no_documents tokens numbers

no_glue : (tokens : ℕ) (numbers : List ℕ) → filter (is_of_kind 2) (map (sentence tokens) numbers) ≡ []
no_glue tokens [] = refl
no_glue tokens (n ∷ numbers) = no_glue tokens numbers

-- ---- tables in parts

flat : (lists : List (List StructSpan)) → lists ≡ flat_map (λ kind. kind) (map (λ instances. instances ∷ []) lists)
flat [] = refl
flat (spans ∷ lists) = ap (λ (all : List (List StructSpan)). spans ∷ all) (flat lists)

-- the tables of a base attribute
abbrev base_tables : List (List ℕ) → List ℕ → List (List ℕ) → AttrTables
base_tables lexicon numbers postings = record { base = None; lexicon = lexicon; numbers = numbers; postings = postings }

pub parts_are : (texts : List (List ℕ × ℕ)) (structs : List (List StructSpan)) (word tag lemma : AttrTables) (w t l : List (List ℕ)) (wn tn ln : List ℕ) (wp tp lp : List (List ℕ)) (lexicons : List (List (List ℕ)))
    (columns mapped : List (List ℕ)) (postings : List (List (List ℕ))) → base_tables w wn wp ≡ word → base_tables t tn tp ≡ tag → base_tables l ln lp ≡ lemma → lexicons ≡ w ∷ t ∷ l ∷ [] → columns ≡ wn ∷ tn ∷ ln ∷ [] → mapped ≡ [] →
    postings ≡ wp ∷ tp ∷ lp ∷ [] → HaveParts (tables_of texts structs word tag lemma) texts lexicons columns mapped postings structs
parts_are texts structs word tag lemma w t l wn tn ln wp tp lp lexicons columns mapped postings ew et el e1 e2 e3 e4 =
    rw (← ew, ← et, ← el) (record { texts_are = refl; lexicons_are = e1; columns_are = e2; mapped_are = e3; postings_are = e4; structs_are = flat structs })

-- ---- the text

pub valid_alone : (registry : Registry) (text : Text) → ValidText registry text → ValidCorpus registry (text ∷ [])
valid_alone registry text h = record {
  few = omega arith;
  short = omega (arith, h.short);
  texts = only;
  distinct = λ i j d l m. absurd (omega arith);
}
  where
    only : (k : ℕ) (d : Text) → k < 1 → ValidText registry (get_or (text ∷ []) k d)
    only zero d l = h
    only (suc k) d l = absurd (omega (arith, l))

module _ (images : List ℕ → List ℕ → List ℕ) (name : List ℕ) (seed tokens : ℕ) (word tag lemma : AttrTables) (texts : List (List ℕ × ℕ)) (structs : List (List StructSpan)) where
  pub are_its : texts ≡ (name, tokens) ∷ [] → structs ≡ (document name tokens ∷ []) ∷ map (sentence tokens) (range_with_len 0 (sentence_count tokens)) ∷ [] ∷ [] →
      AreColumnTables (tokens_from seed 0 tokens) word tag lemma →
      AreTablesOf images standard_registry (generated_text name seed tokens ∷ []) (tables_of texts structs word tag lemma)
  are_its heads spans is = record {
    texts = heads ∙ ap (λ (n : ℕ). (name, n) ∷ []) (sym (length-map-range_with_len (token_at seed) 0 tokens));
    attr_count = refl;
    bases = bases;
    mapped = λ number base l e. absurd (unmapped number base l e);
    kind_count = ap (λ (lists : List (List StructSpan)). length (map (λ instances. instances ∷ []) lists)) spans;
    structs = kinds;
  }
    where
      all : tokens_from seed 0 tokens ≡ tokens_from seed 0 tokens ++ []
      all = sym (append-nil (tokens_from seed 0 tokens))

      bases : (number : ℕ) → number < 3 → (attr_at standard_registry number).base ≡ None → AreBaseTables (attr_values images standard_registry (generated_text name seed tokens ∷ []) number) (tables_at (word ∷ tag ∷ lemma ∷ []) number)
      bases zero l e = subst (λ (ts : List Token). AreBaseTables (values_of 0 ts) word) all is.words
      bases (suc zero) l e = subst (λ (ts : List Token). AreBaseTables (values_of 1 ts) tag) all is.tags
      bases (suc (suc zero)) l e = subst (λ (ts : List Token). AreBaseTables (values_of 2 ts) lemma) all is.lemmas
      bases (suc (suc (suc number))) l e = absurd (omega (arith, l))

      unmapped : (number base : ℕ) → number < 3 → (attr_at standard_registry number).base ≡ Some base → ⊥
      unmapped zero base l e = none-some base e
      unmapped (suc zero) base l e = none-some base e
      unmapped (suc (suc zero)) base l e = none-some base e
      unmapped (suc (suc (suc number))) base l e = omega (arith, l)

      at : (kind : ℕ) → get_or (map (λ instances. instances ∷ []) structs) kind [] ≡ get_or (((document name tokens ∷ []) ∷ []) ∷ (map (sentence tokens) (range_with_len 0 (sentence_count tokens)) ∷ []) ∷ ([] ∷ []) ∷ []) kind []
      at kind = ap (λ (lists : List (List StructSpan)). get_or (map (λ instances. instances ∷ []) lists) kind []) spans

      kinds : (kind : ℕ) → kind < 3 → get_or (map (λ instances. instances ∷ []) structs) kind [] ≡ instances_of kind (generated_text name seed tokens ∷ [])
      kinds zero l = at 0 ∙ ap (λ (spans : List StructSpan). (document name tokens ∷ spans) ∷ []) (sym (no_documents tokens (range_with_len 0 (sentence_count tokens))))
      kinds (suc zero) l = at 1 ∙ ap (λ (spans : List StructSpan). spans ∷ []) (sym (only_sentences tokens (range_with_len 0 (sentence_count tokens))))
      kinds (suc (suc zero)) l = at 2 ∙ ap (λ (spans : List StructSpan). spans ∷ []) (sym (no_glue tokens (range_with_len 0 (sentence_count tokens))))
      kinds (suc (suc (suc kind))) l = absurd (omega (arith, l))
