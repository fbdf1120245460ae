-- Images that agree on the mapped attributes make the same tables.
use Rattle.std.proofs.Common.{◌≡◌, ℕ, ◌<◌, List, length, map, Option, None, Some, sym, ◌∙◌, ap, subst}
use Rattle.mt_text_spec.specs.Registries.{Registry}
use Rattle.mt_text_spec.specs.Texts.{Text, tokens_of}
use Rattle.mt_store_spec.specs.Lexicons.{Renumbers}
use Rattle.mt_segment_spec.specs.Tables.{AreBaseTables, AreTablesOf, HaveValues, Tables, attr_at, attr_values, tables_at, value_by}

module _ (registry : Registry) (images more : List ℕ → List ℕ → List ℕ) (same : (number base : ℕ) → number < length registry.attrs → (attr_at registry number).base ≡ Some base → images (attr_at registry number).mapper ≡ more (attr_at registry number).mapper) (corpus : List Text) where
  by_base : (every : List ℕ → List ℕ → List ℕ) (number : ℕ) (base : Option ℕ) → (attr_at registry number).base ≡ base →
      attr_values every registry corpus number ≡ map (λ token. value_by (every (attr_at registry number).mapper) registry number token base) (tokens_of corpus)
  by_base every number base e = ap (λ (o : Option ℕ). map (λ token. value_by (every (attr_at registry number).mapper) registry number token o) (tokens_of corpus)) e

  same_own : (number : ℕ) → (attr_at registry number).base ≡ None → attr_values images registry corpus number ≡ attr_values more registry corpus number
  same_own number none = by_base images number None none ∙ sym (by_base more number None none)

  same_mapped : (number base : ℕ) → number < length registry.attrs → (attr_at registry number).base ≡ Some base → attr_values images registry corpus number ≡ attr_values more registry corpus number
  same_mapped number base l some =
      by_base images number (Some base) some
      ∙ ap (λ (image : List ℕ → List ℕ). map (λ token. value_by image registry number token (Some base)) (tokens_of corpus)) (same number base l some)
      ∙ sym (by_base more number (Some base) some)

  pub under_agreeing : (tables : Tables) → AreTablesOf images registry corpus tables → AreTablesOf more registry corpus tables
  under_agreeing tables are = record {
    texts = are.texts;
    attr_count = are.attr_count;
    bases = λ number l none. subst (λ (vs : List (List ℕ)). AreBaseTables vs (tables_at tables.attrs number)) (same_own number none) (are.bases number l none);
    mapped = λ number base l some.
        let old = are.mapped number base l some in
        record {
          mapped = old.mapped;
          have = subst (λ (vs : List (List ℕ)). HaveValues vs (tables_at tables.attrs number)) (same_mapped number base l some) old.have;
          numbers = subst (λ (image : List ℕ → List ℕ). Renumbers (tables_at tables.attrs number).numbers (map image (tables_at tables.attrs base).lexicon) (tables_at tables.attrs number).lexicon) (same number base l some) old.numbers;
        };
    kind_count = are.kind_count;
    structs = are.structs;
  }
