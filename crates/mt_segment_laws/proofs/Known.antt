-- What is known of the tables of texts.
use Rattle.std.proofs.Common.{◌≡◌, ℕ, ◌<◌, List, length, map, sum, None, Some, sym, ◌∙◌, ap, arith}
use Rattle.std.proofs.lemmas.List.{length-map}
use Rattle.std.proofs.lemmas.Simd.{map-map}
use Rattle.mt_text_spec.specs.Registries.{Registry}
use Rattle.mt_text_spec.specs.Texts.{Text, total_tokens}
use Rattle.mt_store_spec.specs.Lexicons.{Renumbers}
use Rattle.mt_segment_spec.specs.Tables.{Tables, AreTables, AreTablesOf, attr_at, attr_values, heads_of, tables_at, token_count}
use Rattle.mt_segment_laws.proofs.Values.{base_is, based, have, length-attr_values}

-- there is a value for each token
pub tokens_are : (corpus : List Text) (tables : Tables) → tables.texts ≡ heads_of corpus → token_count tables ≡ total_tokens corpus
tokens_are corpus tables e =
    ap (λ (heads : List (List ℕ × ℕ)). sum (map (λ head. head.1) heads)) e ∙ ap sum (map-map (λ (head : List ℕ × ℕ). head.1) (λ (text : Text). (text.name, length text.tokens)) corpus)

module _ (images : List ℕ → List ℕ → List ℕ) (registry : Registry) (corpus : List Text) (tables : Tables) (are : AreTablesOf images registry corpus tables) where
  pub values_long : (number : ℕ) → length (attr_values images registry corpus number) ≡ token_count tables
  values_long number = length-attr_values images registry corpus number ∙ sym (tokens_are corpus tables are.texts)

  -- what the numbers of a base attribute are
  pub column_is : (number : ℕ) → number < length tables.attrs → (tables_at tables.attrs number).base ≡ None → Renumbers (tables_at tables.attrs number).numbers (attr_values images registry corpus number) (tables_at tables.attrs number).lexicon
  column_is number l none =
      let within : number < length registry.attrs = omega (arith, are.attr_count) in
      (are.bases number within (sym (based images registry corpus tables are number within) ∙ none)).numbers

  -- and a mapped one's
  pub table_is : (number base : ℕ) → number < length tables.attrs → (tables_at tables.attrs number).base ≡ Some base →
      Renumbers (tables_at tables.attrs number).numbers (map (images (attr_at registry number).mapper) (tables_at tables.attrs base).lexicon) (tables_at tables.attrs number).lexicon
  table_is number base l some =
      let within : number < length registry.attrs = omega (arith, are.attr_count) in
      (are.mapped number base within (sym (based images registry corpus tables are number within) ∙ some)).numbers

-- ---- of tables of some valid texts

module _ (tables : Tables) (known : AreTables tables) where
  pub column_long : (number : ℕ) → number < length tables.attrs → (tables_at tables.attrs number).base ≡ None → length (tables_at tables.attrs number).numbers ≡ token_count tables
  column_long number l none =
      let by = known.under.by in
      (column_is known.under.images known.registry by.corpus tables by.are number l none).count ∙ values_long known.under.images known.registry by.corpus tables by.are number

  pub base_there : (number base : ℕ) → number < length tables.attrs → (tables_at tables.attrs number).base ≡ Some base → (base < length tables.attrs) × ((tables_at tables.attrs base).base ≡ None)
  base_there number base l some =
      let by = known.under.by in
      let within : number < length known.registry.attrs = omega (arith, by.are.attr_count) in
      let (low, none) = base_is known.registry by.valid number base within (sym (based known.under.images known.registry by.corpus tables by.are number within) ∙ some) in
      (omega (arith, low, by.are.attr_count), based known.under.images known.registry by.corpus tables by.are base low ∙ none)

  pub table_long : (number base : ℕ) → number < length tables.attrs → (tables_at tables.attrs number).base ≡ Some base → length (tables_at tables.attrs number).numbers ≡ length (tables_at tables.attrs base).lexicon
  table_long number base l some =
      let by = known.under.by in
      (table_is known.under.images known.registry by.corpus tables by.are number base l some).count ∙ length-map (tables_at tables.attrs base).lexicon (known.under.images (attr_at known.registry number).mapper)

  -- there is a posting list for each value
  pub postings_many : (number : ℕ) → number < length tables.attrs → length (tables_at tables.attrs number).postings ≡ length (tables_at tables.attrs number).lexicon
  postings_many number l =
      let by = known.under.by in
      (have known.under.images known.registry by.corpus tables by.are number (omega (arith, by.are.attr_count))).postings.count
