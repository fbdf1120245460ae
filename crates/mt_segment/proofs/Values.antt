-- The values of texts and of tables, as far as a segment is made and read.
use Rattle.std.proofs.Common.{◌≡◌, ℕ, ◌<◌, ◌≤◌, List, [], length, map, get_or, slice_get, Option, None, Some, refl, sym, ◌∙◌, ap, subst, arith, ◌⊎◌, inl, inr}
use Rattle.std.specs.Ordering.{nat_cmp}
use Rattle.std.specs.Cmp.Lexicographic.{slice_cmp, nat_list_cmp_total}
use Rattle.std.specs.declared.cmp.Ordering.TheVariants.{Equal}
use Rattle.std.proofs.lemmas.Bool.{cases_lt}
use Rattle.std.proofs.lemmas.Cmp.{tied_itself}
use Rattle.std.proofs.lemmas.List.{length-map}
use Rattle.std.proofs.lemmas.List.Concat.{length-flat_map}
use Rattle.std.proofs.lemmas.List.Sums.{sum-map}
use Rattle.std.proofs.lemmas.Option.{slice_get_within, get_or_from_slice_get}
use Rattle.std.proofs.lemmas.Simd.{map-map}
use Rattle.mt_text_spec.specs.Registries.{Registry, column_of}
use Rattle.mt_text_spec.specs.Texts.{Text, Token, value_of, tokens_of, total_tokens}
use Rattle.mt_store_spec.specs.Lexicons.{IsBelow, IsAscending}
use Rattle.mt_segment_spec.specs.Tables.{Tables, AreTablesOf, HaveValues, attr_at, attr_values, column_values, tables_at, value_by}

pub length-column_values : (column : ℕ) (corpus : List Text) → length (column_values column corpus) ≡ total_tokens corpus
length-column_values column corpus =
    length-map (tokens_of corpus) (λ token. value_of token column) ∙ length-flat_map (λ (text : Text). text.tokens) corpus ∙ sym (sum-map (λ (text : Text). length text.tokens) corpus)

module _ (images : List ℕ → List ℕ → List ℕ) (registry : Registry) (corpus : List Text) where
  -- those of an attribute with this base
  by_base : (number : ℕ) (base : Option ℕ) → (attr_at registry number).base ≡ base →
      attr_values images registry corpus number ≡ map (λ token. value_by (images (attr_at registry number).mapper) registry number token base) (tokens_of corpus)
  by_base number base e = ap (λ (o : Option ℕ). map (λ token. value_by (images (attr_at registry number).mapper) registry number token o) (tokens_of corpus)) e

  pub own_values : (number : ℕ) → (attr_at registry number).base ≡ None → attr_values images registry corpus number ≡ column_values (column_of registry.attrs number) corpus
  own_values number none = by_base number None none

  pub mapped_values : (number base : ℕ) → (attr_at registry number).base ≡ Some base → attr_values images registry corpus number ≡ map (images (attr_at registry number).mapper) (column_values (column_of registry.attrs base) corpus)
  mapped_values number base some =
      by_base number (Some base) some ∙ sym (map-map (images (attr_at registry number).mapper) (λ (token : Token). value_of token (column_of registry.attrs base)) (tokens_of corpus))

-- ---- tables

module _ (images : List ℕ → List ℕ → List ℕ) (registry : Registry) (corpus : List Text) (tables : Tables) (are : AreTablesOf images registry corpus tables) where
  -- of base attributes and of mapped ones
  pub have : (number : ℕ) → number < length registry.attrs → HaveValues (attr_values images registry corpus number) (tables_at tables.attrs number)
  have number l = by (attr_at registry number).base refl
    where
      by : (base : Option ℕ) → (attr_at registry number).base ≡ base → HaveValues (attr_values images registry corpus number) (tables_at tables.attrs number)
      by None none = (are.bases number l none).have
      by (Some base) some = (are.mapped number base l some).have

  pub based : (number : ℕ) → number < length registry.attrs → (tables_at tables.attrs number).base ≡ (attr_at registry number).base
  based number l = by (attr_at registry number).base refl
    where
      by : (base : Option ℕ) → (attr_at registry number).base ≡ base → (tables_at tables.attrs number).base ≡ base
      by None none = (are.bases number l none).unmapped
      by (Some base) some = (are.mapped number base l some).mapped

-- ---- the numbers of a lexicon

pub not_below_itself : (a : List ℕ) → IsBelow a a → ⊥
not_below_itself a h = let e : slice_cmp nat_cmp a a ≡ Equal = tied_itself nat_list_cmp_total a in cc

-- a value stands once in a lexicon
pub one_number : (lexicon : List (List ℕ)) (i j : ℕ) (value : List ℕ) → IsAscending lexicon → slice_get lexicon i ≡ Some value → slice_get lexicon j ≡ Some value → i ≡ j
one_number lexicon i j value up at_i at_j = by (cases_lt i j) (cases_lt j i)
  where
    is : (k : ℕ) → slice_get lexicon k ≡ Some value → get_or lexicon k [] ≡ value
    is k e = get_or_from_slice_get lexicon k value [] e

    never : (k m : ℕ) → k < m → slice_get lexicon k ≡ Some value → slice_get lexicon m ≡ Some value → ⊥
    never k m l at_k at_m =
        let low : IsBelow (get_or lexicon k []) (get_or lexicon m []) = up k m [] l (slice_get_within lexicon m value at_m) in
        not_below_itself value (subst (λ (v : List ℕ). IsBelow v value) (is k at_k) (subst (IsBelow (get_or lexicon k [])) (is m at_m) low))

    by : (i < j) ⊎ (j ≤ i) → (j < i) ⊎ (i ≤ j) → i ≡ j
    by (inl l) other = absurd (never i j l at_i at_j)
    by (inr l) (inl m) = absurd (never j i m at_j at_i)
    by (inr l) (inr m) = omega arith
