-- Texts of a segment that are counted one after another.
use Rattle.std.proofs.Common.{◌≡◌, ℕ, ◌+◌, ◌<◌, ◌≤◌, ◌⊎◌, inl, inr, List, [], ◌∷◌, ◌++◌, length, take, get_or, slice_get, slice_index, None, Some, sym, ◌∙◌, ap, append_assoc, arith}
use Rattle.std.proofs.lemmas.Bool.{cases_lt}
use Rattle.std.proofs.lemmas.List.{get_or_append_left, get_or_push, length_push, take_all}
use Rattle.std.proofs.lemmas.List.Sums.{sum-map, sum_by_more}
use Rattle.std.proofs.lemmas.Option.{slice_get-get_or, get_or_from_slice_get}
use Rattle.mt_text_spec.specs.Registries.{Registry}
use Rattle.mt_text_spec.specs.Texts.{Text}
use Rattle.mt_match_spec.specs.Values.{Images}
use Rattle.mt_segment_spec.specs.Tables.{Tables, first_place, number_at, number_by, tables_at}
use Rattle.mt_eval_spec.specs.Told.{told_tokens}
use Rattle.mt_instances.specs.Collected.{Collected}
use Rattle.mt_grammar_counts.specs.Collecting.{Knows}
use Rattle.mt_grammar_counts.specs.Told.{TellAll, Tells}
use Rattle.mt_grammar_counts.proofs.Parts.{one_more}

-- where the next text begins
pub next_begins : (tables : Tables) (number : ℕ) → number < length tables.texts → first_place tables (number + 1) ≡ first_place tables number + told_tokens tables number
next_begins tables number l =
    sum-map (λ (h : List ℕ × ℕ). h.1) (take (number + 1) tables.texts) ∙ sum_by_more (λ (h : List ℕ × ℕ). h.1) tables.texts number ([], 0) l
    ∙ ap (λ n. n + told_tokens tables number) (sym (sum-map (λ (h : List ℕ × ℕ). h.1) (take number tables.texts)))

-- the numbers of one place more
pub numbers_more : (f : ℕ → ℕ) (old new : List ℕ) (n begin place : ℕ) → new ≡ old ++ n ∷ [] → begin + length old ≡ place → n ≡ f place → ((k : ℕ) → k < length old → slice_index old k ≡ f (begin + k)) →
    (k : ℕ) → k < length new → slice_index new k ≡ f (begin + k)
numbers_more f old new n begin place is at own each k l = by (cases_lt k (length old))
  where
    by : (k < length old) ⊎ (length old ≤ k) → slice_index new k ≡ f (begin + k)
    by (inl low) = ap (λ (ns : List ℕ). get_or ns k 0) is ∙ get_or_append_left old (n ∷ []) 0 k low ∙ each k low
    by (inr high) =
        let last : length old ≡ k = omega (arith, high, l, ap length is, length_push old n) in
        let here : place ≡ begin + k = omega (arith, at, last) in
        ap (λ (ns : List ℕ). get_or ns k 0) is ∙ get_or_push old n 0 k last ∙ own ∙ ap f here

-- a number that stands in the column of a base attribute is the one at the place
pub base_number : (tables : Tables) (attr place n : ℕ) → (tables_at tables.attrs attr).base ≡ None → n ≡ slice_index (tables_at tables.attrs attr).numbers place → n ≡ number_at tables attr place
base_number tables attr place n none is = is ∙ ap (number_by (tables_at tables.attrs attr).numbers tables.attrs place) (sym none)

pub known_whole : (tables : Tables) (attr number begin end place : ℕ) (collected : Collected) → number < length tables.texts → begin ≡ first_place tables number → end ≡ first_place tables (number + 1) → end ≤ place → place ≤ end →
    collected.lexicon ≡ (tables_at tables.attrs attr).lexicon → begin + length collected.numbers ≡ place → ((k : ℕ) → k < length collected.numbers → slice_index collected.numbers k ≡ number_at tables attr (begin + k)) →
    Knows tables attr number collected
known_whole tables attr number begin end place collected within b e l m lexicon count each =
    let next = next_begins tables number within in
    let many : length collected.numbers ≡ told_tokens tables number = omega (arith, b, e, l, m, count, next) in
    record {
      lexicon = lexicon;
      count = many;
      each = λ k low. each k (omega (arith, low, many)) ∙ ap (λ n. number_at tables attr (n + k)) b;
    }

-- a text of those that are told
pub record OneOf (images : Images) (registry : Registry) (tables : Tables) (number : ℕ) (texts : List Text) (k : ℕ) : Type 0 where
  pub text : Text
  pub tells : Tells images registry tables number text
  pub within : k < length texts
  pub at : text ≡ get_or texts k text

pub one_of : (images : Images) (registry : Registry) (tables : Tables) (numbers : List ℕ) (texts : List Text) (k number : ℕ) → TellAll images registry tables numbers texts → k < length numbers → number ≡ slice_index numbers k →
    OneOf images registry tables number texts k
one_of images registry tables numbers texts k number all l e =
    let text = get_or texts k (record { name = []; tokens = []; structs = [] }) in
    let low : k < length texts = omega (arith, l, all.count) in
    let there : slice_get texts k ≡ Some text = slice_get-get_or texts k (record { name = []; tokens = []; structs = [] }) low in
    record {
      text = text;
      tells = record { corpus = all.corpus; tell = all.tell; there = ap (slice_get all.corpus) e ∙ sym (all.each k l) ∙ there };
      within = low;
      at = sym (get_or_from_slice_get texts k text text there);
    }

pub texts_more : (done texts : List Text) (k : ℕ) (text : Text) → k < length texts → text ≡ get_or texts k text → (done ++ take k texts) ++ text ∷ [] ≡ done ++ take (k + 1) texts
texts_more done texts k text l e = append_assoc done (take k texts) (text ∷ []) ∙ ap (λ (ts : List Text). done ++ ts) (sym (one_more texts k text l e))

pub texts_whole : (images : Images) (registry : Registry) (tables : Tables) (numbers : List ℕ) (texts : List Text) (k : ℕ) → TellAll images registry tables numbers texts → length numbers ≤ k → take k texts ≡ texts
texts_whole images registry tables numbers texts k all l = take_all k texts (omega (arith, l, all.count))
