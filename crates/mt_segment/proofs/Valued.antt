-- Columns of values, their numbers and their places.
use Rattle.std.proofs.Common.{◌≡◌, ℕ, ◌+◌, ◌<◌, ◌≤◌, List, [], ◌∷◌, ◌++◌, length, map, take, get_or, slice_get, None, Some, sym, ◌∙◌, ap, subst, arith, append_assoc}
use Rattle.std.specs.List.{All}
use Rattle.std.proofs.lemmas.List.{map_more, take_all}
use Rattle.std.proofs.lemmas.List.Sums.{sum-map, sum_by_more_le}
use Rattle.std.proofs.lemmas.Option.{slice_get-get_or, slice_get_within, get_or_from_slice_get}
use Rattle.mt_text_spec.specs.Texts.{Text, Token, total_tokens, value_of}
use Rattle.mt_store_spec.specs.Lexicons.{IsAscending, IsLexiconOf, Renumbers}
use Rattle.mt_segment.proofs.Renumbered.{numbers_within}
use Rattle.mt_segment_spec.specs.Tables.{AttrTables, ArePlacesOf, ArePostingsOf, AreBaseTables, column_values}
use Rattle.mt_segment.proofs.Values.{length-column_values, one_number}
use Rattle.mt_segment.specs.Parts.{AreInverted}

-- ---- the values of texts

-- there is room for one text more
pub column_fits : (column : ℕ) (corpus : List Text) (i : ℕ) (text : Text) → i < length corpus → text ≡ get_or corpus i text →
    length (column_values column (take i corpus)) + length text.tokens ≤ total_tokens corpus
column_fits column corpus i text l e =
    omega (
      arith,
      length-column_values column (take i corpus),
      sum-map (λ (t : Text). length t.tokens) (take i corpus),
      sum-map (λ (t : Text). length t.tokens) corpus,
      sum_by_more_le (λ (t : Text). length t.tokens) corpus i text l,
      ap (λ (t : Text). length t.tokens) e,
    )

-- all texts
pub column_all : (column : ℕ) (corpus : List Text) (i : ℕ) (values : List (List ℕ)) → values ≡ column_values column (take i corpus) → length corpus ≤ i → values ≡ column_values column corpus
column_all column corpus i values e l = e ∙ ap (column_values column) (take_all i corpus l)

-- the value of one token more
pub one_value_more : (old values new : List (List ℕ)) (value : List ℕ) (tokens : List Token) (column place : ℕ) → place < length tokens → new ≡ values ++ value ∷ [] →
    values ≡ old ++ map (λ token. value_of token column) (take place tokens) → ((token : Token) → value ≡ value_of (get_or tokens place token) column) →
    new ≡ old ++ map (λ token. value_of token column) (take (place + 1) tokens)
one_value_more old values new value tokens column place l n e v =
    let token : Token = record { values = [] } in
    let before : List (List ℕ) = map (λ token. value_of token column) (take place tokens) in
    n ∙ ap (λ vs. vs ++ value ∷ []) e ∙ append_assoc old before (value ∷ []) ∙ ap (λ v. old ++ (before ++ v ∷ [])) (v token)
    ∙ ap (λ vs. old ++ vs) (sym (map_more (λ token. value_of token column) tokens place token l))

-- what is wanted of the numbers where they are inverted
pub numbers_few : (numbers read : List ℕ) (values lexicon : List (List ℕ)) (column : ℕ) (corpus : List Text) → Renumbers numbers values lexicon → values ≡ column_values column corpus → read ≡ numbers →
    length read ≡ total_tokens corpus
numbers_few numbers read values lexicon column corpus h e is = ap length is ∙ h.count ∙ ap length e ∙ length-column_values column corpus

pub numbers_low : (numbers read : List ℕ) (values lexicon : List (List ℕ)) (count : ℕ) → Renumbers numbers values lexicon → read ≡ numbers → count ≡ length lexicon → All (λ n. n < count) read
numbers_low numbers read values lexicon count h is e =
    subst (λ (ns : List ℕ). All (λ n. n < count) ns) (sym is) (subst (λ (m : ℕ). All (λ n. n < m) numbers) (sym e) (numbers_within numbers values lexicon h))

-- ---- the lexicon's numbers

module _ (numbers : List ℕ) (values lexicon : List (List ℕ)) (h : Renumbers numbers values lexicon) (up : IsAscending lexicon) where
  -- the value of a number, and the number of a value
  value_there : (place number : ℕ) (value : List ℕ) → slice_get lexicon number ≡ Some value → slice_get numbers place ≡ Some number → slice_get values place ≡ Some value
  value_there place number value at e =
      let within : place < length values = omega (arith, slice_get_within numbers place number e, h.count) in
      let is : get_or numbers place 0 ≡ number = get_or_from_slice_get numbers place number 0 e in
      sym (h.same place within) ∙ ap (slice_get lexicon) is ∙ at

  number_there : (place number : ℕ) (value : List ℕ) → slice_get lexicon number ≡ Some value → slice_get values place ≡ Some value → slice_get numbers place ≡ Some number
  number_there place number value at e =
      let within : place < length values = slice_get_within values place value e in
      let is : get_or numbers place 0 ≡ number = one_number lexicon (get_or numbers place 0) number value up (h.same place within ∙ e) at in
      slice_get-get_or numbers place 0 (omega (arith, h.count)) ∙ ap Some is

  -- the places of a number are those of its value
  pub places_of_value : (number : ℕ) (value : List ℕ) (places : List ℕ) → slice_get lexicon number ≡ Some value → ArePlacesOf number numbers places → ArePlacesOf value values places
  places_of_value number value places at p = record {
    ascending = p.ascending;
    each = λ k d l. value_there (get_or places k d) number value at (p.each k d l);
    all = λ place e. p.all place (number_there place number value at e);
  }

  pub postings_are : (lists : List (List ℕ)) → AreInverted numbers (length lexicon) lists → ArePostingsOf lexicon values lists
  postings_are lists inv = record {
    count = inv.count_is;
    each = λ number value at. places_of_value number value (get_or lists number []) at (inv.each number (slice_get_within lexicon number value at));
  }

-- the tables of a base attribute
pub base_made : (tables : AttrTables) (values : List (List ℕ)) → tables.base ≡ None → IsLexiconOf values tables.lexicon → Renumbers tables.numbers values tables.lexicon →
    AreInverted tables.numbers (length tables.lexicon) tables.postings → AreBaseTables values tables
base_made tables values none l n p = record { unmapped = none; have = record { lexicon = l; postings = postings_are tables.numbers values tables.lexicon n l.ascending tables.postings p }; numbers = n }
