-- What is counted for numbers is counted for values.
use Rattle.std.proofs.Common.{◌≡◌, ℕ, zero, suc, ◌+◌, ◌-◌, ◌<◌, ◌≤◌, ◌==◌, ◌⊎◌, inl, inr, ◌||◌, min, Bool, true, false, cond, List, [], ◌∷◌, length, map, take, get_or, slice_get, Some, refl, sym, ◌∙◌, ap, ap₂, arith}
use Rattle.std.specs.List.{count_by, list_any, range_with_len}
use Rattle.std.specs.Str.{bytes_eq}
use Rattle.std.specs.Cmp.Lexicographic.{bytes_decides}
use Rattle.std.proofs.lemmas.Bool.{true≢false, eq-eqb, ne_eqb}
use Rattle.std.proofs.lemmas.List.{map-append}
use Rattle.std.proofs.lemmas.List.Folds.{list_any-append}
use Rattle.std.proofs.lemmas.List.Sums.{sum_by-cons, sum_by_more}
use Rattle.std.proofs.lemmas.Option.{same_Some, slice_get-get_or}
use Rattle.mt_text_spec.specs.Texts.{Span}
use Rattle.mt_segment_spec.specs.Tables.{Tables, AreTables, number_at, tables_at, token_count}
use Rattle.mt_segment_laws.proofs.Values.{have, one_number}
use Rattle.mt_store_spec.specs.Lexicons.{IsAscending}
use Rattle.mt_reports.specs.Told.{told_value}
use Rattle.mt_frequencies.specs.declared.distances.Places.{Places}
use Rattle.mt_frequencies.specs.declared.seen.Seen.{Seen}
use Rattle.mt_frequencies.specs.Amounts.{AreMore, amount_of, having}
use Rattle.mt_frequencies.specs.Seen.{in_window, seen_at, spans_seen, spans_with, values_in, with_number}

-- ## The number of a value

-- a value has a number in a lexicon
record IsFound (lexicon : List (List ℕ)) (value : List ℕ) : Type 0 where
  number : ℕ
  at : slice_get lexicon number ≡ Some value

found_or_not : (lexicon : List (List ℕ)) (value : List ℕ) → IsFound lexicon value ⊎ ((n : ℕ) → slice_get lexicon n ≡ Some value → ⊥)
found_or_not [] value = inr (λ n e. absurd cc)
found_or_not (x ∷ xs) value = by (bytes_eq value x) refl (found_or_not xs value)
  where
    never : bytes_eq value x ≡ false → ((n : ℕ) → slice_get xs n ≡ Some value → ⊥) → (n : ℕ) → slice_get (x ∷ xs) n ≡ Some value → ⊥
    never e none zero at = let same : x ≡ value = same_Some x value at in true≢false (sym ((bytes_decides value x).1 (sym same)) ∙ e)
    never e none (suc n) at = none n at

    rest : bytes_eq value x ≡ false → IsFound xs value ⊎ ((n : ℕ) → slice_get xs n ≡ Some value → ⊥) → IsFound (x ∷ xs) value ⊎ ((n : ℕ) → slice_get (x ∷ xs) n ≡ Some value → ⊥)
    rest e (inl there) = inl (record { number = suc there.number; at = there.at })
    rest e (inr none) = inr (never e none)

    by : (b : Bool) → bytes_eq value x ≡ b → IsFound xs value ⊎ ((n : ℕ) → slice_get xs n ≡ Some value → ⊥) → IsFound (x ∷ xs) value ⊎ ((n : ℕ) → slice_get (x ∷ xs) n ≡ Some value → ⊥)
    by true e more = inl (record { number = 0; at = ap Some (sym ((bytes_decides value x).0 e)) })
    by false e more = rest e more

amount_absent : (lexicon : List (List ℕ)) (counts : List ℕ) (value : List ℕ) → ((n : ℕ) → slice_get lexicon n ≡ Some value → ⊥) → amount_of lexicon counts value ≡ 0
amount_absent [] counts value none = refl
amount_absent (x ∷ xs) [] value none = refl
amount_absent (x ∷ xs) (c ∷ cs) value none = ap₂ ◌+◌ (by (bytes_eq value x) refl) (amount_absent xs cs value (λ n. none (suc n)))
  where
    by : (b : Bool) → bytes_eq value x ≡ b → cond b c 0 ≡ 0
    by true e = absurd (none 0 (ap Some (sym ((bytes_decides value x).0 e))))
    by false e = refl

amount_alone : (lexicon : List (List ℕ)) (counts : List ℕ) (value : List ℕ) (n : ℕ) → length counts ≡ length lexicon → slice_get lexicon n ≡ Some value → ((m : ℕ) → slice_get lexicon m ≡ Some value → m ≡ n) → amount_of lexicon counts value ≡ get_or counts n 0
amount_alone [] counts value n l at only = absurd cc
amount_alone (x ∷ xs) [] value n l at only = absurd (omega arith)
amount_alone (x ∷ xs) (c ∷ cs) value zero l at only =
    let same : x ≡ value = same_Some x value at in
    let plain : c + 0 ≡ c = omega arith in
    ap₂ ◌+◌ (ap (λ (b : Bool). cond b c 0) ((bytes_decides value x).1 (sym same))) (amount_absent xs cs value (λ m e. let later = only (suc m) e in absurd (omega (arith, later)))) ∙ plain
amount_alone (x ∷ xs) (c ∷ cs) value (suc n) l at only =
    let plain : (m : ℕ) → 0 + m ≡ m = λ m. omega arith in
    ap₂ ◌+◌ (by (bytes_eq value x) refl) (amount_alone xs cs value n (omega arith) at (λ m e. let later = only (suc m) e in omega (arith, later))) ∙ plain (get_or cs n 0)
  where
    by : (b : Bool) → bytes_eq value x ≡ b → cond b c 0 ≡ 0
    by true e = let first = only 0 (ap Some (sym ((bytes_decides value x).0 e))) in absurd (omega (arith, first))
    by false e = refl

-- A number stands for a value: at the places that have the value, and with its count.
record IsNumberOf (tables : Tables) (attr : ℕ) (at : ℕ → ℕ) (value : List ℕ) (number : ℕ) : Type 0 where
  places : (place : ℕ) → place < token_count tables → bytes_eq value (told_value tables attr place) ≡ (at place == number)
  amount : (counts : List ℕ) → length counts ≡ length (tables_at tables.attrs attr).lexicon → amount_of (tables_at tables.attrs attr).lexicon counts value ≡ get_or counts number 0

past_end : (counts : List ℕ) (n : ℕ) → length counts ≤ n → get_or counts n 0 ≡ 0
past_end [] n l = refl
past_end (c ∷ cs) zero l = absurd (omega arith)
past_end (c ∷ cs) (suc n) l = past_end cs n (omega arith)

module _ (tables : Tables) (attr : ℕ) (at : ℕ → ℕ) (ascending : IsAscending (tables_at tables.attrs attr).lexicon) (are : (place : ℕ) → place < token_count tables → at place ≡ number_at tables attr place)
    (within : (place : ℕ) → place < token_count tables → number_at tables attr place < length (tables_at tables.attrs attr).lexicon) where
  told_there : (place : ℕ) → place < token_count tables → slice_get (tables_at tables.attrs attr).lexicon (at place) ≡ Some (told_value tables attr place)
  told_there place l =
      let lexicon = (tables_at tables.attrs attr).lexicon in
      ap (slice_get lexicon) (are place l) ∙ slice_get-get_or lexicon (number_at tables attr place) [] (within place l)

  number_of : (value : List ℕ) → (number : ℕ) × IsNumberOf tables attr at value number
  number_of value = by (found_or_not (tables_at tables.attrs attr).lexicon value)
    where
      lexicon : List (List ℕ)
      lexicon = (tables_at tables.attrs attr).lexicon

      by : IsFound lexicon value ⊎ ((n : ℕ) → slice_get lexicon n ≡ Some value → ⊥) → (number : ℕ) × IsNumberOf tables attr at value number
      by (inl found) = (
        found.number,
        record {
          places = λ place l. each place l (bytes_eq value (told_value tables attr place)) refl;
          amount = λ counts l. amount_alone lexicon counts value found.number l found.at (λ m e. one_number lexicon m found.number value ascending e found.at);
        },
      )
        where
          each : (place : ℕ) → place < token_count tables → (b : Bool) → bytes_eq value (told_value tables attr place) ≡ b → bytes_eq value (told_value tables attr place) ≡ (at place == found.number)
          each place l true e =
              let is : value ≡ told_value tables attr place = (bytes_decides value (told_value tables attr place)).0 e in
              let same : at place ≡ found.number = one_number lexicon (at place) found.number value ascending (told_there place l ∙ ap Some (sym is)) found.at in
              e ∙ sym (eq-eqb (at place) found.number same)
          each place l false e =
              let differ : at place ≡ found.number → ⊥ = λ same.
              let is : told_value tables attr place ≡ value = same_Some (told_value tables attr place) value (sym (told_there place l) ∙ ap (slice_get lexicon) same ∙ found.at) in
              true≢false (sym ((bytes_decides value (told_value tables attr place)).1 (sym is)) ∙ e) in
              e ∙ sym (ne_eqb (at place) found.number differ)
      by (inr none) = (
        length lexicon,
        record {
          places = λ place l. each place l (bytes_eq value (told_value tables attr place)) refl;
          amount = λ counts l. amount_absent lexicon counts value none ∙ sym (past_end counts (length lexicon) (omega (arith, l)));
        },
      )
        where
          each : (place : ℕ) → place < token_count tables → (b : Bool) → bytes_eq value (told_value tables attr place) ≡ b → bytes_eq value (told_value tables attr place) ≡ (at place == length lexicon)
          each place l true e = absurd (none (at place) (told_there place l ∙ ap Some (sym ((bytes_decides value (told_value tables attr place)).0 e))))
          each place l false e = e ∙ sym (ne_eqb (at place) (length lexicon) (λ same. absurd (omega (arith, same, are place l, within place l))))

  -- ## A value in a window

  either : (a b : Bool) (m n : ℕ) → cond a 1 0 ≡ min 1 m → cond b 1 0 ≡ min 1 n → cond (a || b) 1 0 ≡ min 1 (m + n)
  either true b m n is_a is_b = omega (arith, is_a)
  either false b m n is_a is_b = let none : m ≡ 0 = omega (arith, is_a) in omega (arith, none, is_b)

  one_count : (b : Bool) → cond b 1 0 ≡ min 1 (cond b 1 0)
  one_count true = omega arith
  one_count false = omega arith

  in_run : (value : List ℕ) (number : ℕ) → IsNumberOf tables attr at value number → (from count : ℕ) → from + count ≤ token_count tables →
      cond (list_any (bytes_eq value) (map (told_value tables attr) (range_with_len from count))) 1 0 ≡ min 1 (count_by (λ place. at place == number) (range_with_len from count))
  in_run value number is from zero l = refl
  in_run value number is from (suc count) l =
      either (bytes_eq value (told_value tables attr from)) (list_any (bytes_eq value) (map (told_value tables attr) (range_with_len (from + 1) count))) (cond (at from == number) 1 0) (count_by (λ place. at place == number) (range_with_len (from + 1) count))
      (ap (λ (b : Bool). cond b 1 0) (is.places from (omega (arith, l))) ∙ one_count (at from == number)) (in_run value number is (from + 1) count (omega (arith, l)))
      ∙ ap (λ (n : ℕ). min 1 n) (sym (sum_by-cons (λ place. cond (at place == number) 1 0) from (range_with_len (from + 1) count)))

  in_places : (value : List ℕ) (number : ℕ) → IsNumberOf tables attr at value number → (places : Places) → places.before_from ≤ places.before_to → places.before_to ≤ token_count tables → places.behind_from ≤ places.behind_to → places.behind_to ≤ token_count tables →
      cond (list_any (bytes_eq value) (values_in tables attr places)) 1 0 ≡ min 1 (in_window at number places)
  in_places value number is places before before_to behind behind_to =
      let one = range_with_len places.before_from (places.before_to - places.before_from) in
      let two = range_with_len places.behind_from (places.behind_to - places.behind_from) in
      ap (λ (values : List (List ℕ)). cond (list_any (bytes_eq value) values) 1 0) (map-append (told_value tables attr) one two)
      ∙ ap (λ (b : Bool). cond b 1 0) (list_any-append (bytes_eq value) (map (told_value tables attr) one) (map (told_value tables attr) two))
      ∙ either (list_any (bytes_eq value) (map (told_value tables attr) one)) (list_any (bytes_eq value) (map (told_value tables attr) two)) (with_number at number places.before_from places.before_to) (with_number at number places.behind_from places.behind_to)
      (in_run value number is places.before_from (places.before_to - places.before_from) (omega (arith, before, before_to))) (in_run value number is places.behind_from (places.behind_to - places.behind_from) (omega (arith, behind, behind_to)))

  -- ## Spans

  module _ (near : Span → List (List ℕ)) (spans : List Span) (windows : ℕ → Places) (from : ℕ) (of : (k : ℕ) → Span) where
    having_run : (value : List ℕ) (number : ℕ) → IsNumberOf tables attr at value number → (count : ℕ) → from + count ≤ length spans →
        ((k : ℕ) → from ≤ k → k < from + count → cond (list_any (bytes_eq value) (near (get_or spans k (of k)))) 1 0 ≡ min 1 (in_window at number (windows k))) →
        having near value (take (from + count) spans) ≡ having near value (take from spans) + spans_with at number windows from count
    having_run value number is zero l same = let none : from + 0 ≡ from = omega arith in omega (arith, ap (λ (n : ℕ). having near value (take n spans)) none)
    having_run value number is (suc count) l same =
        let next : from + suc count ≡ from + count + 1 = omega arith in
        let one : having near value (take (from + count + 1) spans) ≡ having near value (take (from + count) spans) + cond (list_any (bytes_eq value) (near (get_or spans (from + count) (of (from + count))))) 1 0 =
        sum_by_more (λ s. cond (list_any (bytes_eq value) (near s)) 1 0) spans (from + count) (of (from + count)) (omega (arith, l)) in
        omega (arith, ap (λ (n : ℕ). having near value (take n spans)) next, one, same (from + count) (omega arith) (omega arith), having_run value number is count (omega (arith, l)) (λ k a b. same k a (omega (arith, b))))

pub spans_seen_at : (all : List Seen) (n : ℕ) → get_or (spans_seen all) n 0 ≡ (seen_at all n).spans
spans_seen_at [] n = refl
spans_seen_at (s ∷ all) zero = refl
spans_seen_at (s ∷ all) (suc n) = spans_seen_at all n

pub spans_seen_length : (all : List Seen) → length (spans_seen all) ≡ length all
spans_seen_length [] = refl
spans_seen_length (s ∷ all) = ap suc (spans_seen_length all)

-- ## All of it

pub lexicon_ascending : (tables : Tables) → AreTables tables → (attr : ℕ) → attr < length tables.attrs → IsAscending (tables_at tables.attrs attr).lexicon
lexicon_ascending tables known attr l =
    let by = known.under.by in
    (have known.under.images known.registry by.corpus tables by.are attr (omega (arith, l, by.are.attr_count))).lexicon.ascending

pub more_by_numbers : (tables : Tables) (attr : ℕ) (at : ℕ → ℕ) → IsAscending (tables_at tables.attrs attr).lexicon → ((place : ℕ) → place < token_count tables → at place ≡ number_at tables attr place) →
    ((place : ℕ) → place < token_count tables → number_at tables attr place < length (tables_at tables.attrs attr).lexicon) → (near : Span → List (List ℕ)) (spans : List Span) (windows : ℕ → Places) (from to : ℕ) (none : Span) (old new : List Seen) → from ≤ to → to ≤ length spans →
    length old ≡ length (tables_at tables.attrs attr).lexicon → length new ≡ length old →
    ((k : ℕ) → from ≤ k → k < to → near (get_or spans k none) ≡ values_in tables attr (windows k)) →
    ((k : ℕ) → from ≤ k → k < to → ((windows k).before_from ≤ (windows k).before_to) × ((windows k).before_to ≤ token_count tables) × ((windows k).behind_from ≤ (windows k).behind_to) × ((windows k).behind_to ≤ token_count tables)) →
    ((number : ℕ) → (seen_at new number).spans ≡ (seen_at old number).spans + spans_with at number windows from (to - from)) →
    AreMore (tables_at tables.attrs attr).lexicon near spans from to (spans_seen old) (spans_seen new)
more_by_numbers tables attr at ascending are within near spans windows from to none old new order to_within count same_count near_is fit counted = record {
  each = λ value.
      let lexicon = (tables_at tables.attrs attr).lexicon in
      let found = number_of tables attr at ascending are within value in
      let number = found.0 in
      let reached : from + (to - from) ≡ to = omega (arith, order) in
      let new_is : amount_of lexicon (spans_seen new) value ≡ (seen_at new number).spans = found.1.amount (spans_seen new) (spans_seen_length new ∙ same_count ∙ count) ∙ spans_seen_at new number in
      let old_is : amount_of lexicon (spans_seen old) value ≡ (seen_at old number).spans = found.1.amount (spans_seen old) (spans_seen_length old ∙ count) ∙ spans_seen_at old number in
      let run = having_run tables attr at ascending are within near spans windows from (λ k. none) value number found.1 (to - from) (omega (arith, order, to_within))
      (λ k a b.
      let l : k < to = omega (arith, b, order) in
      ap (λ (values : List (List ℕ)). cond (list_any (bytes_eq value) values) 1 0) (near_is k a l)
      ∙ in_places tables attr at ascending are within value number found.1 (windows k) (fit k a l).0 (fit k a l).1 (fit k a l).2 (fit k a l).3) in
      omega (arith, new_is, old_is, run, ap (λ (n : ℕ). having near value (take n spans)) reached, counted number);
}
