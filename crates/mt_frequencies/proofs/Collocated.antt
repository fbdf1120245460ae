-- What is listed of a tally and of the tokens with its values.
use Rattle.std.proofs.Common.{◌≡◌, ℕ, zero, suc, ◌+◌, ◌-◌, ◌*◌, ◌<◌, ◌≤◌, ◌⊎◌, inl, inr, Bool, true, false, cond, nat_eq, ℤ, pos, List, [], ◌∷◌, ◌++◌, length, map, filter, take, get_or, refl, sym, ◌∙◌, ap, subst, arith}
use Rattle.std.specs.List.{All, AllByRecursion, IsDistinct, count_by, flat_map, list_any, range_with_len}
use Rattle.std.specs.List.Sorted.{IsPermutation, IsSorted}
use Rattle.std.specs.Cmp.Lexicographic.{pointwise, bytes_decides}
use Rattle.std.specs.Str.{bytes_eq}
use Rattle.std.proofs.lemmas.Bool.{cases_lt}
use Rattle.std.proofs.lemmas.List.{map_more}
use Rattle.std.proofs.lemmas.List.Elements.{All-contains, All-from_recursion}
use Rattle.std.proofs.lemmas.List.Sorted.{length_permutation}
use Rattle.std.proofs.lemmas.List.Sums.{count_by-le-length, sum_by-cons}
use Rattle.std.proofs.lemmas.Option.{get_or_from_slice_get, slice_get_within}
use Rattle.std.proofs.lemmas.Simd.{map-map}
use Rattle.mt_text_spec.specs.Registries.{Registry}
use Rattle.mt_text_spec.specs.Texts.{Span, Text}
use Rattle.mt_match_spec.specs.Values.{Images, value_at}
use Rattle.mt_match_spec.specs.Rows.{ListsAll}
use Rattle.mt_match_laws.proofs.Members.{Member, each_member, from_member, in_back, in_either, in_front, to_member}
use Rattle.mt_sketch_spec.specs.Score.{IsScore}
use Rattle.mt_score.proofs.Order.{unique}
use Rattle.mt_report_spec.specs.Held.{LiesIn}
use Rattle.mt_report_spec.specs.Lines.{text_at}
use Rattle.mt_report_spec.specs.Near.{Near, in_window, last_token, places_at, values_by}
use Rattle.mt_report_spec.specs.Counts.{Collocate, CollocationText, Frequency, IsCollocate, collocate_cmp, collocate_line, number_line, spans_with, token_values, tokens_with}
use Rattle.mt_report_laws.specs.Orders.{collocate_total, same_collocate}
use Rattle.mt_report_laws.proofs.Near.{counted as some_near}
use Rattle.mt_report_laws.proofs.Listed.{none}
use Rattle.mt_report_laws.proofs.Scored.{a_score}
use Rattle.mt_frequencies.specs.Collocates.{AreScores, HasPlace, collocate_of}
use Rattle.mt_frequencies.specs.Tallies.{IsTally, Tallied, counts_in, frequency_of, is_counted}
use Rattle.mt_frequencies.proofs.Listed.{is_there}
use Rattle.mt_frequencies.proofs.Nearby.{below, places_within}
use Rattle.mt_frequencies.proofs.Ordered.{IsMadeOf, lists_all}
use Rattle.mt_frequencies.proofs.Placed.{less, not_less}

-- ## A value near a span is one of a token

-- the item from which one of many came
record IsFrom {X Y : Type 0} (f : X → List Y) (xs : List X) (y : Y) : Type 0 where
  item : X
  member : Member item xs
  there : Member y (f item)

came_from : {X Y : Type 0} (f : X → List Y) (xs : List X) (y : Y) → Member y (flat_map f xs) → IsFrom f xs y
came_from f [] y m = absurd m
came_from f (x ∷ xs) y m = elim (in_either (f x) (flat_map f xs) y m) [
  | inl here ↦ record { item = x; member = inl refl; there = here }
  | inr more ↦ let rest = came_from f xs y more in record { item = rest.item; member = inr rest.member; there = rest.there }
]

goes_to : {X Y : Type 0} (f : X → List Y) (xs : List X) (x : X) (y : Y) → Member x xs → Member y (f x) → Member y (flat_map f xs)
goes_to f [] x y m there = absurd m
goes_to f (z ∷ zs) x y (inl same) there = in_front (f z) (flat_map f zs) y (subst (λ (w : _). Member y (f w)) same there)
goes_to f (z ∷ zs) x y (inr more) there = in_back (f z) (flat_map f zs) y (goes_to f zs x y more there)

-- the number whose image one is
record IsImage {Y : Type 0} (f : ℕ → Y) (xs : List ℕ) (y : Y) : Type 0 where
  item : ℕ
  member : Member item xs
  is : y ≡ f item

image_of : {Y : Type 0} (f : ℕ → Y) (xs : List ℕ) (y : Y) → Member y (map f xs) → IsImage f xs y
image_of f [] y m = absurd m
image_of f (x ∷ xs) y (inl same) = record { item = x; member = inl refl; is = same }
image_of f (x ∷ xs) y (inr more) = let rest = image_of f xs y more in record { item = rest.item; member = inr rest.member; is = rest.is }

in_range : {Y : Type 0} (f : ℕ → Y) (from count k : ℕ) → k < count → Member (f (from + k)) (map f (range_with_len from count))
in_range f from zero k l = absurd (omega arith)
in_range f from (suc count) zero l = inl (let same : from + 0 ≡ from = omega arith in ap f same)
in_range f from (suc count) (suc k) l =
    let same : from + 1 + k ≡ from + suc k = omega arith in
    inr (subst (λ (n : ℕ). Member (f n) (map f (range_with_len (from + 1) count))) same (in_range f (from + 1) count k (omega arith)))

from_start : {Y : Type 0} (f : ℕ → Y) (count k : ℕ) → k < count → Member (f k) (map f (range_with_len 0 count))
from_start f count k l = let same : 0 + k ≡ k = omega arith in subst (λ (n : ℕ). Member (f n) (map f (range_with_len 0 count))) same (in_range f 0 count k l)

is_counted_there : (value : List ℕ) (xs : List (List ℕ)) → Member value xs → 0 < count_by (bytes_eq value) xs
is_counted_there value [] m = absurd m
is_counted_there value (x ∷ xs) (inl same) =
    omega (arith, ap {B = ℕ} (λ (b : Bool). cond b 1 0) ((bytes_decides value x).1 same), sum_by-cons (λ v. cond (bytes_eq value v) 1 0) x xs)
is_counted_there value (x ∷ xs) (inr more) = omega (arith, is_counted_there value xs more, sum_by-cons (λ v. cond (bytes_eq value v) 1 0) x xs)

module _ (images : Images) (registry : Registry) (corpus : List Text) (spans : List Span) (lie : All (LiesIn corpus) spans) where
  has_tokens : (near : Near) (value : List ℕ) → 0 < spans_with images registry corpus near spans value → 0 < tokens_with images registry corpus near.attr value
  has_tokens near value some =
      let from = came_from (values_by images registry corpus near) spans value (some_near (values_by images registry corpus near) value spans some) in
      let span = from.item in
      let lies : LiesIn corpus span = All-contains (LiesIn corpus) spans span lie (from_member spans span from.member) in
      let text = lies.text in
      let text_is : text_at corpus span.text ≡ text = get_or_from_slice_get corpus span.text text (record { name = []; tokens = []; structs = [] }) lies.there in
      let own : Member value (map (value_at images registry text near.attr) (places_at (length text.tokens) span.begin (last_token near span) near.distances)) =
      subst (λ (t : Text). Member value (map (value_at images registry t near.attr) (places_at (length t.tokens) span.begin (last_token near span) near.distances))) text_is from.there in
      let image = image_of (value_at images registry text near.attr) (places_at (length text.tokens) span.begin (last_token near span) near.distances) value own in
      let within : image.item < length text.tokens =
      each_member (λ p. p < length text.tokens) (places_at (length text.tokens) span.begin (last_token near span) near.distances) image.item
      (places_within (length text.tokens) span.begin (last_token near span) near.distances (omega (arith, lies.some, lies.inside))) image.member in
      let there : Member value (token_values images registry near.attr text) =
      subst (λ (v : List ℕ). Member v (token_values images registry near.attr text)) (sym image.is) (from_start (value_at images registry text near.attr) (length text.tokens) image.item within) in
      let member : Member text corpus = to_member corpus text (span.text, slice_get_within corpus span.text text lies.there, get_or_from_slice_get corpus span.text text text lies.there) in
      is_counted_there value (flat_map (token_values images registry near.attr) corpus) (goes_to (token_values images registry near.attr) corpus text value member there)

-- so each value that is counted has a place
pub places_there : (images : Images) (registry : Registry) (corpus : List Text) (spans : List Span) → All (LiesIn corpus) spans → (near : Near) (tally : Tallied) (more_than : ℕ) (told : List ℕ → ℕ) →
    IsTally (values_by images registry corpus near) spans (counts_in tally) → ((value : List ℕ) → told value ≡ tokens_with images registry corpus near.attr value) →
    All (HasPlace (length spans) told) (map (frequency_of (counts_in tally)) (filter (is_counted more_than (counts_in tally)) tally.values))
places_there images registry corpus spans lie near tally more_than told counts tokens = All-from_recursion (HasPlace (length spans) told) _ (each tally.values)
  where
    has : (value : List ℕ) → is_counted more_than (counts_in tally) value ≡ true → HasPlace (length spans) told (frequency_of (counts_in tally) value)
    has value kept =
        let more = below more_than (counts_in tally value).spans kept in
        let some : 0 < spans_with images registry corpus near spans value = omega (arith, more, counts.spans value) in
        record {
          some = omega (arith, more);
          fewer = omega (arith, tokens value, counts.spans value, has_tokens images registry corpus spans lie near value some, count_by-le-length (λ span. list_any (bytes_eq value) (values_by images registry corpus near span)) spans);
        }

    each : (values : List (List ℕ)) → AllByRecursion (HasPlace (length spans) told) (map (frequency_of (counts_in tally)) (filter (is_counted more_than (counts_in tally)) values))
    each [] = tt
    each (value ∷ values) = by (is_counted more_than (counts_in tally) value) refl (each values)
      where
        by : (b : Bool) → is_counted more_than (counts_in tally) value ≡ b → AllByRecursion (HasPlace (length spans) told) (map (frequency_of (counts_in tally)) (filter (is_counted more_than (counts_in tally)) values)) →
            AllByRecursion (HasPlace (length spans) told) (map (frequency_of (counts_in tally)) (cond b (value ∷ filter (is_counted more_than (counts_in tally)) values) (filter (is_counted more_than (counts_in tally)) values)))
        by true kept rest = (has value kept, rest)
        by false left rest = rest

-- ## Scores

-- the score of a fraction, and 0 of none
a_score_of : (two_f sum : ℕ) → (0 < two_f) ⊎ (two_f ≤ 0) → ℤ
a_score_of two_f sum (inl some) = (a_score two_f sum some).0
a_score_of two_f sum (inr no_fraction) = pos 0

pub scores : ℕ → ℕ → ℤ
scores two_f sum = a_score_of two_f sum (cases_lt 0 two_f)

pub are_scores : AreScores scores
unfolding scores a_score_of
are_scores two_f sum some = by (cases_lt 0 two_f)
  where
    by : (d : (0 < two_f) ⊎ (two_f ≤ 0)) → IsScore two_f sum (a_score_of two_f sum d)
    by (inl l) = (a_score two_f sum l).1
    by (inr l) = absurd (omega (arith, some, l))

-- a collocate that is made of its parts
pub collocate_made : (scores : ℕ → ℕ → ℤ) → AreScores scores → (spans tokens both : ℕ) (value : List ℕ) (score told : ℤ) (two_f sum : ℕ) (one : Frequency) → told ≡ score → IsScore two_f sum score → two_f ≡ 2 * both → sum ≡ spans + tokens → 0 < both →
    record { value = value; spans = both } ≡ one → record { value = value; both = both; tokens = tokens; score = told } ≡ collocate_of scores spans (λ v. tokens) one
collocate_made scores are spans tokens both value score told two_f sum one told_is scored two_is sum_is some view =
    let own : IsScore (2 * both) (spans + tokens) score = subst (λ (n : ℕ). IsScore (2 * both) n score) sum_is (subst (λ (n : ℕ). IsScore n sum score) two_is scored) in
    let same : told ≡ scores (2 * both) (spans + tokens) = told_is ∙ unique _ _ score _ own (are (2 * both) (spans + tokens) (omega (arith, some))) in
    (λ i. record { value = value; both = both; tokens = tokens; score = same i }) ∙ ap (collocate_of scores spans (λ v. tokens)) view

-- one collocate more
pub collocate_more : (scores : ℕ → ℕ → ℤ) (spans : ℕ) (told : List ℕ → ℕ) (frequent : List Frequency) (i : ℕ) (one : Frequency) (tokens : ℕ) (made : Collocate) (all new : List Collocate) → i < length frequent → one ≡ get_or frequent i one → tokens ≡ told one.value →
    made ≡ collocate_of scores spans (λ v. tokens) one → all ≡ map (collocate_of scores spans told) (take i frequent) → new ≡ all ++ made ∷ [] → new ≡ map (collocate_of scores spans told) (take (i + 1) frequent)
collocate_more scores spans told frequent i one tokens made all new l is same made_is all_is new_is =
    let own : made ≡ collocate_of scores spans told one = made_is ∙ ap (λ (n : ℕ). record { value = one.value; both = one.spans; tokens = n; score = scores (2 * one.spans) (spans + n) }) same in
    new_is ∙ ap (λ (xs : List Collocate). xs ++ made ∷ []) all_is ∙ ap (λ (x : Collocate). map (collocate_of scores spans told) (take i frequent) ++ x ∷ []) (own ∙ ap (collocate_of scores spans told) is)
    ∙ sym (map_more (collocate_of scores spans told) frequent i one l)

-- ## Collocations

module _ (images : Images) (registry : Registry) (corpus : List Text) (spans : List Span) (attr : ℕ) (first last : ℤ) (least more_than : ℕ) (tally : Tallied) (told : List ℕ → ℕ)
    (counted : IsTally (values_by images registry corpus (in_window attr first last)) spans (counts_in tally)) (tokens : (value : List ℕ) → told value ≡ tokens_with images registry corpus attr value)
    (bound : more_than ≡ least - 1) where
  made : List ℕ → Collocate
  made value = collocate_of scores (length spans) told (frequency_of (counts_in tally) value)

  only : (value : List ℕ) → is_counted more_than (counts_in tally) value ≡ true → IsCollocate images registry corpus spans attr first last least (made value)
  unfolding made
  only value kept =
      let more = below more_than (counts_in tally value).spans kept in
      record {
        count = counted.spans value;
        some = omega (arith, more);
        enough = omega (arith, more, bound);
        tokens_are = tokens value;
        scored = are_scores (2 * (counts_in tally value).spans) (length spans + told value) (omega (arith, more));
      }

  each : (x : Collocate) → IsCollocate images registry corpus spans attr first last least x → IsMadeOf made (is_counted more_than (counts_in tally)) tally.values x
  unfolding made
  each x is =
      let same : x.both ≡ (counts_in tally x.value).spans = is.count ∙ sym (counted.spans x.value) in
      let all : x.tokens ≡ told x.value = is.tokens_are ∙ sym (tokens x.value) in
      let some : 0 < (counts_in tally x.value).spans = omega (arith, is.some, same) in
      let two : 2 * x.both ≡ 2 * (counts_in tally x.value).spans = omega (arith, same) in
      let sum : length spans + x.tokens ≡ length spans + told x.value = omega (arith, all) in
      let own : IsScore (2 * (counts_in tally x.value).spans) (length spans + told x.value) x.score =
      subst (λ (n : ℕ). IsScore (2 * (counts_in tally x.value).spans) n x.score) sum (subst (λ (n : ℕ). IsScore n (length spans + x.tokens) x.score) two is.scored) in
      let score = unique _ _ x.score _ own (are_scores (2 * (counts_in tally x.value).spans) (length spans + told x.value) (omega (arith, some))) in
      record {
        value = x.value;
        member = is_there tally x.value some;
        kept = less more_than (counts_in tally x.value).spans (omega (arith, is.enough, is.some, same, bound));
        is = λ i. record { value = x.value; both = same i; tokens = all i; score = score i };
      }

  lists : (all : List Collocate) → IsDistinct (pointwise nat_eq) tally.values → IsPermutation (map made (filter (is_counted more_than (counts_in tally)) tally.values)) all → (0 < length spans → IsSorted (collocate_cmp (length spans)) all) →
      (0 < length spans) ⊎ (length spans ≤ 0) → ListsAll (collocate_cmp (length spans)) (IsCollocate images registry corpus spans attr first last least) all
  unfolding made
  lists all distinct moved up (inl some) =
      lists_all (collocate_total (length spans) some) made (λ v w. same_collocate (length spans) (made v) (made w)) (is_counted more_than (counts_in tally)) (IsCollocate images registry corpus spans attr first last least) tally.values all distinct
      (λ v m kept. only v kept) each moved (up some)
  lists all distinct moved up (inr few) = subst (ListsAll (collocate_cmp (length spans)) (IsCollocate images registry corpus spans attr first last least)) (sym (empty all (length_permutation _ all moved ∙ nothing tally.values))) (none (collocate_cmp (length spans)) (IsCollocate images registry corpus spans attr first last least) never)
    where
      most : (value : List ℕ) → spans_with images registry corpus (in_window attr first last) spans value ≤ length spans
      most value = count_by-le-length (λ span. list_any (bytes_eq value) (values_by images registry corpus (in_window attr first last) span)) spans

      never : (x : Collocate) → IsCollocate images registry corpus spans attr first last least x → ⊥
      never x is = omega (arith, is.some, is.count, most x.value, few)

      left : (value : List ℕ) → is_counted more_than (counts_in tally) value ≡ false
      left value = not_less more_than (counts_in tally value).spans (omega (arith, counted.spans value, most value, few))

      nothing : (values : List (List ℕ)) → length (map made (filter (is_counted more_than (counts_in tally)) values)) ≡ 0
      nothing [] = refl
      nothing (value ∷ values) = ap (λ (b : Bool). length (map made (cond b (value ∷ filter (is_counted more_than (counts_in tally)) values) (filter (is_counted more_than (counts_in tally)) values)))) (left value) ∙ nothing values

      empty : (xs : List Collocate) → length xs ≡ 0 → xs ≡ []
      empty [] e = refl
      empty (x ∷ xs) e = absurd (omega (arith, e))

  pub collocations_listed : (all : List Collocate) → IsDistinct (pointwise nat_eq) tally.values → IsPermutation (map (collocate_of scores (length spans) told) (map (frequency_of (counts_in tally)) (filter (is_counted more_than (counts_in tally)) tally.values))) all →
      (0 < length spans → IsSorted (collocate_cmp (length spans)) all) → CollocationText images registry corpus spans attr first last least (number_line (length all) ∷ map collocate_line all)
  unfolding made
  collocations_listed all distinct moved up = record {
    all = all;
    are = lists all distinct
        (subst (λ (xs : List Collocate). IsPermutation xs all) (map-map (collocate_of scores (length spans) told) (frequency_of (counts_in tally)) (filter (is_counted more_than (counts_in tally)) tally.values)) moved) up
        (cases_lt 0 (length spans));
    says = refl;
  }
