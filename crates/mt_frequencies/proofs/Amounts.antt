-- Counts by the numbers of a segment are counts of its values.
use Rattle.std.proofs.Common.{◌≡◌, ℕ, zero, suc, ◌+◌, ◌-◌, ◌^◌, ◌<◌, ◌≤◌, ◌⊎◌, inl, inr, Bool, true, false, cond, nat_eq, ◌||◌, ℤ, Some, List, [], ◌∷◌, length, map, replicate, set, take, get_or, slice_get, refl, sym, ◌∙◌, ap, ap₂, subst, arith}
use Rattle.std.specs.List.{IsDistinct, list_any}
use Rattle.std.specs.Str.{bytes_eq}
use Rattle.std.specs.Cmp.Lexicographic.{pointwise, bytes_decides}
use Rattle.std.proofs.lemmas.Bool.{cases_eq}
use Rattle.std.proofs.lemmas.Option.{same_Some, slice_get-get_or, slice_get_within}
use Rattle.std.proofs.lemmas.List.{get_or-set_same, get_or-set_other, get_or_default, length-take}
use Rattle.std.proofs.lemmas.List.Sums.{sum_by_more}
use Rattle.mt_text_spec.specs.Texts.{Span}
use Rattle.mt_segment_spec.specs.Tables.{Tables, number_at, tables_at}
use Rattle.mt_reports.specs.Told.{told_value}
use Rattle.mt_frequencies.specs.declared.tally.Count.{Count}
use Rattle.mt_frequencies.specs.Amounts.{AreMore, HasAmounts, IsRaised, amount_of, having, places_told, raised, values_told}
use Rattle.mt_frequencies.specs.Tallies.{IsTally, Tallied, count_of, counts_in}
use Rattle.mt_frequencies.proofs.Counted.{count_at, count_set}

-- ## Counts by numbers

pub amount_zeros : (lexicon : List (List ℕ)) (counts : List ℕ) (value : List ℕ) → ((n : ℕ) → n < length counts → get_or counts n 0 ≡ 0) → amount_of lexicon counts value ≡ 0
amount_zeros [] counts value zeros = refl
amount_zeros (x ∷ xs) [] value zeros = refl
amount_zeros (x ∷ xs) (c ∷ cs) value zeros = ap₂ ◌+◌ (by (bytes_eq value x)) (amount_zeros xs cs value (λ n l. zeros (suc n) (omega arith)))
  where
    by : (b : Bool) → cond b c 0 ≡ 0
    by true = zeros 0 (omega arith)
    by false = refl

pub zeros_at : (n k : ℕ) → ◌≡◌ {A = ℕ} (get_or (replicate n 0) k 0) 0
zeros_at zero k = refl
zeros_at (suc n) zero = refl
zeros_at (suc n) (suc k) = zeros_at n k

-- one more for a number
amount_set : (lexicon : List (List ℕ)) (counts : List ℕ) (n : ℕ) (w : List ℕ) (c : ℕ) → n < length counts → slice_get lexicon n ≡ Some w → c ≡ get_or counts n 0 → (v : List ℕ) → amount_of lexicon (set counts n (c + 1)) v ≡ amount_of lexicon counts v + cond (bytes_eq v w) 1 0
amount_set [] counts n w c l at is v = absurd cc
amount_set (x ∷ xs) [] n w c l at is v = absurd (omega arith)
amount_set (x ∷ xs) (d ∷ cs) zero w c l at is v =
    let same : x ≡ w = same_Some x w at in
    by (bytes_eq v x) ∙ ap (λ (z : List ℕ). (cond (bytes_eq v x) d 0 + amount_of xs cs v) + cond (bytes_eq v z) 1 0) same
  where
    by : (b : Bool) → cond b (c + 1) 0 + amount_of xs cs v ≡ (cond b d 0 + amount_of xs cs v) + cond b 1 0
    by true = omega (arith, is)
    by false = omega arith
amount_set (x ∷ xs) (d ∷ cs) (suc n) w c l at is v =
    let rest = amount_set xs cs n w c (omega arith) at is v in
    omega (arith, rest)

pub set_few : (counts : List ℕ) (n c k : ℕ) → n < length counts → c ≡ get_or counts n c → get_or (set counts n (c + 1)) k 0 ≤ get_or counts k 0 + 1
set_few counts n c k l is = by (cases_eq n k)
  where
    by : (n ≡ k) ⊎ (n ≡ k → ⊥) → get_or (set counts n (c + 1)) k 0 ≤ get_or counts k 0 + 1
    by (inl same) =
        let here : get_or (set counts n (c + 1)) k 0 ≡ c + 1 = ap (λ (m : ℕ). get_or (set counts n (c + 1)) m 0) (sym same) ∙ get_or-set_same counts n (c + 1) 0 l in
        let own : c ≡ get_or counts k 0 = is ∙ get_or_default counts n c 0 l ∙ ap (λ (m : ℕ). get_or counts m 0) same in
        omega (arith, here, own)
    by (inr differ) = let here : get_or (set counts n (c + 1)) k 0 ≡ get_or counts k 0 = get_or-set_other counts n k (c + 1) 0 (λ e. differ (sym e)) in omega (arith, here)

-- ## A begin

module _ (tables : Tables) (attr text : ℕ) (distance : ℤ) (begin : ℕ) where
  -- no place
  pub none_told : (counts : List ℕ) → places_told tables text distance begin ≡ [] → (v : List ℕ) → amount_of (tables_at tables.attrs attr).lexicon counts v ≡ amount_of (tables_at tables.attrs attr).lexicon counts v + cond (list_any (bytes_eq v) (values_told tables attr text distance begin)) 1 0
  none_told counts none v =
      let amount = amount_of (tables_at tables.attrs attr).lexicon counts v in
      let plain : amount ≡ amount + 0 = omega arith in
      plain ∙ sym (ap (λ (ps : List ℕ). amount + cond (list_any (bytes_eq v) (map (told_value tables attr) ps)) 1 0) none)

  -- one place
  pub one_told : (counts : List ℕ) (place number value : ℕ) → places_told tables text distance begin ≡ place ∷ [] → number ≡ number_at tables attr place → number < length (tables_at tables.attrs attr).lexicon → length counts ≡ length (tables_at tables.attrs attr).lexicon →
      value ≡ get_or counts number value → (v : List ℕ) → amount_of (tables_at tables.attrs attr).lexicon (set counts number (value + 1)) v ≡ amount_of (tables_at tables.attrs attr).lexicon counts v + cond (list_any (bytes_eq v) (values_told tables attr text distance begin)) 1 0
  one_told counts place number value one is within count value_is v =
      let lexicon = (tables_at tables.attrs attr).lexicon in
      let there : slice_get lexicon number ≡ Some (told_value tables attr place) = slice_get-get_or lexicon number [] within ∙ ap (λ (n : ℕ). Some (get_or lexicon n [])) is in
      let inside : number < length counts = omega (arith, within, count) in
      amount_set lexicon counts number (told_value tables attr place) value inside there (value_is ∙ get_or_default counts number value 0 inside) v
      ∙ ap (λ (b : Bool). amount_of lexicon counts v + cond b 1 0) (alone (bytes_eq v (told_value tables attr place)))
      ∙ sym (ap (λ (ps : List ℕ). amount_of lexicon counts v + cond (list_any (bytes_eq v) (map (told_value tables attr) ps)) 1 0) one)
    where
      alone : (b : Bool) → b ≡ (b || false)
      alone true = refl
      alone false = refl

-- ## Spans from one on and before another

module _ (lexicon : List (List ℕ)) (near : Span → List (List ℕ)) (spans : List Span) where
  having_more : (v : List ℕ) (k : ℕ) (span : Span) → k < length spans → having near v (take (k + 1) spans) ≡ having near v (take k spans) + cond (list_any (bytes_eq v) (near (get_or spans k span))) 1 0
  having_more v k span l = sum_by_more (λ s. cond (list_any (bytes_eq v) (near s)) 1 0) spans k span l

  at_most_one : (b : Bool) → cond b 1 0 ≤ 1
  at_most_one true = omega arith
  at_most_one false = omega arith

  having_few : (v : List ℕ) (from more : ℕ) → from + more ≤ length spans → having near v (take (from + more) spans) ≤ having near v (take from spans) + more
  having_few v from zero l = let same : from + 0 ≡ from = omega arith in omega (arith, ap (λ (n : ℕ). having near v (take n spans)) same)
  having_few v from (suc more) l =
      let span : Span = record { text = 0; begin = 0; end = 0 } in
      let next : from + suc more ≡ from + more + 1 = omega arith in
      let one = having_more v (from + more) span (omega arith) in
      omega (arith, ap (λ (n : ℕ). having near v (take n spans)) next, one, at_most_one (list_any (bytes_eq v) (near (get_or spans (from + more) span))), having_few v from more (omega arith))

  pub more_none : (from : ℕ) (old : List ℕ) → AreMore lexicon near spans from from old old
  more_none from old = record { each = λ v. refl }

  pub more_one : (from k : ℕ) (span : Span) (values : List (List ℕ)) (old counts new : List ℕ) → k < length spans → near (get_or spans k span) ≡ values → AreMore lexicon near spans from k old counts →
      ((v : List ℕ) → amount_of lexicon new v ≡ amount_of lexicon counts v + cond (list_any (bytes_eq v) values) 1 0) → AreMore lexicon near spans from (k + 1) old new
  more_one from k span values old counts new l is more one = record {
    each = λ v. omega (arith, having_more v k span l, ap {B = ℕ} (λ (vs : List (List ℕ)). cond (list_any (bytes_eq v) vs) 1 0) is, more.each v, one v);
  }

  pub amounts_none : (from : ℕ) (counts : List ℕ) → length counts ≡ length lexicon → ((n : ℕ) → n < length counts → get_or counts n 0 ≡ 0) → HasAmounts lexicon near spans from from counts
  amounts_none from counts count zeros = record { count = count; each = λ v. omega (arith, amount_zeros lexicon counts v zeros) }

  pub amounts_more : (from mid to : ℕ) (counts new : List ℕ) → length new ≡ length counts → HasAmounts lexicon near spans from mid counts → AreMore lexicon near spans mid to counts new → HasAmounts lexicon near spans from to new
  amounts_more from mid to counts new same amounts more = record { count = same ∙ amounts.count; each = λ v. omega (arith, amounts.each v, more.each v) }

  -- a tally to which they are added
  module _ (from to : ℕ) (order : from ≤ to) (within : to ≤ length spans) (counts : List ℕ) (amounts : HasAmounts lexicon near spans from to counts) (old : List ℕ → Count) (tally : IsTally near (take from spans) old) where
    amount_few : (v : List ℕ) → amount_of lexicon counts v ≤ to - from
    amount_few v =
        let reached : from + (to - from) ≡ to = omega arith in
        omega (arith, having_few v from (to - from) (omega (arith, order, within)), ap (λ (n : ℕ). having near v (take n spans)) reached, amounts.each v)

    pub last_few : (v : List ℕ) → (old v).last + amount_of lexicon counts v ≤ to
    last_few v = omega (arith, amount_few v, tally.last v, length-take from spans, order)

    pub tally_added : (new : List ℕ → Count) → ((v : List ℕ) → new v ≡ raised (amount_of lexicon counts v) (old v)) → IsTally near (take to spans) new
    tally_added new is = record {
      spans = λ v. omega (arith, ap (λ (c : Count). c.spans) (is v), amounts.each v, tally.spans v);
      last = λ v. omega (arith, ap (λ (c : Count). c.last) (is v), last_few v, length-take to spans, within);
    }

-- ## Counts that are added to a tally

pub raised_none : (count : Count) → count ≡ raised 0 count
raised_none count = let same : (n : ℕ) → n ≡ n + 0 = λ n. omega arith in λ i. record { spans = same count.spans i; last = same count.last i }

raised_again : (count : Count) (a b : ℕ) → raised b (raised a count) ≡ raised (a + b) count
raised_again count a b = let same : (n : ℕ) → n + a + b ≡ n + (a + b) = λ n. omega arith in λ i. record { spans = same count.spans i; last = same count.last i }

amount_next : (lexicon : List (List ℕ)) (counts : List ℕ) (i : ℕ) (w v : List ℕ) → i < length counts → slice_get lexicon i ≡ Some w → amount_of (take (suc i) lexicon) (take (suc i) counts) v ≡ amount_of (take i lexicon) (take i counts) v + cond (bytes_eq v w) (get_or counts i 0) 0
amount_next [] counts i w v l at = absurd cc
amount_next (x ∷ xs) [] i w v l at = absurd (omega arith)
amount_next (x ∷ xs) (c ∷ cs) zero w v l at = let same : x ≡ w = same_Some x w at in let plain : cond (bytes_eq v x) c 0 + 0 ≡ 0 + cond (bytes_eq v x) c 0 = omega arith in plain ∙ ap (λ (z : List ℕ). 0 + cond (bytes_eq v z) c 0) same
amount_next (x ∷ xs) (c ∷ cs) (suc i) w v l at = omega (arith, amount_next xs cs i w v (omega arith) at)

amount_front : (lexicon : List (List ℕ)) (counts : List ℕ) (i : ℕ) (v : List ℕ) → amount_of (take i lexicon) (take i counts) v ≤ amount_of lexicon counts v
amount_front [] [] zero v = omega arith
amount_front [] [] (suc i) v = omega arith
amount_front [] (c ∷ cs) zero v = omega arith
amount_front [] (c ∷ cs) (suc i) v = omega arith
amount_front (x ∷ xs) [] zero v = omega arith
amount_front (x ∷ xs) [] (suc i) v = omega arith
amount_front (x ∷ xs) (c ∷ cs) zero v = omega arith
amount_front (x ∷ xs) (c ∷ cs) (suc i) v = omega (arith, amount_front xs cs i v)

module _ (lexicon : List (List ℕ)) (counts : List ℕ) (i : ℕ) (w : List ℕ) (l : i < length counts) (at : slice_get lexicon i ≡ Some w) (old mid : List ℕ → Count) (before : (v : List ℕ) → mid v ≡ raised (amount_of (take i lexicon) (take i counts) v) (old v)) where
  next : (v : List ℕ) → amount_of (take (i + 1) lexicon) (take (i + 1) counts) v ≡ amount_of (take i lexicon) (take i counts) v + cond (bytes_eq v w) (get_or counts i 0) 0
  next v = let one : i + 1 ≡ suc i = omega arith in ap (λ (n : ℕ). amount_of (take n lexicon) (take n counts) v) one ∙ amount_next lexicon counts i w v l at

  itself : bytes_eq w w ≡ true
  itself = (bytes_decides w w).1 refl

  pub has_room : ((v : List ℕ) → (old v).last + amount_of lexicon counts v < 2 ^ 32) → (mid w).last + get_or counts i 0 < 2 ^ 32
  has_room few =
      let own : cond (bytes_eq w w) (get_or counts i 0) 0 ≡ get_or counts i 0 = ap (λ (b : Bool). cond b (get_or counts i 0) 0) itself in
      omega (arith, own, next w, amount_front lexicon counts (i + 1) w, few w, ap (λ (c : Count). c.last) (before w))

  pub added_next : (new : List ℕ → Count) (more : ℕ) → more ≡ get_or counts i 0 → IsRaised mid w more new → (v : List ℕ) → new v ≡ raised (amount_of (take (i + 1) lexicon) (take (i + 1) counts) v) (old v)
  added_next new more is one v =
      one.each v
      ∙ ap₂ raised (ap (λ (n : ℕ). cond (bytes_eq v w) n 0) is) (before v)
      ∙ raised_again (old v) (amount_of (take i lexicon) (take i counts) v) (cond (bytes_eq v w) (get_or counts i 0) 0)
      ∙ ap (λ (n : ℕ). raised n (old v)) (sym (next v))

-- nothing is added
pub raised_no : (old new : List ℕ → Count) (w : List ℕ) (more : ℕ) → more ≡ 0 → ((v : List ℕ) → new v ≡ old v) → IsRaised old w more new
raised_no old new w more is same = record { each = λ v. same v ∙ raised_none (old v) ∙ sym (ap (λ (n : ℕ). raised n (old v)) (by v (bytes_eq v w))) }
  where
    by : (v : List ℕ) (b : Bool) → cond b more 0 ≡ 0
    by v true = is
    by v false = refl

-- a tally tells the same of what was there before
pub raised_from : (old mid new : List ℕ → Count) (w : List ℕ) (more : ℕ) → ((v : List ℕ) → mid v ≡ old v) → IsRaised mid w more new → IsRaised old w more new
raised_from old mid new w more same one = record { each = λ v. one.each v ∙ ap (raised (cond (bytes_eq v w) more 0)) (same v) }

pub raised_at : (tally : Tallied) (values : List (List ℕ)) (counts : List Count) (k more : ℕ) (count raised_is : Count) → record { values = values; counts = counts } ≡ tally → IsDistinct (pointwise nat_eq) tally.values → length values ≡ length counts →
    count ≡ get_or counts k count → raised_is ≡ raised more count → (w : List ℕ) → slice_get tally.values k ≡ Some w → IsRaised (counts_in tally) w more (count_of values (set counts k raised_is))
raised_at tally values counts k more count raised_is view distinct_in_tally l is is_raised w at = record {
  each = λ v.
      ap (λ (c : Count). count_of values (set counts k c) v) is_raised ∙ count_set values counts k w (raised more count) distinct l e v ∙ by v (bytes_eq v w) refl
      ∙ ap (λ (t : Tallied). raised (cond (bytes_eq v w) more 0) (counts_in t v)) view;
}
  where
    distinct : IsDistinct (pointwise nat_eq) values
    distinct = subst (λ (t : Tallied). IsDistinct (pointwise nat_eq) t.values) (sym view) distinct_in_tally

    e : slice_get values k ≡ Some w
    e = ap (λ (t : Tallied). slice_get t.values k) view ∙ at

    none : Count
    none = record { spans = 0; last = 0 }

    own_count : count ≡ count_of values counts w
    own_count = is ∙ get_or_default counts k count none (omega (arith, slice_get_within values k w e, l)) ∙ sym (count_at values counts k w distinct l e)

    by : (v : List ℕ) (b : Bool) → bytes_eq v w ≡ b → cond b (raised more count) (count_of values counts v) ≡ raised (cond b more 0) (count_of values counts v)
    by v true e = let same : v ≡ w = (bytes_decides v w).0 e in ap (raised more) (own_count ∙ ap (count_of values counts) (sym same))
    by v false e = raised_none (count_of values counts v)
