-- What is counted for numbers while places are gone through.
use Rattle.std.proofs.Common.{◌≡◌, ℕ, zero, suc, ◌+◌, ◌-◌, ◌^◌, ◌<◌, ◌≤◌, ◌==◌, ◌⊎◌, inl, inr, min, max, Bool, true, false, cond, nat_lt, List, length, replicate, set, refl, sym, ◌∙◌, ap, subst, arith}
use Rattle.std.specs.List.{count_by, range_with_len}
use Rattle.std.proofs.lemmas.Bool.{cases_eq, cases_lt, eq-eqb, ne_eqb}
use Rattle.std.proofs.lemmas.List.{get_or-set_same, get_or-set_other, length-set}
use Rattle.std.proofs.lemmas.List.Sums.{sum_by-append}
use Rattle.mt_frequencies.specs.declared.distances.Places.{Places}
use Rattle.mt_frequencies.specs.declared.seen.Reached.{Reached}
use Rattle.mt_frequencies.specs.declared.seen.Seen.{Seen}
use Rattle.mt_frequencies.specs.Seen.{AreAlmostPast, ArePart, ArePast, AreReached, HasRoom, IsReached, in_window, no_seen, opened, seen_at, spans_with, total, with_number}
use Rattle.mt_frequencies.proofs.Places.{split_range}

-- ## Places with a number

module _ (at : ℕ → ℕ) (number : ℕ) where
  pub with_none : (from to : ℕ) → to ≤ from → with_number at number from to ≡ 0
  with_none from to l = let none : to - from ≡ 0 = omega arith in ap (λ (n : ℕ). count_by (λ place. at place == number) (range_with_len from n)) none

  plain_sum : (n : ℕ) → 0 + n ≡ n
  plain_sum n = omega arith

  with_more : (from place : ℕ) → from ≤ place → with_number at number from (place + 1) ≡ with_number at number from place + cond (at place == number) 1 0
  with_more from place l =
      let size : place + 1 - from ≡ (place - from) + 1 = omega arith in
      let mid : from + (place - from) ≡ place = omega arith in
      ap (λ (n : ℕ). count_by (λ p. at p == number) (range_with_len from n)) size
      ∙ ap (count_by (λ p. at p == number)) (split_range from (place - from) 1)
      ∙ sum_by-append (λ p. cond (at p == number) 1 0) (range_with_len from (place - from)) (range_with_len (from + (place - from)) 1)
      ∙ ap (λ (k : ℕ). with_number at number from place + count_by (λ p. at p == number) (range_with_len k 1)) mid
      ∙ ap (λ (k : ℕ). with_number at number from place + k) (plain_sum (cond (at place == number) 1 0))

  pub with_yes : (from place : ℕ) → from ≤ place → at place ≡ number → with_number at number from (place + 1) ≡ with_number at number from place + 1
  with_yes from place l is = with_more from place l ∙ ap (λ (b : Bool). with_number at number from place + cond b 1 0) (eq-eqb (at place) number is)

  pub with_no : (from place : ℕ) → from ≤ place → (at place ≡ number → ⊥) → with_number at number from (place + 1) ≡ with_number at number from place
  with_no from place l not =
      let same : with_number at number from place + 0 ≡ with_number at number from place = omega arith in
      with_more from place l ∙ ap (λ (b : Bool). with_number at number from place + cond b 1 0) (ne_eqb (at place) number not) ∙ same

-- ## One place

-- what is counted is written at its number
pub are_reached : (at : Reached) (old : List Seen) (number : ℕ) (new : Seen) → number < length old → IsReached at (seen_at old number) new → AreReached number at old (set old number new)
are_reached at old number new l is = record {
  count = length-set old number new;
  here = subst (IsReached at (seen_at old number)) (sym (get_or-set_same old number new no_seen l)) is;
  others = λ other differ. get_or-set_other old number other new no_seen differ;
}

-- no span stands at the place
pub none_opened : (seen : Seen) (at : Reached) → at.own ≡ 0 → opened seen at ≡ 0
none_opened seen at none = by (nat_lt (max seen.last at.first) at.own)
  where
    by : (b : Bool) → cond b at.own 0 ≡ 0
    by true = none
    by false = refl

-- nothing is counted at first
pub none_at : (n k : ℕ) → ◌≡◌ {A = Seen} (seen_at (replicate n no_seen) k) no_seen
none_at zero k = refl
none_at (suc n) zero = refl
none_at (suc n) (suc k) = none_at n k

pub past_none : (span n : ℕ) → ArePast span (replicate n no_seen)
past_none span n = record {
  spans = λ k. omega (arith, ap (λ (s : Seen). s.spans) (none_at n k));
  last = λ k. omega (arith, ap (λ (s : Seen). s.last) (none_at n k));
  alone = λ k. omega (arith, ap (λ (s : Seen). s.alone) (none_at n k));
}

-- ## One span

pub past_almost : (span : ℕ) (all : List Seen) → ArePast span all → AreAlmostPast span all
past_almost span all past = record {
  spans = λ n. omega (arith, past.spans n, past.last n);
  last = λ n. omega (arith, past.last n);
  alone = past.alone;
}

pub part_none : (at : ℕ → ℕ) (from span : ℕ) (old : List Seen) → ArePart at from from span old old
part_none at from span old = record {
  count = refl;
  last = λ n some. absurd (omega (arith, some, with_none at n from from (omega arith)));
  spans = λ n some. absurd (omega (arith, some, with_none at n from from (omega arith)));
  others = λ n none. refl;
}

pub part_room : (at : Reached) (span number : ℕ) (all : List Seen) → at.first ≡ span → at.behind ≡ span + 1 → at.own ≡ 0 → span < 2 ^ 32 - 1 → AreAlmostPast span all → HasRoom at (seen_at all number)
part_room at span number all first behind own few past = record {
  order = omega (arith, past.last number, first, behind);
  own = omega (arith, own);
  few = omega (arith, past.spans number, past.alone number, none_opened (seen_at all number) at own, first, behind, few);
}

module _ (at : ℕ → ℕ) (from place span : ℕ) (reached : Reached) (old mid new : List Seen) (order : from ≤ place) (first : reached.first ≡ span) (behind : reached.behind ≡ span + 1) (own : reached.own ≡ 0)
    (past : AreAlmostPast span mid) (part : ArePart at from place span old mid) (step : AreReached (at place) reached mid new) where
  none : opened (seen_at mid (at place)) reached ≡ 0
  none = none_opened (seen_at mid (at place)) reached own

  -- the number at the place
  here : (n : ℕ) → at place ≡ n → ((seen_at new n).spans + (span + 1 - max (seen_at new n).last span) ≤ span + 1) × ((seen_at new n).last ≡ span + 1) × ((seen_at new n).alone ≡ 0) × ((seen_at new n).spans ≡ (seen_at mid n).spans + (span + 1 - max (seen_at mid n).last span))
  here n is =
      let now : seen_at new n ≡ seen_at new (at place) = ap (seen_at new) (sym is) in
      let was : seen_at mid n ≡ seen_at mid (at place) = ap (seen_at mid) (sym is) in
      let last : (seen_at new n).last ≡ span + 1 = ap (λ (s : Seen). s.last) now ∙ step.here.last ∙ behind in
      let spans : (seen_at new n).spans ≡ (seen_at mid n).spans + (span + 1 - max (seen_at mid n).last span) =
      omega (arith, ap (λ (s : Seen). s.spans) now, ap (λ (s : Seen). s.spans) was, ap (λ (s : Seen). s.last) was, step.here.spans, none, past.alone (at place), first, behind) in
      (omega (arith, last, spans, past.spans n), last, ap (λ (s : Seen). s.alone) now ∙ step.here.alone ∙ none, spans)

  other : (n : ℕ) → (at place ≡ n → ⊥) → seen_at new n ≡ seen_at mid n
  other n differ = step.others n (λ e. differ (sym e))

  pub part_past : AreAlmostPast span new
  part_past = record { spans = λ n. (by n (cases_eq (at place) n)).0; last = λ n. (by n (cases_eq (at place) n)).1; alone = λ n. (by n (cases_eq (at place) n)).2 }
    where
      by : (n : ℕ) → (at place ≡ n) ⊎ (at place ≡ n → ⊥) → ((seen_at new n).spans + (span + 1 - max (seen_at new n).last span) ≤ span + 1) × ((seen_at new n).last ≤ span + 1) × ((seen_at new n).alone ≤ span)
      by n (inl is) = let own = here n is in (own.0, omega (arith, own.1), omega (arith, own.2))
      by n (inr differ) =
          let same = other n differ in
          (omega (arith, ap (λ (s : Seen). s.spans) same, ap (λ (s : Seen). s.last) same, past.spans n), omega (arith, ap (λ (s : Seen). s.last) same, past.last n), omega (arith, ap (λ (s : Seen). s.alone) same, past.alone n))

  pub part_more : ArePart at from (place + 1) span old new
  part_more = record {
    count = step.count ∙ part.count;
    last = λ n some. (by n (cases_eq (at place) n)).0 some;
    spans = λ n some. (by n (cases_eq (at place) n)).1 some;
    others = λ n none. (by n (cases_eq (at place) n)).2 none;
  }
    where
      since : (n : ℕ) → (0 < with_number at n from place) ⊎ (with_number at n from place ≤ 0) → (seen_at new n).spans ≡ (seen_at mid n).spans + (span + 1 - max (seen_at mid n).last span) → (seen_at new n).spans ≡ (seen_at old n).spans + (span + 1 - max (seen_at old n).last span)
      since n (inl some) is = omega (arith, is, part.last n some, part.spans n some)
      since n (inr none) is = let same = part.others n (omega (arith, none)) in omega (arith, is, ap (λ (s : Seen). s.spans) same, ap (λ (s : Seen). s.last) same)

      by : (n : ℕ) → (at place ≡ n) ⊎ (at place ≡ n → ⊥) →
          (0 < with_number at n from (place + 1) → (seen_at new n).last ≡ span + 1) × (0 < with_number at n from (place + 1) → (seen_at new n).spans ≡ (seen_at old n).spans + (span + 1 - max (seen_at old n).last span)) × (with_number at n from (place + 1) ≡ 0 → seen_at new n ≡ seen_at old n)
      by n (inl is) = let own = here n is in (λ some. own.1, λ some. since n (cases_lt 0 (with_number at n from place)) own.3, λ none. absurd (omega (arith, none, with_yes at n from place order is)))
      by n (inr differ) =
          let same = other n differ in
          let count = with_no at n from place order differ in
          (λ some. ap (λ (s : Seen). s.last) same ∙ part.last n (omega (arith, some, count)), λ some. ap (λ (s : Seen). s.spans) same ∙ part.spans n (omega (arith, some, count)), λ none. same ∙ part.others n (sym count ∙ none))

-- both parts of a window
module _ (at : ℕ → ℕ) (places : Places) (span : ℕ) (old mid new : List Seen) (past : ArePast span old) (before : ArePart at places.before_from places.before_to span old mid) (behind : ArePart at places.behind_from places.behind_to span mid new) (almost : AreAlmostPast span new) where
  pub one_past : ArePast (span + 1) new
  one_past = record { spans = λ n. omega (arith, almost.spans n, almost.last n); last = almost.last; alone = λ n. omega (arith, almost.alone n) }

  pub one_counted : (n : ℕ) → (seen_at new n).spans ≡ (seen_at old n).spans + min 1 (in_window at n places)
  one_counted n = by (cases_lt 0 (with_number at n places.before_from places.before_to)) (cases_lt 0 (with_number at n places.behind_from places.behind_to))
    where
      by : (0 < with_number at n places.before_from places.before_to) ⊎ (with_number at n places.before_from places.before_to ≤ 0) → (0 < with_number at n places.behind_from places.behind_to) ⊎ (with_number at n places.behind_from places.behind_to ≤ 0) →
          (seen_at new n).spans ≡ (seen_at old n).spans + min 1 (in_window at n places)
      by (inl one) (inl two) = omega (arith, one, two, before.spans n one, before.last n one, behind.spans n two, past.last n)
      by (inl one) (inr two) = omega (arith, one, two, before.spans n one, ap (λ (s : Seen). s.spans) (behind.others n (omega (arith, two))), past.last n)
      by (inr one) (inl two) = let same = before.others n (omega (arith, one)) in omega (arith, one, two, ap (λ (s : Seen). s.spans) same, ap (λ (s : Seen). s.last) same, behind.spans n two, past.last n)
      by (inr one) (inr two) = omega (arith, one, two, ap (λ (s : Seen). s.spans) (behind.others n (omega (arith, two))), ap (λ (s : Seen). s.spans) (before.others n (omega (arith, one))))

-- ## Spans

pub spans_none : (at : ℕ → ℕ) (number : ℕ) (windows : ℕ → Places) (from : ℕ) → spans_with at number windows from (from - from) ≡ 0
spans_none at number windows from = let none : from - from ≡ 0 = omega arith in ap (spans_with at number windows from) none

pub spans_more : (at : ℕ → ℕ) (number : ℕ) (windows : ℕ → Places) (from span : ℕ) → from ≤ span → spans_with at number windows from (span + 1 - from) ≡ spans_with at number windows from (span - from) + min 1 (in_window at number (windows span))
spans_more at number windows from span l =
    let size : span + 1 - from ≡ suc (span - from) = omega arith in
    let here : from + (span - from) ≡ span = omega arith in
    ap (spans_with at number windows from) size ∙ ap (λ (n : ℕ). spans_with at number windows from (span - from) + min 1 (in_window at number (windows n))) here

total_split : (f : ℕ → ℕ) (from m n : ℕ) → total f from (m + n) ≡ total f from m + total f (from + m) n
total_split f from m zero = let same : m + 0 ≡ m = omega arith in omega (arith, ap (total f from) same)
total_split f from m (suc n) =
    let next : m + suc n ≡ suc (m + n) = omega arith in
    let here : from + (m + n) ≡ from + m + n = omega arith in
    omega (arith, ap (total f from) next, ap f here, total_split f from m n)

pub spans_join : (at : ℕ → ℕ) (number : ℕ) (windows : ℕ → Places) (from mid to : ℕ) → from ≤ mid → mid ≤ to → spans_with at number windows from (to - from) ≡ spans_with at number windows from (mid - from) + spans_with at number windows mid (to - mid)
spans_join at number windows from mid to l m =
    let size : to - from ≡ (mid - from) + (to - mid) = omega (arith, l, m) in
    let here : from + (mid - from) ≡ mid = omega (arith, l) in
    ap (spans_with at number windows from) size ∙ total_split (λ span. min 1 (in_window at number (windows span))) from (mid - from) (to - mid)
    ∙ ap (λ (n : ℕ). spans_with at number windows from (mid - from) + spans_with at number windows n (to - mid)) here
