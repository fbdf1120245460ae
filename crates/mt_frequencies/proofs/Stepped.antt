-- The spans of a run are counted place by place.
use Rattle.std.proofs.Common.{◌≡◌, ℕ, zero, suc, ◌+◌, ◌-◌, ◌<◌, ◌≤◌, ◌==◌, ◌⊎◌, inl, inr, min, max, cond, refl, sym, ◌∙◌, ap, ap₂, subst, arith}
use Rattle.std.specs.List.{count_by, range_with_len}
use Rattle.std.proofs.lemmas.Bool.{cases_eq, cases_lt}
use Rattle.std.proofs.lemmas.List.Sums.{sum_by-append}
use Rattle.mt_frequencies.specs.declared.seen.Seen.{Seen}
use Rattle.mt_frequencies.specs.Seen.{total, with_number}
use Rattle.mt_frequencies.proofs.Places.{split_range}
use Rattle.mt_frequencies.proofs.Parts.{with_no, with_none, with_yes}

-- ## Sums

pub total_same : (f g : ℕ → ℕ) (from count : ℕ) → ((s : ℕ) → from ≤ s → s < from + count → f s ≡ g s) → total f from count ≡ total g from count
total_same f g from zero same = refl
total_same f g from (suc count) same = ap₂ ◌+◌ (total_same f g from count (λ s l m. same s l (omega (arith, m)))) (same (from + count) (omega arith) (omega arith))

total_few : (f : ℕ → ℕ) (from count : ℕ) → ((s : ℕ) → f s ≤ 1) → total f from count ≤ count
total_few f from zero few = omega arith
total_few f from (suc count) few = omega (arith, total_few f from count few, few (from + count))

total_none : (f : ℕ → ℕ) (from count : ℕ) → ((s : ℕ) → from ≤ s → s < from + count → f s ≡ 0) → total f from count ≡ 0
total_none f from zero none = refl
total_none f from (suc count) none = omega (arith, total_none f from count (λ s l m. none s l (omega (arith, m))), none (from + count) (omega arith) (omega arith))

-- whether a number is one from one on and before another: 1 or 0
abbrev among : (from to span : ℕ) → ℕ
among from to span = min to (span + 1) - max from span

total_among : (x y from count : ℕ) → total (among x y) from count ≡ min y (from + count) - max x from
total_among x y from zero = omega arith
total_among x y from (suc count) = omega (arith, total_among x y from count)

among_in : (x y s : ℕ) → x ≤ s → s < y → among x y s ≡ 1
among_in x y s l m = omega (arith, l, m)

among_out : (x y s : ℕ) → (s < x) ⊎ (y ≤ s) → among x y s ≡ 0
among_out x y s (inl l) = omega (arith, l)
among_out x y s (inr l) = omega (arith, l)

single_in : (x s : ℕ) → x ≡ s + 1 → among (x - 1) x s ≡ 1
single_in x s is = among_in (x - 1) x s (omega (arith, is)) (omega (arith, is))

single_out : (x s : ℕ) → (x ≡ s + 1 → ⊥) → among (x - 1) x s ≡ 0
single_out x s apart = elim (cases_lt s x) [ inl l ↦ among_out (x - 1) x s (inl (omega (arith, l, apart))) | inr l ↦ among_out (x - 1) x s (inr l) ]

total_run : (x y from count : ℕ) → from ≤ x → x ≤ y → y ≤ from + count → total (among x y) from count ≡ y - x
total_run x y from count l m n = omega (arith, total_among x y from count, l, m, n)

total_single : (x from count : ℕ) → (x ≡ 0) ⊎ ((from < x) × (x ≤ from + count)) → total (among (x - 1) x) from count ≡ min 1 x
total_single x from count (inl none) = omega (arith, total_among (x - 1) x from count, none)
total_single x from count (inr (l, m)) = total_run (x - 1) x from count (omega (arith, l)) (omega (arith, l)) m ∙ one x l
  where
    one : (x : ℕ) → from < x → x - (x - 1) ≡ min 1 x
    one x l = omega (arith, l)

-- sums of the same
combined : (x a b y c p q r t u : ℕ) → x ≡ p → a ≡ q → b ≡ r → y ≡ t → c ≡ u → p + q + r ≡ t + u → x + a + b ≡ y + c
combined x a b y c p q r t u e f g h k sum = omega (arith, e, f, g, h, k, sum)

exchanged : (x a b y c q r u : ℕ) → x + a + b ≡ y + c → a ≡ q → b ≡ r → c ≡ u → x + q + r ≡ y + u
exchanged x a b y c q r u sum f g k = omega (arith, f, g, k, sum)

total_both : (p a b q c : ℕ → ℕ) (from count : ℕ) → ((s : ℕ) → from ≤ s → s < from + count → p s + a s + b s ≡ q s + c s) → total p from count + total a from count + total b from count ≡ total q from count + total c from count
total_both p a b q c from zero same = refl
total_both p a b q c from (suc count) same = omega (arith, total_both p a b q c from count (λ s l m. same s l (omega (arith, m))), same (from + count) (omega arith) (omega arith))

-- ## Places with a number

module _ (at : ℕ → ℕ) (n : ℕ) where
  with_split : (x y z : ℕ) → x ≤ y → y ≤ z → with_number at n x z ≡ with_number at n x y + with_number at n y z
  with_split x y z l m =
      let size : z - x ≡ (y - x) + (z - y) = omega arith in
      let mid : x + (y - x) ≡ y = omega arith in
      ap (λ (k : ℕ). count_by (λ p. at p == n) (range_with_len x k)) size
      ∙ ap (count_by (λ p. at p == n)) (split_range x (y - x) (z - y))
      ∙ sum_by-append (λ p. cond (at p == n) 1 0) (range_with_len x (y - x)) (range_with_len (x + (y - x)) (z - y))
      ∙ ap (λ (k : ℕ). with_number at n x y + count_by (λ p. at p == n) (range_with_len k (z - y))) mid

  -- a part has no more
  with_part : (x y u z : ℕ) → x ≤ y → u ≤ z → with_number at n y u ≤ with_number at n x z
  with_part x y u z l m = by (cases_lt y u)
    where
      by : (y < u) ⊎ (u ≤ y) → with_number at n y u ≤ with_number at n x z
      by (inl some) = omega (arith, with_split x y z l (omega (arith, some, m)), with_split y u z (omega (arith, some)) m)
      by (inr none) = omega (arith, with_none at n y u none)

  -- another number at a place
  with_other : (x p : ℕ) → (at p ≡ n → ⊥) → with_number at n x (p + 1) ≡ with_number at n x p
  with_other x p differ = by (cases_lt p x)
    where
      by : (p < x) ⊎ (x ≤ p) → with_number at n x (p + 1) ≡ with_number at n x p
      by (inl l) = with_none at n x (p + 1) (omega (arith, l)) ∙ sym (with_none at n x p (omega (arith, l)))
      by (inr l) = with_no at n x p l differ

  -- as far as a place
  up_to : (x y p : ℕ) → y ≤ p → with_number at n x (min y (p + 1)) ≡ with_number at n x (min y p)
  up_to x y p l = let same : min y (p + 1) ≡ min y p = omega (arith, l) in ap (with_number at n x) same

  past : (x y p : ℕ) → p < y → with_number at n x (min y p) ≡ with_number at n x p
  past x y p l = let same : min y p ≡ p = omega (arith, l) in ap (with_number at n x) same

  next : (x y p : ℕ) → p < y → with_number at n x (min y (p + 1)) ≡ with_number at n x (p + 1)
  next x y p l = let same : min y (p + 1) ≡ p + 1 = omega (arith, l) in ap (with_number at n x) same

-- ## A step

module _ (at : ℕ → ℕ) (a h b : ℕ → ℕ) (from to : ℕ) (fit : (s : ℕ) → from ≤ s → s < to → (a s ≤ h s) × (h s < b s)) where
  -- how many of two parts of a window, as far as a place, have a number: 1 if there is one, or 0
  abbrev pub has : (n p s : ℕ) → ℕ
  has n p s = min 1 (with_number at n (a s) (min (h s) p) + with_number at n (h s + 1) (min (b s) p))

  -- What was counted for a number when the places before one were gone through.
  pub record IsStepped (n p : ℕ) (old new : Seen) : Type 0 where
    pub spans : new.spans ≡ old.spans + total (has n p) from (to - from)
    pub last : new.last ≤ to
    pub alone : new.alone ≤ to
    pub reached : (s : ℕ) → from ≤ s → s < to → p ≤ b s → s < new.last → 0 < with_number at n (a s) p
    pub unreached : (s : ℕ) → from ≤ s → s < to → p ≤ b s → new.last ≤ s → with_number at n (a s) p ≡ 0
    pub opens : (s : ℕ) → from ≤ s → s < to → p ≤ b s → new.alone ≡ s + 1 → (s < new.last) × (has n p s ≡ 0)
    pub closed : (s : ℕ) → from ≤ s → s < to → p ≤ b s → s < new.last → has n p s ≡ 0 → new.alone ≡ s + 1

  -- at first
  pub stepped_none : (n p : ℕ) (old : Seen) → ((s : ℕ) → from ≤ s → s < to → p ≤ a s) → from ≤ to → old.last ≤ from → old.alone ≤ from → IsStepped n p old old
  stepped_none n p old before order last alone = record {
    spans = omega (arith, total_none (has n p) from (to - from) (λ s l m. none s l (omega (arith, m, order))));
    last = omega (arith, last, order);
    alone = omega (arith, alone, order);
    reached = λ s l m e k. absurd (omega (arith, l, k, last));
    unreached = λ s l m e k. with_none at n (a s) p (before s l m);
    opens = λ s l m e k. absurd (omega (arith, l, k, alone));
    closed = λ s l m e k. absurd (omega (arith, l, k, last));
  }
    where
      none : (s : ℕ) → from ≤ s → s < to → has n p s ≡ 0
      none s l m =
          let one = with_none at n (a s) (min (h s) p) (omega (arith, before s l m)) in
          let two = with_none at n (h s + 1) (min (b s) p) (omega (arith, before s l m, (fit s l m).0)) in
          omega (arith, one, two)

  -- another number stands at the place
  module _ (n p : ℕ) (differ : at p ≡ n → ⊥) where
    kept : (x y : ℕ) → with_number at n x (min y (p + 1)) ≡ with_number at n x (min y p)
    kept x y = by (cases_lt p y)
      where
        by : (p < y) ⊎ (y ≤ p) → with_number at n x (min y (p + 1)) ≡ with_number at n x (min y p)
        by (inl l) = next at n x y p l ∙ with_other at n x p differ ∙ sym (past at n x y p l)
        by (inr l) = up_to at n x y p l

    same_has : (s : ℕ) → has n (p + 1) s ≡ has n p s
    same_has s = omega (arith, kept (a s) (h s), kept (h s + 1) (b s))

    pub stepped_other : (old mid new : Seen) → new ≡ mid → IsStepped n p old mid → IsStepped n (p + 1) old new
    stepped_other old mid new same is = subst (IsStepped n (p + 1) old) (sym same) (record {
      spans = omega (arith, is.spans, total_same (has n (p + 1)) (has n p) from (to - from) (λ s l m. same_has s));
      last = is.last;
      alone = is.alone;
      reached = λ s l m e k. omega (arith, with_other at n (a s) p differ, is.reached s l m (omega (arith, e)) k);
      unreached = λ s l m e k. with_other at n (a s) p differ ∙ is.unreached s l m (omega (arith, e)) k;
      opens = λ s l m e k. let o = is.opens s l m (omega (arith, e)) k in (o.0, same_has s ∙ o.1);
      closed = λ s l m e k none. is.closed s l m (omega (arith, e)) k (sym (same_has s) ∙ none);
    })

  -- the number stands there
  module _ (p : ℕ) (first behind own : ℕ) (low : from ≤ first) (order : first ≤ behind) (high : behind ≤ to) (own_low : own ≤ behind)
      (passed : (s : ℕ) → from ≤ s → s < first → b s ≤ p) (reach : (s : ℕ) → first ≤ s → s < to → p < b s) (begun : (s : ℕ) → from ≤ s → s < behind → a s ≤ p) (ahead : (s : ℕ) → behind ≤ s → s < to → p < a s)
      (itself : (s : ℕ) → own ≡ s + 1 → (from ≤ s) × (h s ≡ p)) (all : (s : ℕ) → from ≤ s → s < to → h s ≡ p → own ≡ s + 1) (old mid : Seen) (is : IsStepped (at p) p old mid) where
    pub last_low : mid.last ≤ behind
    last_low = by (cases_lt behind mid.last)
      where
        by : (behind < mid.last) ⊎ (mid.last ≤ behind) → mid.last ≤ behind
        by (inl past_it) =
            let inside : behind < to = omega (arith, past_it, is.last) in
            let here : from ≤ behind = omega (arith, low, order) in
            let far = ahead behind (omega arith) inside in
            let some = is.reached behind here inside (omega (arith, far, fit behind here inside)) past_it in
            absurd (omega (arith, some, with_none at (at p) (a behind) p (omega (arith, far))))
        by (inr l) = l

    -- what happens to a span, where `o` is the span that was alone, if it reaches the place, and `w` the one that is alone then
    module _ (o w : ℕ) (o_is : ((first < mid.alone) × (o ≡ mid.alone)) ⊎ ((mid.alone ≤ first) × (o ≡ 0))) (w_is : ((max mid.last first < own) × (w ≡ own)) ⊎ ((own ≤ max mid.last first) × (w ≡ 0))) where
      o_apart : (s : ℕ) → (mid.alone ≡ s + 1 → ⊥) → o ≡ s + 1 → ⊥
      o_apart s apart e = by o_is
        where
          by : ((first < mid.alone) × (o ≡ mid.alone)) ⊎ ((mid.alone ≤ first) × (o ≡ 0)) → ⊥
          by (inl (l, same)) = apart (sym same ∙ e)
          by (inr (l, none)) = absurd (omega (arith, none, e))

      w_apart : (s : ℕ) → (own ≡ s + 1 → ⊥) → w ≡ s + 1 → ⊥
      w_apart s apart e = by w_is
        where
          by : ((max mid.last first < own) × (w ≡ own)) ⊎ ((own ≤ max mid.last first) × (w ≡ 0)) → ⊥
          by (inl (l, same)) = apart (sym same ∙ e)
          by (inr (l, none)) = absurd (omega (arith, none, e))

      aside : (s x y : ℕ) → x ≡ y → (behind ≤ s) ⊎ (s < max mid.last first) → (o ≡ s + 1 → ⊥) → (w ≡ s + 1 → ⊥) → x + among (max mid.last first) behind s + among (o - 1) o s ≡ y + among (w - 1) w s
      aside s x y same where_is no_o no_w =
          combined x (among (max mid.last first) behind s) (among (o - 1) o s) y (among (w - 1) w s) y 0 0 y 0 same (among_out (max mid.last first) behind s (by where_is)) (single_out o s no_o) refl (single_out w s no_w) (omega arith)
        where
          by : (behind ≤ s) ⊎ (s < max mid.last first) → (s < max mid.last first) ⊎ (behind ≤ s)
          by (inl l) = inr l
          by (inr l) = inl l

      pub record AtSpan (s : ℕ) : Type 0 where
        pub sum : has (at p) p s + among (max mid.last first) behind s + among (o - 1) o s ≡ has (at p) (p + 1) s + among (w - 1) w s
        pub opens : p < b s → w ≡ s + 1 → (s < behind) × (has (at p) (p + 1) s ≡ 0)
        pub closed : p < b s → s < behind → has (at p) (p + 1) s ≡ 0 → w ≡ s + 1

      -- its window has ended
      ended : (s : ℕ) → from ≤ s → s < to → s < first → AtSpan s
      ended s l m early =
          let done = passed s l early in
          let one = up_to at (at p) (a s) (h s) p (omega (arith, done, fit s l m)) in
          let two = up_to at (at p) (h s + 1) (b s) p done in
          let no_o : o ≡ s + 1 → ⊥ = λ e. elim o_is [ inl (k, same) ↦ absurd (omega (arith, k, same, e, early)) | inr (k, none) ↦ absurd (omega (arith, none, e)) ] in
          let no_w : w ≡ s + 1 → ⊥ = λ e. elim w_is [ inl (k, same) ↦ absurd (omega (arith, k, same, e, early)) | inr (k, none) ↦ absurd (omega (arith, none, e)) ] in
          let same : has (at p) p s ≡ has (at p) (p + 1) s = omega (arith, one, two) in
          record { sum = aside s (has (at p) p s) (has (at p) (p + 1) s) same (inr (omega (arith, early))) no_o no_w; opens = λ k. absurd (omega (arith, k, done)); closed = λ k. absurd (omega (arith, k, done)) }

      -- its window begins later
      later : (s : ℕ) → from ≤ s → s < to → behind ≤ s → AtSpan s
      later s l m late =
          let far = ahead s late m in
          let before = fit s l m in
          let none : (q : ℕ) → q ≤ p + 1 → has (at p) q s ≡ 0 = λ q k.
          let one = with_none at (at p) (a s) (min (h s) q) (omega (arith, far, k)) in
          let two = with_none at (at p) (h s + 1) (min (b s) q) (omega (arith, far, k, before)) in
          omega (arith, one, two) in
          let no_open : mid.alone ≡ s + 1 → ⊥ = λ e.
          let o = is.opens s l m (omega (arith, far, before)) e in
          absurd (omega (arith, is.reached s l m (omega (arith, far, before)) o.0, with_none at (at p) (a s) p (omega (arith, far)))) in
          let no_w : w ≡ s + 1 → ⊥ = w_apart s (λ e. absurd (omega (arith, e, own_low, late))) in
          let same : has (at p) p s ≡ has (at p) (p + 1) s = none p (omega arith) ∙ sym (none (p + 1) (omega arith)) in
          record { sum = aside s (has (at p) p s) (has (at p) (p + 1) s) same (inl late) (o_apart s no_open) no_w; opens = λ k e. absurd (no_w e); closed = λ k e. absurd (omega (arith, e, late)) }

      -- it stands at the place itself
      own_one : (s : ℕ) → from ≤ s → s < to → first ≤ s → s < behind → own ≡ s + 1 → AtSpan s
      own_one s l m early late e = by (cases_lt s mid.last)
        where
          place : h s ≡ p
          place = (itself s e).1

          before : p ≤ b s
          before = omega (arith, place, fit s l m)

          has_is : (q : ℕ) → p ≤ q → q ≤ p + 1 → has (at p) q s ≡ min 1 (with_number at (at p) (a s) p)
          has_is q k j =
              let same : min (h s) q ≡ p = omega (arith, place, k) in
              omega (arith, ap (with_number at (at p) (a s)) same, with_none at (at p) (h s + 1) (min (b s) q) (omega (arith, place, j)))

          by : (s < mid.last) ⊎ (mid.last ≤ s) → AtSpan s
          by (inl k) =
              let some = is.reached s l m before k in
              let one = has_is p (omega arith) (omega arith) in
              let two = has_is (p + 1) (omega arith) (omega arith) in
              let no_o : o ≡ s + 1 → ⊥ = o_apart s (λ x. let y = is.opens s l m before x in absurd (omega (arith, y.1, one, some))) in
              let no_w : w ≡ s + 1 → ⊥ = λ x. elim w_is [ inl (y, same) ↦ absurd (omega (arith, y, e, k)) | inr (y, none) ↦ absurd (omega (arith, none, x)) ] in
              let same : has (at p) p s ≡ has (at p) (p + 1) s = one ∙ sym two in
              record { sum = aside s (has (at p) p s) (has (at p) (p + 1) s) same (inr (omega (arith, k))) no_o no_w; opens = λ y x. absurd (no_w x); closed = λ y x none. absurd (omega (arith, none, two, some)) }
          by (inr k) =
              let none = is.unreached s l m before k in
              let one = has_is p (omega arith) (omega arith) in
              let two = has_is (p + 1) (omega arith) (omega arith) in
              let no_o : o ≡ s + 1 → ⊥ = o_apart s (λ x. let y = is.opens s l m before x in absurd (omega (arith, y.0, k))) in
              let w_own : w ≡ s + 1 = elim w_is [ inl (y, same) ↦ same ∙ e | inr (y, nothing) ↦ absurd (omega (arith, y, e, k, early)) ] in
              let first_is : has (at p) p s ≡ 0 = omega (arith, one, none) in
              let then_is : has (at p) (p + 1) s ≡ 0 = omega (arith, two, none) in
              record { sum = counts (has (at p) p s) (has (at p) (p + 1) s) first_is then_is no_o w_own k; opens = λ y x. (late, then_is); closed = λ y x z. w_own }
            where
              counts : (x y : ℕ) → x ≡ 0 → y ≡ 0 → (o ≡ s + 1 → ⊥) → w ≡ s + 1 → mid.last ≤ s → x + among (max mid.last first) behind s + among (o - 1) o s ≡ y + among (w - 1) w s
              counts x y is_x is_y no_o is_w k =
                  combined x (among (max mid.last first) behind s) (among (o - 1) o s) y (among (w - 1) w s) 0 1 0 0 1 is_x (among_in (max mid.last first) behind s (omega (arith, k, early)) late) (single_out o s no_o) is_y (single_in w s is_w) refl

      -- it reaches the place
      reached_one : (s : ℕ) → from ≤ s → s < to → first ≤ s → s < behind → (own ≡ s + 1 → ⊥) → AtSpan s
      reached_one s l m early late apart = by (cases_lt s mid.last) (cases_eq mid.alone (s + 1))
        where
          inside : p < b s
          inside = reach s early m

          begins : a s ≤ p
          begins = begun s l late

          elsewhere : h s ≡ p → ⊥
          elsewhere e = apart (all s l m e)

          now : has (at p) (p + 1) s ≡ 1
          now = elim (cases_lt p (h s)) [
            | inl k ↦ omega (arith, next at (at p) (a s) (h s) p k, with_yes at (at p) (a s) p begins refl)
            | inr k ↦ omega (arith, next at (at p) (h s + 1) (b s) p inside, with_yes at (at p) (h s + 1) p (omega (arith, k, elsewhere)) refl)
          ]

          no_w : w ≡ s + 1 → ⊥
          no_w = w_apart s apart

          rest : (opens : p < b s → w ≡ s + 1 → (s < behind) × (has (at p) (p + 1) s ≡ 0)) → has (at p) p s + among (max mid.last first) behind s + among (o - 1) o s ≡ has (at p) (p + 1) s + among (w - 1) w s → AtSpan s
          rest opens sum = record { sum = sum; opens = opens; closed = λ k x none. absurd (omega (arith, none, now)) }

          counts : (x y : ℕ) → y ≡ 1 → (x ≡ 0) × (mid.last ≤ s) × (o ≡ s + 1 → ⊥) ⊎ (x ≡ 0) × (s < mid.last) × (o ≡ s + 1) ⊎ (x ≡ 1) × (s < mid.last) × (o ≡ s + 1 → ⊥) → (w ≡ s + 1 → ⊥) → x + among (max mid.last first) behind s + among (o - 1) o s ≡ y + among (w - 1) w s
          counts x y is_y (inl (is_x, k, apart_o)) apart_w =
              combined x (among (max mid.last first) behind s) (among (o - 1) o s) y (among (w - 1) w s) 0 1 0 1 0 is_x (among_in (max mid.last first) behind s (omega (arith, k, early)) late) (single_out o s apart_o) is_y (single_out w s apart_w) refl
          counts x y is_y (inr (inl (is_x, k, is_o))) apart_w =
              combined x (among (max mid.last first) behind s) (among (o - 1) o s) y (among (w - 1) w s) 0 0 1 1 0 is_x (among_out (max mid.last first) behind s (inl (omega (arith, k)))) (single_in o s is_o) is_y (single_out w s apart_w) refl
          counts x y is_y (inr (inr (is_x, k, apart_o))) apart_w =
              combined x (among (max mid.last first) behind s) (among (o - 1) o s) y (among (w - 1) w s) 1 0 0 1 0 is_x (among_out (max mid.last first) behind s (inl (omega (arith, k)))) (single_out o s apart_o) is_y (single_out w s apart_w) refl

          made : (has (at p) p s ≡ 0) × (mid.last ≤ s) × (o ≡ s + 1 → ⊥) ⊎ (has (at p) p s ≡ 0) × (s < mid.last) × (o ≡ s + 1) ⊎ (has (at p) p s ≡ 1) × (s < mid.last) × (o ≡ s + 1 → ⊥) → AtSpan s
          made which = rest (λ k x. absurd (no_w x)) (counts (has (at p) p s) (has (at p) (p + 1) s) now which no_w)

          by : (s < mid.last) ⊎ (mid.last ≤ s) → (mid.alone ≡ s + 1) ⊎ (mid.alone ≡ s + 1 → ⊥) → AtSpan s
          by (inl k) (inl x) = made (inr (inl ((is.opens s l m (omega (arith, inside)) x).1, k, elim o_is [ inl (y, same) ↦ same ∙ x | inr (y, none) ↦ absurd (omega (arith, y, x, early)) ])))
          by (inl k) (inr x) = made (inr (inr (elim (cases_lt 0 (has (at p) p s)) [ inl y ↦ omega (arith, y) | inr y ↦ absurd (x (is.closed s l m (omega (arith, inside)) k (omega (arith, y)))) ], k, o_apart s x)))
          by (inr k) x =
              let none = is.unreached s l m (omega (arith, inside)) k in
              let one = with_part at (at p) (a s) (a s) (min (h s) p) p (omega arith) (omega arith) in
              let two = with_part at (at p) (a s) (h s + 1) (min (b s) p) p (omega (arith, fit s l m)) (omega arith) in
              made (inl (omega (arith, none, one, two), k, o_apart s (λ y. let z = is.opens s l m (omega (arith, inside)) y in absurd (omega (arith, z.0, k)))))

      pub at_span : (s : ℕ) → from ≤ s → s < to → AtSpan s
      at_span s l m = elim (cases_lt s first) [
        | inl k ↦ ended s l m k
        | inr k ↦ elim (cases_lt s behind) [
          | inl j ↦ elim (cases_eq own (s + 1)) [ inl e ↦ own_one s l m k j e | inr e ↦ reached_one s l m k j e ]
          | inr j ↦ later s l m j
        ]
      ]

      o_single : (o ≡ 0) ⊎ ((from < o) × (o ≤ from + (to - from)))
      o_single = by o_is
        where
          by : ((first < mid.alone) × (o ≡ mid.alone)) ⊎ ((mid.alone ≤ first) × (o ≡ 0)) → (o ≡ 0) ⊎ ((from < o) × (o ≤ from + (to - from)))
          by (inl (l, same)) = inr (omega (arith, l, same, low), omega (arith, same, is.alone, low, order, high))
          by (inr (l, nothing)) = inl nothing

      o_one : min 1 o ≡ min 1 (mid.alone - first)
      o_one = by o_is
        where
          by : ((first < mid.alone) × (o ≡ mid.alone)) ⊎ ((mid.alone ≤ first) × (o ≡ 0)) → min 1 o ≡ min 1 (mid.alone - first)
          by (inl (l, same)) = omega (arith, l, same)
          by (inr (l, nothing)) = omega (arith, l, nothing)

      w_single : (w ≡ 0) ⊎ ((from < w) × (w ≤ from + (to - from)))
      w_single = by w_is
        where
          by : ((max mid.last first < own) × (w ≡ own)) ⊎ ((own ≤ max mid.last first) × (w ≡ 0)) → (w ≡ 0) ⊎ ((from < w) × (w ≤ from + (to - from)))
          by (inl (l, same)) = inr (omega (arith, l, same, low), omega (arith, same, own_low, low, order, high))
          by (inr (l, nothing)) = inl nothing

      w_low : w ≤ to
      w_low = by w_is
        where
          by : ((max mid.last first < own) × (w ≡ own)) ⊎ ((own ≤ max mid.last first) × (w ≡ 0)) → w ≤ to
          by (inl (l, same)) = omega (arith, same, own_low, high)
          by (inr (l, nothing)) = omega (arith, nothing)

      sum_is : total (has (at p) p) from (to - from) + (behind - max mid.last first) + min 1 (mid.alone - first) ≡ total (has (at p) (p + 1)) from (to - from) + min 1 w
      sum_is =
          let range : from + (to - from) ≡ to = omega (arith, low, order, high) in
          let sums = total_both (has (at p) p) (among (max mid.last first) behind) (among (o - 1) o) (has (at p) (p + 1)) (among (w - 1) w) from (to - from) (λ s l m. (at_span s l (omega (arith, m, range))).sum) in
          exchanged (total (has (at p) p) from (to - from)) (total (among (max mid.last first) behind) from (to - from)) (total (among (o - 1) o) from (to - from)) (total (has (at p) (p + 1)) from (to - from)) (total (among (w - 1) w) from (to - from))
          (behind - max mid.last first) (min 1 (mid.alone - first)) (min 1 w) sums
          (total_run (max mid.last first) behind from (to - from) (omega (arith, low)) (omega (arith, last_low, order)) (omega (arith, range, high))) (total_single o from (to - from) o_single ∙ o_one) (total_single w from (to - from) w_single)

      pub step_room : mid.spans + (behind - max mid.last first) + min 1 (mid.alone - first) ≡ old.spans + total (has (at p) (p + 1)) from (to - from) + min 1 w
      step_room = omega (arith, sum_is, is.spans)

      pub stepped : (new : Seen) → new.spans + min 1 w ≡ mid.spans + (behind - max mid.last first) + min 1 (mid.alone - first) → new.last ≡ behind → new.alone ≡ w → IsStepped (at p) (p + 1) old new
      stepped new spans_is last_is alone_is = record {
        spans = omega (arith, step_room, spans_is);
        last = omega (arith, last_is, high);
        alone = omega (arith, alone_is, w_low);
        reached = λ s l m k j. omega (arith, with_yes at (at p) (a s) p (begun s l (omega (arith, j, last_is))) refl);
        unreached = λ s l m k j. with_none at (at p) (a s) (p + 1) (omega (arith, ahead s (omega (arith, j, last_is)) m));
        opens = λ s l m k j. let o = (at_span s l m).opens (omega (arith, k)) (sym alone_is ∙ j) in (omega (arith, o.0, last_is), o.1);
        closed = λ s l m k j none. alone_is ∙ (at_span s l m).closed (omega (arith, k)) (omega (arith, j, last_is)) none;
      }

  -- at the end
  pub has_all : (n p s : ℕ) → b s ≤ p → h s < b s → has n p s ≡ min 1 (with_number at n (a s) (h s) + with_number at n (h s + 1) (b s))
  has_all n p s done inside =
      let one : min (h s) p ≡ h s = omega (arith, done, inside) in
      let two : min (b s) p ≡ b s = omega (arith, done) in
      omega (arith, ap (with_number at n (a s)) one, ap (with_number at n (h s + 1)) two)

  pub few_has : (n p : ℕ) → total (has n p) from (to - from) ≤ to - from
  few_has n p = total_few (has n p) from (to - from) (λ s. omega arith)
