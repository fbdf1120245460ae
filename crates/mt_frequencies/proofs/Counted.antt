-- What is counted for values.
use Rattle.std.proofs.Common.{◌≡◌, ℕ, zero, suc, Bool, true, false, cond, nat_eq, Some, List, [], ◌∷◌, ◌++◌, length, set, take, append-nil, get_or, slice_get, position, refl, sym, ◌∙◌, ap, subst, arith}
use Rattle.std.specs.List.{IsDistinct, AllByRecursion, list_any}
use Rattle.std.specs.Str.{bytes_eq}
use Rattle.std.specs.Cmp.Lexicographic.{pointwise, bytes_decides}
use Rattle.std.proofs.lemmas.Bool.{true≢false}
use Rattle.std.proofs.lemmas.Option.{same_Some, slice_get-get_or, slice_get_within}
use Rattle.std.proofs.lemmas.List.{get_or_default, take_at}
use Rattle.std.proofs.lemmas.List.Quantifiers.{position-Some}
use Rattle.mt_frequencies.specs.declared.tally.Count.{Count}
use Rattle.mt_frequencies.specs.Tallies.{Begins, IsAbsent, Tallied, count_of, counts_in, no_count}

-- ## Values that are added

pub begins_none : (values : List (List ℕ)) → Begins values values
begins_none values = record { more = []; are = sym (append-nil values) }

-- a value for which nothing was counted
pub count_more : (values : List (List ℕ)) (counts : List Count) (one value : List ℕ) → length values ≡ length counts → count_of (values ++ one ∷ []) (counts ++ no_count ∷ []) value ≡ count_of values counts value
count_more [] [] one value l = by (bytes_eq value one)
  where
    by : (b : Bool) → cond b no_count no_count ≡ no_count
    by true = refl
    by false = refl
count_more [] (c ∷ cs) one value l = absurd (omega arith)
count_more (x ∷ xs) [] one value l = absurd (omega arith)
count_more (x ∷ xs) (c ∷ cs) one value l = ap (λ (rest : Count). cond (bytes_eq value x) c rest) (count_more xs cs one value (omega arith))

-- a value that was absent is put behind the others
pub put_last : (values new : List (List ℕ)) (one : List ℕ) → IsAbsent values one → new ≡ cond (list_any (pointwise nat_eq one) values) values (values ++ one ∷ []) → new ≡ values ++ one ∷ []
put_last values new one absent is = is ∙ ap (λ (b : Bool). cond b values (values ++ one ∷ [])) absent

pub count_pushed : (values new : List (List ℕ)) (counts more : List Count) (one value : List ℕ) → length values ≡ length counts → IsAbsent values one → new ≡ cond (list_any (pointwise nat_eq one) values) values (values ++ one ∷ []) →
    more ≡ counts ++ no_count ∷ [] → count_of new more value ≡ count_of values counts value
count_pushed values new counts more one value l absent is grown =
    ap (λ (vs : List (List ℕ)). count_of vs more value) (put_last values new one absent is) ∙ ap (λ (cs : List Count). count_of (values ++ one ∷ []) cs value) grown ∙ count_more values counts one value l

pub put_at : (values new : List (List ℕ)) (one : List ℕ) (number : ℕ) → IsAbsent values one → new ≡ cond (list_any (pointwise nat_eq one) values) values (values ++ one ∷ []) → number ≡ length values → slice_get new number ≡ Some one
put_at values new one number absent is last = ap (λ (vs : List (List ℕ)). slice_get vs number) (put_last values new one absent is) ∙ ap (slice_get (values ++ one ∷ [])) last ∙ at_end values
  where
    at_end : (vs : List (List ℕ)) → slice_get (vs ++ one ∷ []) (length vs) ≡ Some one
    at_end [] = refl
    at_end (v ∷ vs) = at_end vs

-- where there was no room
pub count_left : (values new : List (List ℕ)) (counts more left : List Count) (value : List ℕ) (number : ℕ) → new ≡ values → more ≡ counts ++ no_count ∷ [] → left ≡ take number more → number ≡ length counts → count_of new left value ≡ count_of values counts value
count_left values new counts more left value number same grown taken last =
    ap (λ (vs : List (List ℕ)). count_of vs left value) same
    ∙ ap (λ (cs : List Count). count_of values cs value) (taken ∙ ap (λ (n : ℕ). take n more) last ∙ ap (take (length counts)) grown ∙ take_at counts (no_count ∷ []) (length counts) refl)

-- the same of a tally
module _ (tally : Tallied) (values : List (List ℕ)) (counts : List Count) (is : record { values = values; counts = counts } ≡ tally) (same_length : length values ≡ length counts) (one : List ℕ) (absent : IsAbsent tally.values one) where
  own : IsAbsent values one
  own = ap (λ (t : Tallied). list_any (pointwise nat_eq one) t.values) is ∙ absent

  pub pushed : (new : List (List ℕ)) (more : List Count) → new ≡ cond (list_any (pointwise nat_eq one) values) values (values ++ one ∷ []) → more ≡ counts ++ no_count ∷ [] → (value : List ℕ) → count_of new more value ≡ counts_in tally value
  pushed new more put grown value = count_pushed values new counts more one value same_length own put grown ∙ ap (λ (t : Tallied). counts_in t value) is

  pub left : (new : List (List ℕ)) (more rest : List Count) (number : ℕ) → new ≡ values → more ≡ counts ++ no_count ∷ [] → rest ≡ take number more → number ≡ length counts → (value : List ℕ) → count_of new rest value ≡ counts_in tally value
  left new more rest number same grown taken last value = count_left values new counts more rest value number same grown taken last ∙ ap (λ (t : Tallied). counts_in t value) is

  pub there : (new : List (List ℕ)) (number : ℕ) → new ≡ cond (list_any (pointwise nat_eq one) values) values (values ++ one ∷ []) → number ≡ length counts → slice_get new number ≡ Some one
  there new number put last = put_at values new one number own put (omega (arith, last, same_length))

-- ## A value that is found

pub found_in : (text value : List ℕ) (values : List (List ℕ)) (i : ℕ) → value ≡ text → Some i ≡ position (pointwise nat_eq value) values → slice_get values i ≡ Some text
found_in text value values i same e =
    let there = position-Some (pointwise nat_eq value) values i value (sym e) in
    slice_get-get_or values i value there.0 ∙ ap Some (sym ((bytes_decides value (get_or values i value)).0 there.1) ∙ same)

-- ## A value that is counted

at_apart : (x : List ℕ) (xs : List (List ℕ)) (k : ℕ) (w : List ℕ) → AllByRecursion (λ y. pointwise nat_eq x y ≡ false) xs → slice_get xs k ≡ Some w → pointwise nat_eq x w ≡ false
at_apart x [] k w all e = absurd cc
at_apart x (y ∷ ys) zero w all e = let same : y ≡ w = same_Some y w e in subst (λ (z : List ℕ). pointwise nat_eq x z ≡ false) same all.0
at_apart x (y ∷ ys) (suc k) w all e = at_apart x ys k w all.1 e

itself : (value : List ℕ) → bytes_eq value value ≡ true
itself value = (bytes_decides value value).1 refl

other : (x w : List ℕ) → bytes_eq x w ≡ false → bytes_eq w x ≡ false
other x w apart = by (bytes_eq w x) refl
  where
    by : (b : Bool) → bytes_eq w x ≡ b → bytes_eq w x ≡ false
    by false e = e
    by true e = let same : w ≡ x = (bytes_decides w x).0 e in absurd (true≢false (sym (itself x) ∙ ap (bytes_eq x) (sym same) ∙ apart))

pub count_at : (values : List (List ℕ)) (counts : List Count) (k : ℕ) (w : List ℕ) → IsDistinct (pointwise nat_eq) values → length values ≡ length counts → slice_get values k ≡ Some w → count_of values counts w ≡ get_or counts k no_count
unfolding IsDistinct
count_at [] counts k w distinct l e = absurd cc
count_at (x ∷ xs) [] k w distinct l e = absurd (omega arith)
count_at (x ∷ xs) (c ∷ cs) zero w distinct l e =
    let same : x ≡ w = same_Some x w e in
    ap (λ (b : Bool). cond b c (count_of xs cs w)) (ap (bytes_eq w) same ∙ itself w)
count_at (x ∷ xs) (c ∷ cs) (suc k) w distinct l e =
    ap (λ (b : Bool). cond b c (count_of xs cs w)) (other x w (at_apart x xs k w distinct.0 e)) ∙ count_at xs cs k w distinct.1 (omega arith) e

first_case : (b : Bool) (c d rest : Count) → cond b c rest ≡ cond b c (cond b d rest)
first_case true c d rest = refl
first_case false c d rest = refl

later_case : (v x w : List ℕ) (c d rest more : Count) → bytes_eq x w ≡ false → rest ≡ cond (bytes_eq v w) c more → cond (bytes_eq v x) d rest ≡ cond (bytes_eq v w) c (cond (bytes_eq v x) d more)
later_case v x w c d rest more apart is = by (bytes_eq v x) refl
  where
    by : (b : Bool) → bytes_eq v x ≡ b → cond b d rest ≡ cond (bytes_eq v w) c (cond b d more)
    by true e =
        let same : v ≡ x = (bytes_decides v x).0 e in
        let none : bytes_eq v w ≡ false = ap (λ (z : List ℕ). bytes_eq z w) same ∙ apart in
        sym (ap (λ (b : Bool). cond b c d) none)
    by false e = is

pub count_set : (values : List (List ℕ)) (counts : List Count) (k : ℕ) (w : List ℕ) (c : Count) → IsDistinct (pointwise nat_eq) values → length values ≡ length counts → slice_get values k ≡ Some w → (v : List ℕ) →
    count_of values (set counts k c) v ≡ cond (bytes_eq v w) c (count_of values counts v)
unfolding IsDistinct
count_set [] counts k w c distinct l e v = absurd cc
count_set (x ∷ xs) [] k w c distinct l e v = absurd (omega arith)
count_set (x ∷ xs) (d ∷ cs) zero w c distinct l e v =
    let same : x ≡ w = same_Some x w e in
    first_case (bytes_eq v x) c d (count_of xs cs v) ∙ ap (λ (b : Bool). cond b c (cond (bytes_eq v x) d (count_of xs cs v))) (ap (bytes_eq v) same)
count_set (x ∷ xs) (d ∷ cs) (suc k) w c distinct l e v =
    later_case v x w c d (count_of xs (set cs k c) v) (count_of xs cs v) (at_apart x xs k w distinct.0 e) (count_set xs cs k w c distinct.1 (omega arith) e v)

-- ## What a tally tells by a number

pub got : (tally : Tallied) (values : List (List ℕ)) (counts : List Count) (k : ℕ) (count : Count) (value : List ℕ) → record { values = values; counts = counts } ≡ tally → IsDistinct (pointwise nat_eq) tally.values → length values ≡ length counts →
    count ≡ get_or counts k count → slice_get tally.values k ≡ Some value → count ≡ counts_in tally value
got tally values counts k count value view distinct l is at =
    let e : slice_get values k ≡ Some value = ap (λ (t : Tallied). slice_get t.values k) view ∙ at in
    is ∙ get_or_default counts k count no_count (omega (arith, slice_get_within values k value e, l))
    ∙ sym (count_at values counts k value (subst (λ (t : Tallied). IsDistinct (pointwise nat_eq) t.values) (sym view) distinct) l e) ∙ ap (λ (t : Tallied). counts_in t value) view
