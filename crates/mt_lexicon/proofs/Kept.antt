-- The values of a lexicon that are kept.
use Rattle.std.proofs.Common.{◌≡◌, ℕ, zero, suc, ◌+◌, ◌<◌, ◌≤◌, Bool, true, false, List, [], ◌∷◌, ◌++◌, length, take, get_or, slice_get, Some, refl, sym, ◌∙◌, ap, ap₂, subst, arith, ◌⊎◌, inl, inr, length-append, if◌then◌else◌}
use Rattle.std.specs.List.{All}
use Rattle.std.proofs.lemmas.Bool.{cases_lt}
use Rattle.std.proofs.lemmas.List.{get_or_append_left, get_or_push, take_all}
use Rattle.std.proofs.lemmas.List.Elements.{All-nil, All-push, All-weaker}
use Rattle.std.proofs.lemmas.Option.{slice_get-get_or, slice_get_within, get_or_from_slice_get}
use Rattle.mt_store_spec.specs.Lexicons.{IsBelow, IsAscending, RenumbersKept, kept_values}
use Rattle.mt_lexicon.proofs.Joined.{ascending_more}
use Rattle.mt_lexicon.proofs.Order.{chained}
use Rattle.mt_lexicon.proofs.Places.{kept, pushed}

-- one flag more
flag_more : (k keep : Bool) (v value : List ℕ) (more old : List (List ℕ)) → more ≡ (if keep then old ++ value ∷ [] else old) →
    (if k then v ∷ more else more) ≡ (if keep then (if k then v ∷ old else old) ++ value ∷ [] else (if k then v ∷ old else old))
flag_more true true v value more old e = ap (λ (m : List (List ℕ)). v ∷ m) e
flag_more true false v value more old e = ap (λ (m : List (List ℕ)). v ∷ m) e
flag_more false true v value more old e = e
flag_more false false v value more old e = e

kept_suc : (flags : List Bool) (all : List (List ℕ)) (i : ℕ) (keep : Bool) (value : List ℕ) → slice_get flags i ≡ Some keep → slice_get all i ≡ Some value →
    kept_values (take (suc i) flags) (take (suc i) all) ≡ (if keep then kept_values (take i flags) (take i all) ++ value ∷ [] else kept_values (take i flags) (take i all))
kept_suc [] all i keep value e f = cc
kept_suc (k ∷ flags) [] i keep value e f = cc
kept_suc (k ∷ flags) (v ∷ all) zero keep value e f =
    let g : k ≡ keep = cc in
    let h : v ≡ value = cc in
    rw (g, h) refl
kept_suc (k ∷ flags) (v ∷ all) (suc i) keep value e f =
    flag_more k keep v value (kept_values (take (suc i) flags) (take (suc i) all)) (kept_values (take i flags) (take i all)) (kept_suc flags all i keep value e f)

kept_more : (flags : List Bool) (all : List (List ℕ)) (i : ℕ) (keep : Bool) (value : List ℕ) → slice_get flags i ≡ Some keep → slice_get all i ≡ Some value →
    kept_values (take (i + 1) flags) (take (i + 1) all) ≡ (if keep then kept_values (take i flags) (take i all) ++ value ∷ [] else kept_values (take i flags) (take i all))
kept_more flags all i keep value e f =
    let s : i + 1 ≡ suc i = omega arith in
    rw s (kept_suc flags all i keep value e f)

-- the values with the first so many flags are gone through
pub record KeepsUpTo (flags : List Bool) (all : List (List ℕ)) (i : ℕ) (values : List (List ℕ)) (numbers : List ℕ) : Type 0 where
  pub is : values ≡ kept_values (take i flags) (take i all)
  pub short : length values ≤ i
  pub count : length numbers ≡ i
  pub same : (k : ℕ) → k < i → slice_get flags k ≡ Some true → slice_get values (get_or numbers k 0) ≡ slice_get all k
  pub low : i < length all → All (λ v. IsBelow v (get_or all i [])) values
  pub ascending : IsAscending values

pub nothing_kept : (flags : List Bool) (all values : List (List ℕ)) (numbers : List ℕ) → values ≡ [] → numbers ≡ [] → KeepsUpTo flags all 0 values numbers
nothing_kept flags all values numbers e f =
    let done : KeepsUpTo flags all 0 [] [] = record {
      is = refl;
      short = omega arith;
      count = refl;
      same = λ k l keep. absurd (omega arith);
      low = λ _. All-nil (λ v. IsBelow v (get_or all 0 []));
      ascending = λ i j d b l. absurd (omega arith);
    } in
    rw (e, f) done

module _ (flags : List Bool) (all : List (List ℕ)) (i : ℕ) (values : List (List ℕ)) (numbers : List ℕ) (value : List ℕ) (h : KeepsUpTo flags all i values numbers) (up : IsAscending all) (at : slice_get all i ≡ Some value) where
  low_next : i + 1 < length all → All (λ v. IsBelow v (get_or all (i + 1) [])) values
  low_next l =
      let next : IsBelow (get_or all i []) (get_or all (i + 1) []) = up i (i + 1) [] (omega arith) l in
      All-weaker (λ v. IsBelow v (get_or all i [])) (λ v. IsBelow v (get_or all (i + 1) [])) (λ v b. chained v (get_or all i []) (get_or all (i + 1) []) b next) values (h.low (omega arith))

  -- a value that is dropped
  pub one_dropped : (n : ℕ) → slice_get flags i ≡ Some false → KeepsUpTo flags all (i + 1) values (numbers ++ n ∷ [])
  one_dropped n keep = record {
    is = h.is ∙ sym (kept_more flags all i false value keep at);
    short = omega (arith, h.short);
    count = length-append numbers (n ∷ []) ∙ ap (λ (m : ℕ). m + 1) h.count;
    same = λ k l flag. by k flag (cases_lt k i) l;
    low = low_next;
    ascending = h.ascending;
  }
    where
      by : (k : ℕ) → slice_get flags k ≡ Some true → (k < i) ⊎ (i ≤ k) → k < i + 1 → slice_get values (get_or (numbers ++ n ∷ []) k 0) ≡ slice_get all k
      by k flag (inl l) m = ap (slice_get values) (get_or_append_left numbers (n ∷ []) 0 k (omega (arith, h.count))) ∙ h.same k l flag
      by k flag (inr l) m = let e : i ≡ k = omega arith in let both : slice_get flags k ≡ Some false = subst (λ (q : ℕ). slice_get flags q ≡ Some false) e keep in cc

  -- a value that is kept
  pub one_kept : (n : ℕ) → n ≡ length values → slice_get flags i ≡ Some true → KeepsUpTo flags all (i + 1) (values ++ value ∷ []) (numbers ++ n ∷ [])
  one_kept n e keep =
      let here : get_or all i [] ≡ value = get_or_from_slice_get all i value [] at in
      let within : i < length all = slice_get_within all i value at in
      let below : All (λ v. IsBelow v value) values = subst (λ (x : List ℕ). All (λ v. IsBelow v x) values) here (h.low within) in
      record {
        is = ap (λ (v : List (List ℕ)). v ++ value ∷ []) h.is ∙ sym (kept_more flags all i true value keep at);
        short = omega (arith, h.short, length-append values (value ∷ []));
        count = length-append numbers (n ∷ []) ∙ ap (λ (m : ℕ). m + 1) h.count;
        same = λ k l flag. by within k flag (cases_lt k i) l;
        low = λ l. All-push (λ v. IsBelow v (get_or all (i + 1) [])) values value (low_next l) (subst (λ (v : List ℕ). IsBelow v (get_or all (i + 1) [])) here (up i (i + 1) [] (omega arith) l));
        ascending = ascending_more values value h.ascending below;
      }
    where
      by : i < length all → (k : ℕ) → slice_get flags k ≡ Some true → (k < i) ⊎ (i ≤ k) → k < i + 1 → slice_get (values ++ value ∷ []) (get_or (numbers ++ n ∷ []) k 0) ≡ slice_get all k
      by within k flag (inl l) m =
          let there : slice_get all k ≡ Some (get_or all k []) = slice_get-get_or all k [] (omega arith) in
          ap (slice_get (values ++ value ∷ [])) (get_or_append_left numbers (n ∷ []) 0 k (omega (arith, h.count))) ∙ kept values (value ∷ []) (get_or numbers k 0) (get_or all k []) (h.same k l flag ∙ there) ∙ sym there
      by within k flag (inr l) m =
          let is : i ≡ k = omega arith in
          subst (λ (q : ℕ). slice_get (values ++ value ∷ []) (get_or (numbers ++ n ∷ []) q 0) ≡ slice_get all q) is
          (ap (slice_get (values ++ value ∷ [])) (get_or_push numbers n 0 i h.count) ∙ pushed values value n (sym e) ∙ sym at)

-- at the end
pub all_kept : (flags : List Bool) (all values : List (List ℕ)) (numbers : List ℕ) (i : ℕ) → length flags ≡ length all → i ≡ length flags → KeepsUpTo flags all i values numbers →
    (values ≡ kept_values flags all) × RenumbersKept flags numbers all values
all_kept flags all values numbers i e f h = (
  h.is ∙ ap₂ kept_values (take_all i flags (omega arith)) (take_all i all (omega arith)),
  record { count = h.count ∙ f ∙ e; same = λ k l keep. h.same k (omega arith) keep },
)

pub flag_at : (flags : List Bool) (i : ℕ) (d keep : Bool) → i < length flags → get_or flags i d ≡ keep → slice_get flags i ≡ Some keep
flag_at flags i d keep l e = slice_get-get_or flags i d l ∙ ap Some e
