-- Two ascending lists that become one.
use Rattle.std.proofs.Common.{◌≡◌, ℕ, ◌+◌, ◌<◌, ◌≤◌, List, [], ◌∷◌, ◌++◌, length, get_or, slice_get, Some, refl, sym, ◌∙◌, ap, subst, arith, ◌⊎◌, inl, inr, length-append}
use Rattle.std.specs.List.{All, Contains}
use Rattle.std.proofs.lemmas.Bool.{cases_lt}
use Rattle.std.proofs.lemmas.List.{get_or_append_left, get_or_push}
use Rattle.std.proofs.lemmas.List.Elements.{All-nil, All-push, All-weaker, All-from_get_or, All-append, Contains-append_left, Contains-append_right}
use Rattle.std.proofs.lemmas.Option.{slice_get-get_or, slice_get_within, get_or_from_slice_get}
use Rattle.mt_store_spec.specs.Lexicons.{IsBelow, IsAscending, Renumbers}
use Rattle.mt_lexicon.specs.Joins.{Joins}
use Rattle.mt_lexicon.proofs.Order.{chained}
use Rattle.mt_lexicon.proofs.Places.{kept, pushed}

-- of one list, the values before a place are among these values, with these numbers, and all of these are below the value at the place
pub record Side (list : List (List ℕ)) (i : ℕ) (values : List (List ℕ)) (numbers : List ℕ) : Type 0 where
  pub within : i ≤ length list
  pub count : length numbers ≡ i
  pub same : (k : ℕ) → k < i → slice_get values (get_or numbers k 0) ≡ slice_get list k
  pub low : i < length list → All (λ v. IsBelow v (get_or list i [])) values

pub record JoinsUpTo (first : List (List ℕ)) (i : ℕ) (second : List (List ℕ)) (j : ℕ) (values : List (List ℕ)) (numbers others : List ℕ) : Type 0 where
  pub first_side : Side first i values numbers
  pub second_side : Side second j values others
  pub ascending : IsAscending values
  pub only : All (Contains (first ++ second)) values
  pub short : length values ≤ i + j

-- ---- one side

side_none : (list : List (List ℕ)) → Side list 0 [] []
side_none list = record { within = omega arith; count = refl; same = λ k l. absurd (omega arith); low = λ _. All-nil (λ v. IsBelow v (get_or list 0 [])) }

same_old : (list values : List (List ℕ)) (numbers : List ℕ) (n k : ℕ) (v : List ℕ) → k < length numbers → k < length list → slice_get values (get_or numbers k 0) ≡ slice_get list k →
    slice_get (values ++ v ∷ []) (get_or (numbers ++ n ∷ []) k 0) ≡ slice_get list k
same_old list values numbers n k v l m e =
    let at : slice_get list k ≡ Some (get_or list k []) = slice_get-get_or list k [] m in
    ap (slice_get (values ++ v ∷ [])) (get_or_append_left numbers (n ∷ []) 0 k l) ∙ kept values (v ∷ []) (get_or numbers k 0) (get_or list k []) (e ∙ at) ∙ sym at

same_new : (list values : List (List ℕ)) (numbers : List ℕ) (n k : ℕ) (v : List ℕ) → length numbers ≡ k → n ≡ length values → slice_get list k ≡ Some v →
    slice_get (values ++ v ∷ []) (get_or (numbers ++ n ∷ []) k 0) ≡ slice_get list k
same_new list values numbers n k v l e at =
    ap (slice_get (values ++ v ∷ [])) (get_or_push numbers n 0 k l) ∙ pushed values v n (sym e) ∙ sym at

takes : (list : List (List ℕ)) (i : ℕ) (values : List (List ℕ)) (numbers : List ℕ) (n : ℕ) (v : List ℕ) → IsAscending list → Side list i values numbers → slice_get list i ≡ Some v → n ≡ length values →
    Side list (i + 1) (values ++ v ∷ []) (numbers ++ n ∷ [])
takes list i values numbers n v up h at e =
    let here : get_or list i [] ≡ v = get_or_from_slice_get list i v [] at in
    let l : i < length list = slice_get_within list i v at in
    record {
      within = omega arith;
      count = length-append numbers (n ∷ []) ∙ ap (λ (m : ℕ). m + 1) h.count;
      same = λ k m. same k (cases_lt k i) m h.count l (h.same k);
      low = λ m.
          let next : IsBelow (get_or list i []) (get_or list (i + 1) []) = up i (i + 1) [] (omega arith) m in
          All-push (λ w. IsBelow w (get_or list (i + 1) [])) values v
          (All-weaker (λ w. IsBelow w (get_or list i [])) (λ w. IsBelow w (get_or list (i + 1) [])) (λ w b. chained w (get_or list i []) (get_or list (i + 1) []) b next) values (h.low l))
          (subst (λ (w : List ℕ). IsBelow w (get_or list (i + 1) [])) here next);
    }
  where
    same : (k : ℕ) → (k < i) ⊎ (i ≤ k) → k < i + 1 → length numbers ≡ i → i < length list → (k < i → slice_get values (get_or numbers k 0) ≡ slice_get list k) →
        slice_get (values ++ v ∷ []) (get_or (numbers ++ n ∷ []) k 0) ≡ slice_get list k
    same k (inl b) m count l old = same_old list values numbers n k v (omega arith) (omega arith) (old b)
    same k (inr b) m count l old =
        let is : i ≡ k = omega arith in
        subst (λ (q : ℕ). slice_get (values ++ v ∷ []) (get_or (numbers ++ n ∷ []) q 0) ≡ slice_get list q) is (same_new list values numbers n i v count e at)

waits : (list : List (List ℕ)) (j : ℕ) (values : List (List ℕ)) (others : List ℕ) (v : List ℕ) → Side list j values others → (j < length list → IsBelow v (get_or list j [])) → Side list j (values ++ v ∷ []) others
waits list j values others v h below = record {
  within = h.within;
  count = h.count;
  same = λ k l.
      let at : slice_get list k ≡ Some (get_or list k []) = slice_get-get_or list k [] (omega (arith, h.within)) in
      kept values (v ∷ []) (get_or others k 0) (get_or list k []) (h.same k l ∙ at) ∙ sym at;
  low = λ l. All-push (λ w. IsBelow w (get_or list j [])) values v (h.low l) (below l);
}

-- ---- both sides

pub ascending_more : (values : List (List ℕ)) (v : List ℕ) → IsAscending values → All (λ w. IsBelow w v) values → IsAscending (values ++ v ∷ [])
ascending_more values v up low = λ i j d b l. by i j d (cases_lt j (length values)) b (omega (arith, length-append values (v ∷ [])))
  where
    by : (i j : ℕ) (d : List ℕ) → (j < length values) ⊎ (length values ≤ j) → i < j → j < length values + 1 → IsBelow (get_or (values ++ v ∷ []) i d) (get_or (values ++ v ∷ []) j d)
    by i j d (inl l) b m = rw (get_or_append_left values (v ∷ []) d i (omega arith), get_or_append_left values (v ∷ []) d j l) (up i j d b l)
    by i j d (inr l) b m =
        let is : length values ≡ j = omega arith in
        rw (get_or_append_left values (v ∷ []) d i (omega arith), get_or_push values v d j is) (low i d (omega arith))

below_value : (list : List (List ℕ)) (i : ℕ) (values : List (List ℕ)) (v : List ℕ) → All (λ w. IsBelow w (get_or list i [])) values → get_or list i [] ≡ v → All (λ w. IsBelow w v) values
below_value list i values v h e = subst (λ (x : List ℕ). All (λ w. IsBelow w x) values) e h

contains_at : (list : List (List ℕ)) (i : ℕ) (v : List ℕ) → slice_get list i ≡ Some v → Contains list v
contains_at list i v at = (i, slice_get_within list i v at, get_or_from_slice_get list i v v at)

pub nothing_joined : (first second : List (List ℕ)) → JoinsUpTo first 0 second 0 [] [] []
nothing_joined first second = record {
  first_side = side_none first;
  second_side = side_none second;
  ascending = λ i j d b l. absurd (omega arith);
  only = All-nil (Contains (first ++ second));
  short = omega arith;
}

module _ (first : List (List ℕ)) (i : ℕ) (second : List (List ℕ)) (j : ℕ) (values : List (List ℕ)) (numbers others : List ℕ) (n : ℕ) (v : List ℕ)
    (h : JoinsUpTo first i second j values numbers others) (e : n ≡ length values) where
  -- the first list's value comes alone
  pub first_more : IsAscending first → slice_get first i ≡ Some v → (j < length second → IsBelow (get_or first i []) (get_or second j [])) →
      JoinsUpTo first (i + 1) second j (values ++ v ∷ []) (numbers ++ n ∷ []) others
  first_more up at below =
      let here : get_or first i [] ≡ v = get_or_from_slice_get first i v [] at in
      record {
        first_side = takes first i values numbers n v up h.first_side at e;
        second_side = waits second j values others v h.second_side (λ l. subst (λ (w : List ℕ). IsBelow w (get_or second j [])) here (below l));
        ascending = ascending_more values v h.ascending (below_value first i values v (h.first_side.low (slice_get_within first i v at)) here);
        only = All-push (Contains (first ++ second)) values v h.only (Contains-append_left first second v (contains_at first i v at));
        short = omega (arith, length-append values (v ∷ []), h.short);
      }

  -- the second list's value comes alone
  pub second_more : IsAscending second → slice_get second j ≡ Some v → (i < length first → IsBelow (get_or second j []) (get_or first i [])) →
      JoinsUpTo first i second (j + 1) (values ++ v ∷ []) numbers (others ++ n ∷ [])
  second_more up at below =
      let here : get_or second j [] ≡ v = get_or_from_slice_get second j v [] at in
      record {
        first_side = waits first i values numbers v h.first_side (λ l. subst (λ (w : List ℕ). IsBelow w (get_or first i [])) here (below l));
        second_side = takes second j values others n v up h.second_side at e;
        ascending = ascending_more values v h.ascending (below_value second j values v (h.second_side.low (slice_get_within second j v at)) here);
        only = All-push (Contains (first ++ second)) values v h.only (Contains-append_right first second v (contains_at second j v at));
        short = omega (arith, length-append values (v ∷ []), h.short);
      }

  -- one value comes from both
  pub both_more : IsAscending first → IsAscending second → slice_get first i ≡ Some v → j < length second → get_or first i [] ≡ get_or second j [] →
      JoinsUpTo first (i + 1) second (j + 1) (values ++ v ∷ []) (numbers ++ n ∷ []) (others ++ n ∷ [])
  both_more up up' at l same =
      let here : get_or first i [] ≡ v = get_or_from_slice_get first i v [] at in
      let there : slice_get second j ≡ Some v = slice_get-get_or second j [] l ∙ ap Some (sym same ∙ here) in
      record {
        first_side = takes first i values numbers n v up h.first_side at e;
        second_side = takes second j values others n v up' h.second_side there e;
        ascending = ascending_more values v h.ascending (below_value first i values v (h.first_side.low (slice_get_within first i v at)) here);
        only = All-push (Contains (first ++ second)) values v h.only (Contains-append_left first second v (contains_at first i v at));
        short = omega (arith, length-append values (v ∷ []), h.short);
      }

-- ---- the end

side_renumbers : (list values : List (List ℕ)) (numbers : List ℕ) → Side list (length list) values numbers → Renumbers numbers list values
side_renumbers list values numbers h = record { count = h.count; same = h.same }

pub all_renumbered : (list values : List (List ℕ)) (numbers : List ℕ) → Renumbers numbers list values → All (Contains values) list
all_renumbered list values numbers h = All-from_get_or (Contains values) list [] (λ k l. contains_at values (get_or numbers k 0) (get_or list k []) (h.same k l ∙ slice_get-get_or list k [] l))

pub all_joined : (first : List (List ℕ)) (i : ℕ) (second : List (List ℕ)) (j : ℕ) (values lexicon : List (List ℕ)) (numbers others of_first of_second : List ℕ) → JoinsUpTo first i second j values numbers others →
    i ≡ length first → j ≡ length second → lexicon ≡ values → of_first ≡ numbers → of_second ≡ others → Joins first second lexicon of_first of_second
all_joined first i second j values lexicon numbers others of_first of_second h e f g p q =
    let mine : Renumbers numbers first values = side_renumbers first values numbers (subst (λ (n : ℕ). Side first n values numbers) e h.first_side) in
    let its : Renumbers others second values = side_renumbers second values others (subst (λ (n : ℕ). Side second n values others) f h.second_side) in
    let done : Joins first second values numbers others = record {
      lexicon = record { ascending = h.ascending; all = All-append (Contains values) first second (all_renumbered first values numbers mine) (all_renumbered second values others its); only = h.only };
      short = omega (arith, h.short, e, f);
      numbers = mine;
      others = its;
    } in
    rw (g, p, q) done
