-- Rows of groups, one group after another, and the same rows sorted.
use Rattle.std.proofs.Common.{◌≡◌, ℕ, suc, ◌+◌, ◌<◌, Bool, List, [], ◌∷◌, ◌++◌, length, refl, sym, ◌∙◌, ap, subst, inl, inr, false, arith, get_or}
use Rattle.std.specs.declared.cmp.Ordering.{Ordering}
use Rattle.std.specs.declared.cmp.Ordering.TheVariants.{Less, Equal, Greater}
use Rattle.std.specs.Cmp.Lexicographic.{slice_cmp, nat_list_cmp_total}
use Rattle.std.specs.Ordering.{nat_cmp, ordering_reverse, is_eq, is_lt, eq_by_cmp}
use Rattle.std.specs.List.{AllByRecursion, AllPairs, Contains, IsDistinct}
use Rattle.std.specs.List.Sorted.{IsSorted, IsPermutation, IsStrictlySortedBy}
use Rattle.std.proofs.lemmas.Bool.{cases_lt}
use Rattle.std.proofs.lemmas.List.Elements.{recursion_from_All, Contains-append_left, Contains-append_right, Contains-append_cases}
use Rattle.std.proofs.lemmas.List.Sorted.{sorted_far, ranks_by, Contains-permutation, IsPermutation-sym}
use Rattle.std.proofs.lemmas.Map.Keys.{apart_from_distinct, IsDistinct-from_sorted, IsDistinct-IsPermutation}
use Rattle.mt_text_spec.specs.Texts.{Row}
use Rattle.mt_text_spec.specs.Orders.{row_cmp, row_cmp_total, same_row}
use Rattle.mt_match_spec.specs.Rows.{ListsAll}
use Rattle.mt_places.specs.Places.{In}
use Rattle.mt_automaton.specs.declared.groups.Group.{Group}
use Rattle.mt_automaton.specs.Groups.{group, IsAscending}
use Rattle.mt_automaton.specs.RowsFrom.{EndsIn, IsGroupRow, Gathers, HasAll}
use Rattle.mt_automaton.proofs.Listed.{in_none, there}

-- ## Lists that differ

all_append : {X : Type 0} (P : X → Type 0) (xs ys : List X) → AllByRecursion P xs → ((y : X) → Contains ys y → P y) → AllByRecursion P (xs ++ ys)
all_append P [] [] all h = tt
all_append P [] (y ∷ ys) all h = (h y (0, omega arith, refl), all_append P [] ys tt (λ z c. h z (there y ys z c)))
all_append P (x ∷ xs) ys all h = (all.0, all_append P xs ys all.1 h)

distinct_append : {X : Type 0} (e : X → X → Bool) (xs ys : List X) → IsDistinct e xs → IsDistinct e ys → ((x y : X) → Contains xs x → Contains ys y → e x y ≡ false) → IsDistinct e (xs ++ ys)
unfolding IsDistinct
distinct_append e [] ys d k c = k
distinct_append e (x ∷ xs) ys d k c =
    (all_append (λ y. e x y ≡ false) xs ys d.0 (λ y l. c x y (0, omega arith, refl) l), distinct_append e xs ys d.1 k (λ a y h l. c a y (there x xs a h) l))

distinct_none : {X : Type 0} (e : X → X → Bool) → IsDistinct e []
unfolding IsDistinct
distinct_none e = tt

differ : (o : Ordering) → (o ≡ Equal → ⊥) → is_eq o ≡ false
differ Less h = refl
differ Equal h = absurd (h refl)
differ Greater h = refl

not_before : (o : Ordering) → o ≡ Less → o ≡ ordering_reverse o → ⊥
not_before Less e d = let no : ⊥ = cc in no
not_before Equal e d = let no : ⊥ = cc in no
not_before Greater e d = let no : ⊥ = cc in no

-- labels of two groups are not the same
apart : (groups : List Group) (i j : ℕ) → IsAscending groups → i < j → j < length groups → (group groups i).labels ≡ (group groups j).labels → ⊥
apart groups i j ascending low within same =
    let up = ascending i j low within in
    let less : slice_cmp nat_cmp (group groups j).labels (group groups j).labels ≡ Less = subst (λ l. slice_cmp nat_cmp l (group groups j).labels ≡ Less) same up in
    not_before (slice_cmp nat_cmp (group groups j).labels (group groups j).labels) less (nat_list_cmp_total.antisymm (group groups j).labels (group groups j).labels)

-- ## One group after another

-- a row of one of the groups below n
pub record OfBelow (groups : List Group) (text begin n : ℕ) (row : Row) : Type 0 where
  pub is : IsGroupRow groups text begin row
  pub below : is.is_row.at < n

pub none_gathered : (groups : List Group) (text begin : ℕ) → HasAll (OfBelow groups text begin 0) []
none_gathered groups text begin = record {
  once = distinct_none (eq_by_cmp row_cmp);
  only = λ x h. absurd (in_none x h);
  each = λ x p. absurd (omega (arith, p.below));
}

-- the rows of the next group
pub next_gathered : (groups : List Group) (text begin n : ℕ) (g : Group) (rows new : List Row) → IsAscending groups → n < length groups → g ≡ group groups n → HasAll (OfBelow groups text begin n) rows
    → Gathers (EndsIn g.ends g.labels text begin) rows new → HasAll (OfBelow groups text begin (n + 1)) new
next_gathered groups text begin n g rows new ascending within e h a =
    let to : (x : Row) → Contains (rows ++ a.rows) x → Contains new x = λ x c. subst (λ s. Contains s x) (sym a.appended) c in
    record {
      once = subst (IsDistinct (eq_by_cmp row_cmp)) (sym a.appended) (distinct_append (eq_by_cmp row_cmp) rows a.rows h.once (IsDistinct-from_sorted row_cmp a.rows a.are.ascending)
          (λ x y c d.
          let p = h.only x c in
          let r = a.are.only y d in
          differ (row_cmp x y) (λ same.
          let is : x ≡ y = same_row x y same in
          let labels : (group groups p.is.is_row.at).labels ≡ (group groups n).labels = p.is.is_row.labelled ∙ ap (λ (z : Row). z.labels) is ∙ r.labels_are ∙ ap (λ (z : Group). z.labels) e in
          apart groups p.is.is_row.at n ascending p.below within labels)));
      only = λ x c. elim (Contains-append_cases rows a.rows x (subst (λ s. Contains s x) a.appended c)) [
        | inl was ↦ let p = h.only x was in record { is = p.is; below = omega (arith, p.below) }
        | inr now ↦
            let r = a.are.only x now in
            record {
              is = record {
                text_is = r.text_is;
                begin_is = r.begin_is;
                some = r.some;
                is_row = record { at = n; within = within; labelled = ap (λ (z : Group). z.labels) (sym e) ∙ sym r.labels_are; is_in = subst (λ (z : Group). In z.ends x.span.end) e r.is_in };
              };
              below = omega arith;
            }
      ];
      each = λ x p. elim (cases_lt p.is.is_row.at n) [
        | inl low ↦ to x (Contains-append_left rows a.rows x (h.each x (record { is = p.is; below = low })))
        | inr on ↦
            let at : p.is.is_row.at ≡ n = omega (arith, on, p.below) in
            let same : group groups p.is.is_row.at ≡ g = ap (λ k. group groups k) at ∙ sym e in
            to x (Contains-append_right rows a.rows x (a.are.each x (record {
              text_is = p.is.text_is;
              begin_is = p.is.begin_is;
              labels_are = sym p.is.is_row.labelled ∙ ap (λ (z : Group). z.labels) same;
              some = p.is.some;
              is_in = subst (λ (z : Group). In z.ends x.span.end) same p.is.is_row.is_in;
            })))
      ];
    }

pub all_gathered : (groups : List Group) (text begin n : ℕ) (rows : List Row) → n ≡ length groups → HasAll (OfBelow groups text begin n) rows → HasAll (IsGroupRow groups text begin) rows
all_gathered groups text begin n rows e h = record { once = h.once; only = λ x c. (h.only x c).is; each = λ x p. h.each x (record { is = p; below = omega (arith, p.is_row.within, e) }) }

-- ## Sorted

strict_from_pairs : {X : Type 0} (order : X → X → Ordering) (xs : List X) → AllPairs (λ a b. order a b ≡ Less) xs → IsStrictlySortedBy order xs
unfolding IsStrictlySortedBy
strict_from_pairs order [] h = tt
strict_from_pairs order (x ∷ xs) h =
    (recursion_from_All (λ y. order x y ≡ Less) xs (λ j d within. h 0 (suc j) d (omega arith) (omega (arith, within))), strict_from_pairs order xs (λ i j d low within. h (suc i) (suc j) d (omega (arith, low)) (omega (arith, within))))

upward : (o : Ordering) → is_lt o ≡ false → is_eq (ordering_reverse o) ≡ false → ordering_reverse o ≡ Less
upward Less e d = cc
upward Equal e d = cc
upward Greater e d = refl

turned : (o : Ordering) → is_eq (ordering_reverse o) ≡ is_eq o
turned Less = refl
turned Equal = refl
turned Greater = refl

flipped : (x y : Row) → eq_by_cmp row_cmp x y ≡ eq_by_cmp row_cmp y x
flipped x y = ap is_eq (row_cmp_total.antisymm x y) ∙ turned (row_cmp y x)

-- each once and sorted is ascending
pub sorted_lists : (P : Row → Type 0) (rows sorted : List Row) → HasAll P rows → IsPermutation rows sorted → IsSorted row_cmp sorted → ListsAll row_cmp P sorted
sorted_lists P rows sorted h moved up =
    let once = IsDistinct-IsPermutation (eq_by_cmp row_cmp) flipped rows sorted moved h.once in
    record {
      ascending = strict_from_pairs row_cmp sorted (λ i j d low within.
          let a = get_or sorted i d in
          let b = get_or sorted j d in
          row_cmp_total.antisymm a b
          ∙ upward (row_cmp b a) (sorted_far _ (ranks_by row_cmp_total (λ z. z)) sorted up i j d (omega (arith, low)) within)
          (ap is_eq (sym (row_cmp_total.antisymm a b)) ∙ apart_from_distinct (eq_by_cmp row_cmp) sorted i j d once low within));
      only = λ x c. h.only x (Contains-permutation sorted rows x (IsPermutation-sym rows sorted moved) c);
      each = λ x p. Contains-permutation rows sorted x moved (h.each x p);
    }

pub starts : (groups : List Group) (text begin : ℕ) (rows : List Row) → rows ≡ [] → HasAll (OfBelow groups text begin 0) rows
starts groups text begin rows e = subst (HasAll (OfBelow groups text begin 0)) (sym e) (none_gathered groups text begin)

-- ## One group alone

pub one_group : (groups : List Group) (g : Group) (text begin : ℕ) → g ≡ group groups 0 → length groups ≡ 1 → (row : Row) → EndsIn g.ends g.labels text begin row → IsGroupRow groups text begin row
one_group groups g text begin e one row r = record {
  text_is = r.text_is;
  begin_is = r.begin_is;
  some = r.some;
  is_row = record { at = 0; within = omega (arith, one); labelled = ap (λ (z : Group). z.labels) (sym e) ∙ sym r.labels_are; is_in = subst (λ (z : Group). In z.ends row.span.end) e r.is_in };
}

pub one_group_back : (groups : List Group) (g : Group) (text begin : ℕ) → g ≡ group groups 0 → length groups ≡ 1 → (row : Row) → IsGroupRow groups text begin row → EndsIn g.ends g.labels text begin row
one_group_back groups g text begin e one row r =
    let at : r.is_row.at ≡ 0 = omega (arith, r.is_row.within, one) in
    let same : group groups r.is_row.at ≡ g = ap (λ k. group groups k) at ∙ sym e in
    record {
      text_is = r.text_is;
      begin_is = r.begin_is;
      labels_are = sym r.is_row.labelled ∙ ap (λ (z : Group). z.labels) same;
      some = r.some;
      is_in = subst (λ (z : Group). In z.ends row.span.end) same r.is_row.is_in;
    }
