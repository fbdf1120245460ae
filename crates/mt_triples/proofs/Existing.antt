-- Every text has a list of its instances.
use Rattle.std.proofs.Common.{◌≡◌, ℕ, zero, suc, ◌+◌, ◌≤◌, Bool, true, false, if◌then◌else◌, Option, Some, None, List, [], ◌∷◌, ◌++◌, length, slice_get, codes, refl, sym, ap, subst, ◌∙◌, arith, true≢false, ◌⊎◌, inl, inr, append_assoc, length-append}
use Rattle.std.specs.List.{Contains}
use Rattle.std.specs.Str.{bytes_eq}
use Rattle.std.specs.Cmp.Lexicographic.{bytes_decides}
use Rattle.std.proofs.lemmas.Bool.{cases_eq}
use Rattle.std.proofs.lemmas.List.Elements.{Contains-append_left, Contains-append_right, Contains-append_cases}
use Rattle.mt_text_spec.specs.Registries.{Registry}
use Rattle.mt_text_spec.specs.Texts.{Text, Row, unset}
use Rattle.mt_text_spec.specs.Queries.{Query, RelationKind, Plain, Dual, Symmetric, Trinary, Unary, Relation, Grammar}
use Rattle.mt_match_spec.specs.Values.{Images, value_at}
use Rattle.mt_match_spec.specs.Labels.{IsSetTo}
use Rattle.mt_match_spec.specs.Kept.{Keeps, Kept}
use Rattle.mt_match_laws.specs.Laws.{HaveKept}
use Rattle.mt_count_spec.specs.Instances.{Instance, AtTwo, AtOne, IsFilled, IsPair, Gives, GivesPlain, GivesDual, GivesTurned, GivesSymmetric, GivesBack, GivesTrinary, GivesUnary}
use Rattle.mt_count_spec.specs.Counts.{EachOnce}
use Rattle.mt_counts.specs.Totals.{total}
use Rattle.mt_counts.specs.Counted.{Counted, IsSum}
use Rattle.mt_triples.specs.CountsOf.{AreCountsOf, SumsAreCounts}
use Rattle.mt_triples.specs.Tallied.{CountEach, AreInstances, InstancesAreCounted}
use Rattle.mt_triples.proofs.Telling.{counts_none}
use Rattle.mt_triples.proofs.Numbered.{head_there, later, either}

-- ---- instances are told apart

bytes_or : (a b : List ℕ) → (a ≡ b) ⊎ (a ≡ b → ⊥)
bytes_or a b = by (bytes_eq a b) refl
  where
    by : (c : Bool) → bytes_eq a b ≡ c → (a ≡ b) ⊎ (a ≡ b → ⊥)
    by true h = inl ((bytes_decides a b).0 h)
    by false h = inr (λ e. true≢false (sym ((bytes_decides a b).1 e) ∙ h))

same_or : (a b : Instance) → (a ≡ b) ⊎ (a ≡ b → ⊥)
same_or (AtTwo n p q) (AtTwo m r s) = by (bytes_or n m) (cases_eq p r) (cases_eq q s)
  where
    by : (n ≡ m) ⊎ (n ≡ m → ⊥) → (p ≡ r) ⊎ (p ≡ r → ⊥) → (q ≡ s) ⊎ (q ≡ s → ⊥) → (AtTwo n p q ≡ AtTwo m r s) ⊎ (AtTwo n p q ≡ AtTwo m r s → ⊥)
    by (inl e) (inl f) (inl g) = inl (λ i. AtTwo (e i) (f i) (g i))
    by (inr e) f g = inr (λ same. let is : n ≡ m = cc in e is)
    by (inl e) (inr f) g = inr (λ same. let is : p ≡ r = cc in f is)
    by (inl e) (inl f) (inr g) = inr (λ same. let is : q ≡ s = cc in g is)
same_or (AtTwo n p q) (AtOne m r) = inr (λ same. let wrong : ⊥ = cc in wrong)
same_or (AtOne n p) (AtTwo m r s) = inr (λ same. let wrong : ⊥ = cc in wrong)
same_or (AtOne n p) (AtOne m r) = by (bytes_or n m) (cases_eq p r)
  where
    by : (n ≡ m) ⊎ (n ≡ m → ⊥) → (p ≡ r) ⊎ (p ≡ r → ⊥) → (AtOne n p ≡ AtOne m r) ⊎ (AtOne n p ≡ AtOne m r → ⊥)
    by (inl e) (inl f) = inl (λ i. AtOne (e i) (f i))
    by (inr e) f = inr (λ same. let is : n ≡ m = cc in e is)
    by (inl e) (inr f) = inr (λ same. let is : p ≡ r = cc in f is)

there_or : (x : Instance) (xs : List Instance) → Contains xs x ⊎ (Contains xs x → ⊥)
there_or x [] = inr (λ h. absurd (omega (arith, h.1)))
there_or x (y ∷ ys) = by (same_or y x) (there_or x ys)
  where
    neither : (y ≡ x → ⊥) → (Contains ys x → ⊥) → (y ≡ x) ⊎ Contains ys x → ⊥
    neither f g (inl e) = f e
    neither f g (inr h) = g h

    by : (y ≡ x) ⊎ (y ≡ x → ⊥) → Contains ys x ⊎ (Contains ys x → ⊥) → Contains (y ∷ ys) x ⊎ (Contains (y ∷ ys) x → ⊥)
    by (inl e) h = inl (subst (Contains (y ∷ ys)) e (head_there y ys))
    by (inr f) (inl h) = inl (later y x ys h)
    by (inr f) (inr g) = inr (λ h. neither f g (either y x ys h))

-- a list of just the things that a property holds of
pub record Lists (P : Instance → Type 0) : Type 0 where
  pub all : List Instance
  pub only : (i : Instance) → Contains all i → P i
  pub each : (i : Instance) → P i → Contains all i

record ListsEach (P : Instance → Type 0) : Type 0 where
  pub all : List Instance
  pub once : EachOnce all
  pub only : (i : Instance) → Contains all i → P i
  pub each : (i : Instance) → P i → Contains all i

once_each : (xs : List Instance) → ListsEach (Contains xs)
once_each [] = record { all = []; once = tt; only = λ i h. h; each = λ i h. h }
once_each (x ∷ xs) = by (once_each xs)
  where
    by : ListsEach (Contains xs) → ListsEach (Contains (x ∷ xs))
    by rest = chosen (there_or x rest.all)
      where
        put : Contains rest.all x → (i : Instance) → (x ≡ i) ⊎ Contains xs i → Contains rest.all i
        put h i (inl e) = subst (Contains rest.all) e h
        put h i (inr c) = rest.each i c

        on : (i : Instance) → (x ≡ i) ⊎ Contains rest.all i → Contains (x ∷ xs) i
        on i (inl e) = subst (Contains (x ∷ xs)) e (head_there x xs)
        on i (inr c) = later x i xs (rest.only i c)

        back : (i : Instance) → (x ≡ i) ⊎ Contains xs i → Contains (x ∷ rest.all) i
        back i (inl e) = subst (Contains (x ∷ rest.all)) e (head_there x rest.all)
        back i (inr c) = later x i rest.all (rest.each i c)

        chosen : Contains rest.all x ⊎ (Contains rest.all x → ⊥) → ListsEach (Contains (x ∷ xs))
        chosen (inl h) = record { all = rest.all; once = rest.once; only = λ i c. later x i xs (rest.only i c); each = λ i c. put h i (either x i xs c) }
        chosen (inr none) = record { all = x ∷ rest.all; once = (none, rest.once); only = λ i c. on i (either x i rest.all c); each = λ i c. back i (either x i xs c) }

-- ---- labels that are set, and names that are filled

set_or : (labels : List ℕ) (label : ℕ) → ((place : ℕ) × IsSetTo labels label place) ⊎ ((place : ℕ) → IsSetTo labels label place → ⊥)
set_or labels zero = inr (λ place h. h)
set_or labels (suc before) = by (slice_get labels before) refl
  where
    by : (found : Option ℕ) → slice_get labels before ≡ found → ((place : ℕ) × IsSetTo labels (suc before) place) ⊎ ((place : ℕ) → IsSetTo labels (suc before) place → ⊥)
    by None e = inr (λ place h. let same = sym e ∙ h.0 in let wrong : ⊥ = cc in wrong)
    by (Some place) e = known (cases_eq place unset)
      where
        known : (place ≡ unset) ⊎ (place ≡ unset → ⊥) → ((place : ℕ) × IsSetTo labels (suc before) place) ⊎ ((place : ℕ) → IsSetTo labels (suc before) place → ⊥)
        known (inl is) = inr (λ other h. let same = sym e ∙ h.0 in let equal : place ≡ other = cc in h.1 (sym equal ∙ is))
        known (inr set) = inl (place, (e, set))

one_place : (labels : List ℕ) (label a b : ℕ) → IsSetTo labels label a → IsSetTo labels label b → a ≡ b
one_place labels zero a b h k = absurd h
one_place labels (suc before) a b h k = let same = sym h.0 ∙ k.0 in cc

record IsFirst (name front back : List ℕ) : Type 0 where
  pub are : name ≡ front ++ codes "%s" ++ back
  pub first : (before after : List ℕ) → name ≡ before ++ codes "%s" ++ after → length front ≤ length before

found_or : (name : List ℕ) → ((front : List ℕ) × (back : List ℕ) × IsFirst name front back) ⊎ ((front back : List ℕ) → name ≡ front ++ codes "%s" ++ back → ⊥)
found_or [] = inr nothing
  where
    nothing : (front back : List ℕ) → [] ≡ front ++ codes "%s" ++ back → ⊥
    nothing front back e =
        let long : 0 ≡ length (front ++ codes "%s" ++ back) = ap (λ (l : List ℕ). length l) e in
        let whole : length (front ++ codes "%s" ++ back) ≡ length (front ++ codes "%s") + length back = length-append (front ++ codes "%s") back in
        let start : length (front ++ codes "%s") ≡ length front + 2 = length-append front (codes "%s") in
        omega (arith, long, whole, start)
found_or (x ∷ name) = by (begins_or x name) (found_or name)
  where
    begins_or : (x : ℕ) (name : List ℕ) → ((back : List ℕ) × (x ∷ name ≡ codes "%s" ++ back)) ⊎ ((back : List ℕ) → x ∷ name ≡ codes "%s" ++ back → ⊥)
    begins_or x [] = inr (λ back e. let wrong : ⊥ = cc in wrong)
    begins_or x (y ∷ back) = at (cases_eq x 37) (cases_eq y 115)
      where
        at : (x ≡ 37) ⊎ (x ≡ 37 → ⊥) → (y ≡ 115) ⊎ (y ≡ 115 → ⊥) → ((back' : List ℕ) × (x ∷ y ∷ back ≡ codes "%s" ++ back')) ⊎ ((back' : List ℕ) → x ∷ y ∷ back ≡ codes "%s" ++ back' → ⊥)
        at (inl e) (inl f) = inl (back, λ i. e i ∷ f i ∷ back)
        at (inr e) f = inr (λ back' same. let is : x ≡ 37 = cc in e is)
        at (inl e) (inr f) = inr (λ back' same. let is : y ≡ 115 = cc in f is)

    longer : ((back : List ℕ) → x ∷ name ≡ codes "%s" ++ back → ⊥) → (front : List ℕ) → ((before after : List ℕ) → name ≡ before ++ codes "%s" ++ after → length front ≤ length before) →
        (before after : List ℕ) → x ∷ name ≡ before ++ codes "%s" ++ after → suc (length front) ≤ length before
    longer none front first [] after e = absurd (none after e)
    longer none front first (y ∷ before) after e = let rest : name ≡ before ++ codes "%s" ++ after = cc in let l = first before after rest in omega (arith, l)

    nowhere : ((back : List ℕ) → x ∷ name ≡ codes "%s" ++ back → ⊥) → ((front back : List ℕ) → name ≡ front ++ codes "%s" ++ back → ⊥) → (front back : List ℕ) → x ∷ name ≡ front ++ codes "%s" ++ back → ⊥
    nowhere none rest [] back e = none back e
    nowhere none rest (y ∷ front) back e = let e' : name ≡ front ++ codes "%s" ++ back = cc in rest front back e'

    by : ((back : List ℕ) × (x ∷ name ≡ codes "%s" ++ back)) ⊎ ((back : List ℕ) → x ∷ name ≡ codes "%s" ++ back → ⊥) → ((front : List ℕ) × (back : List ℕ) × IsFirst name front back) ⊎ ((front back : List ℕ) → name ≡ front ++ codes "%s" ++ back → ⊥) →
        ((front : List ℕ) × (back : List ℕ) × IsFirst (x ∷ name) front back) ⊎ ((front back : List ℕ) → x ∷ name ≡ front ++ codes "%s" ++ back → ⊥)
    by (inl (back, e)) rest = inl ([], back, record { are = e; first = λ before after f. omega arith })
    by (inr none) (inl (front, back, h)) = inl (x ∷ front, back, record { are = ap (λ (l : List ℕ). x ∷ l) h.are; first = longer none front h.first })
    by (inr none) (inr rest) = inr (nowhere none rest)

parted_same : (a b c d : List ℕ) → length a ≡ length b → a ++ c ≡ b ++ d → (a ≡ b) × (c ≡ d)
parted_same [] [] c d l e = (refl, e)
parted_same [] (y ∷ b) c d l e = absurd (omega (arith, l))
parted_same (x ∷ a) [] c d l e = absurd (omega (arith, l))
parted_same (x ∷ a) (y ∷ b) c d l e =
    let head : x ≡ y = cc in
    let tail : a ++ c ≡ b ++ d = cc in
    let rest = parted_same a b c d (omega (arith, l)) tail in
    ((λ i. head i ∷ rest.0 i), rest.1)

filled_or : (name value : List ℕ) → ((final : List ℕ) × IsFilled name value final) ⊎ ((final : List ℕ) → IsFilled name value final → ⊥)
filled_or name value = by (found_or name)
  where
    by : ((front : List ℕ) × (back : List ℕ) × IsFirst name front back) ⊎ ((front back : List ℕ) → name ≡ front ++ codes "%s" ++ back → ⊥) → ((final : List ℕ) × IsFilled name value final) ⊎ ((final : List ℕ) → IsFilled name value final → ⊥)
    by (inl (front, back, h)) = inl (front ++ value ++ back, record { front = front; back = back; are = h.are; first = h.first; is = refl })
    by (inr none) = inr (λ final h. none h.front h.back h.are)

one_filled : (name value a b : List ℕ) → IsFilled name value a → IsFilled name value b → a ≡ b
one_filled name value a b h k =
    let low = h.first k.front k.back k.are in
    let high = k.first h.front h.back h.are in
    let parts = parted_same h.front k.front (codes "%s" ++ h.back) (codes "%s" ++ k.back) (omega (arith, low, high)) (sym (append_assoc h.front (codes "%s") h.back) ∙ sym h.are ∙ k.are ∙ append_assoc k.front (codes "%s") k.back) in
    let rest = parted_same (codes "%s") (codes "%s") h.back k.back refl parts.1 in
    h.is ∙ (λ i. parts.0 i ++ value ++ rest.1 i) ∙ sym k.is

-- ---- what a row gives

none_of : (P : Instance → Type 0) → ((i : Instance) → P i → ⊥) → Lists P
none_of P none = record { all = []; only = λ i h. absurd (omega (arith, h.1)); each = λ i p. absurd (none i p) }

one_of : (P : Instance → Type 0) (x : Instance) → P x → ((i : Instance) → P i → x ≡ i) → Lists P
one_of P x p one = record { all = x ∷ []; only = λ i h. by i (either x i [] h); each = λ i q. subst (Contains (x ∷ [])) (one i q) (head_there x []) }
  where
    by : (i : Instance) → (x ≡ i) ⊎ Contains [] i → P i
    by i (inl e) = subst P e p
    by i (inr h) = absurd (omega (arith, h.1))

two_of : (P : Instance → Type 0) (x y : Instance) → P x → P y → ((i : Instance) → P i → (x ≡ i) ⊎ (y ≡ i)) → Lists P
two_of P x y p q one = record { all = x ∷ y ∷ []; only = λ i h. by i (either x i (y ∷ []) h); each = λ i r. put i (one i r) }
  where
    last : (i : Instance) → (y ≡ i) ⊎ Contains [] i → P i
    last i (inl e) = subst P e q
    last i (inr h) = absurd (omega (arith, h.1))

    by : (i : Instance) → (x ≡ i) ⊎ Contains (y ∷ []) i → P i
    by i (inl e) = subst P e p
    by i (inr h) = last i (either y i [] h)

    put : (i : Instance) → (x ≡ i) ⊎ (y ≡ i) → Contains (x ∷ y ∷ []) i
    put i (inl e) = subst (Contains (x ∷ y ∷ [])) e (head_there x (y ∷ []))
    put i (inr e) = subst (Contains (x ∷ y ∷ [])) e (later x y (y ∷ []) (head_there y []))

pair_or : (row : Row) → ((p : ℕ) × (q : ℕ) × IsPair row p q) ⊎ ((p q : ℕ) → IsPair row p q → ⊥)
pair_or row = by (set_or row.labels 1) (set_or row.labels 2)
  where
    by : ((place : ℕ) × IsSetTo row.labels 1 place) ⊎ ((place : ℕ) → IsSetTo row.labels 1 place → ⊥) → ((place : ℕ) × IsSetTo row.labels 2 place) ⊎ ((place : ℕ) → IsSetTo row.labels 2 place → ⊥) →
        ((p : ℕ) × (q : ℕ) × IsPair row p q) ⊎ ((p q : ℕ) → IsPair row p q → ⊥)
    by (inl (p, h)) (inl (q, k)) = inl (p, q, record { first = h; second = k })
    by (inr none) other = inr (λ p q h. none p h.first)
    by (inl h) (inr none) = inr (λ p q h. none q h.second)

module _ (images : Images) (registry : Registry) (text : Text) (relation : Relation) (row : Row) where
  Gift : RelationKind → Instance → Type 0
  Gift kind i = Gives images registry text relation row kind i

  same_two : (name : List ℕ) (p q r s : ℕ) → IsPair row p q → IsPair row r s → AtTwo name p q ≡ AtTwo name r s
  same_two name p q r s h k = let e = one_place row.labels 1 p r h.first k.first in let f = one_place row.labels 2 q s h.second k.second in λ i. AtTwo name (e i) (f i)

  same_back : (name : List ℕ) (p q r s : ℕ) → IsPair row p q → IsPair row r s → AtTwo name q p ≡ AtTwo name s r
  same_back name p q r s h k = let e = one_place row.labels 1 p r h.first k.first in let f = one_place row.labels 2 q s h.second k.second in λ i. AtTwo name (f i) (e i)

  pub gift : (kind : RelationKind) → Lists (Gives images registry text relation row kind)
  gift Plain = by (pair_or row)
    where
      by : ((p : ℕ) × (q : ℕ) × IsPair row p q) ⊎ ((p q : ℕ) → IsPair row p q → ⊥) → Lists (Gives images registry text relation row Plain)
      by (inl (p, q, h)) = one_of (Gives images registry text relation row Plain) (AtTwo relation.name p q) (GivesPlain p q h) only
        where
          only : (i : Instance) → Gives images registry text relation row Plain i → AtTwo relation.name p q ≡ i
          only i (GivesPlain r s k) = same_two relation.name p q r s h k
      by (inr none) = none_of (Gives images registry text relation row Plain) no
        where
          no : (i : Instance) → Gives images registry text relation row Plain i → ⊥
          no i (GivesPlain r s k) = none r s k
  gift Dual = by (pair_or row)
    where
      by : ((p : ℕ) × (q : ℕ) × IsPair row p q) ⊎ ((p q : ℕ) → IsPair row p q → ⊥) → Lists (Gives images registry text relation row Dual)
      by (inl (p, q, h)) = two_of (Gives images registry text relation row Dual) (AtTwo relation.name p q) (AtTwo relation.second q p) (GivesDual p q h) (GivesTurned p q h) only
        where
          only : (i : Instance) → Gives images registry text relation row Dual i → (AtTwo relation.name p q ≡ i) ⊎ (AtTwo relation.second q p ≡ i)
          only i (GivesDual r s k) = inl (same_two relation.name p q r s h k)
          only i (GivesTurned r s k) = inr (same_back relation.second p q r s h k)
      by (inr none) = none_of (Gives images registry text relation row Dual) no
        where
          no : (i : Instance) → Gives images registry text relation row Dual i → ⊥
          no i (GivesDual r s k) = none r s k
          no i (GivesTurned r s k) = none r s k
  gift Symmetric = by (pair_or row)
    where
      by : ((p : ℕ) × (q : ℕ) × IsPair row p q) ⊎ ((p q : ℕ) → IsPair row p q → ⊥) → Lists (Gives images registry text relation row Symmetric)
      by (inl (p, q, h)) = two_of (Gives images registry text relation row Symmetric) (AtTwo relation.name p q) (AtTwo relation.name q p) (GivesSymmetric p q h) (GivesBack p q h) only
        where
          only : (i : Instance) → Gives images registry text relation row Symmetric i → (AtTwo relation.name p q ≡ i) ⊎ (AtTwo relation.name q p ≡ i)
          only i (GivesSymmetric r s k) = inl (same_two relation.name p q r s h k)
          only i (GivesBack r s k) = inr (same_back relation.name p q r s h k)
      by (inr none) = none_of (Gives images registry text relation row Symmetric) no
        where
          no : (i : Instance) → Gives images registry text relation row Symmetric i → ⊥
          no i (GivesSymmetric r s k) = none r s k
          no i (GivesBack r s k) = none r s k
  gift Trinary = by (pair_or row) (set_or row.labels 3)
    where
      no_pair : ((p q : ℕ) → IsPair row p q → ⊥) → (i : Instance) → Gives images registry text relation row Trinary i → ⊥
      no_pair none i (GivesTrinary r s t final k set filled) = none r s k

      no_third : ((place : ℕ) → IsSetTo row.labels 3 place → ⊥) → (i : Instance) → Gives images registry text relation row Trinary i → ⊥
      no_third none i (GivesTrinary r s t final k set filled) = none t set

      value : ℕ → List ℕ
      value place = value_at images registry text registry.ws_attr place

      by : ((p : ℕ) × (q : ℕ) × IsPair row p q) ⊎ ((p q : ℕ) → IsPair row p q → ⊥) → ((place : ℕ) × IsSetTo row.labels 3 place) ⊎ ((place : ℕ) → IsSetTo row.labels 3 place → ⊥) → Lists (Gives images registry text relation row Trinary)
      by (inr none) other = none_of (Gives images registry text relation row Trinary) (no_pair none)
      by (inl h) (inr none) = none_of (Gives images registry text relation row Trinary) (no_third none)
      by (inl (p, q, h)) (inl (t, set)) = named (filled_or relation.name (value_at images registry text registry.ws_attr t))
        where
          only : (final : List ℕ) → IsFilled relation.name (value_at images registry text registry.ws_attr t) final → (i : Instance) → Gives images registry text relation row Trinary i → AtTwo final p q ≡ i
          only final filled i (GivesTrinary r s u other k set' filled') =
              let same = one_place row.labels 3 u t set' set in
              let there : IsFilled relation.name (value_at images registry text registry.ws_attr t) other = subst (λ (n : ℕ). IsFilled relation.name (value_at images registry text registry.ws_attr n) other) same filled' in
              let name = one_filled relation.name (value_at images registry text registry.ws_attr t) final other filled there in
              ap (λ (n : List ℕ). AtTwo n p q) name ∙ same_two other p q r s h k

          no : ((final : List ℕ) → IsFilled relation.name (value_at images registry text registry.ws_attr t) final → ⊥) → (i : Instance) → Gives images registry text relation row Trinary i → ⊥
          no none i (GivesTrinary r s u other k set' filled') =
              none other (subst (λ (n : ℕ). IsFilled relation.name (value_at images registry text registry.ws_attr n) other) (one_place row.labels 3 u t set' set) filled')

          named : ((final : List ℕ) × IsFilled relation.name (value_at images registry text registry.ws_attr t) final) ⊎ ((final : List ℕ) → IsFilled relation.name (value_at images registry text registry.ws_attr t) final → ⊥) →
              Lists (Gives images registry text relation row Trinary)
          named (inl (final, filled)) = one_of (Gives images registry text relation row Trinary) (AtTwo final p q) (GivesTrinary p q t final h set filled) (only final filled)
          named (inr none) = none_of (Gives images registry text relation row Trinary) (no none)
  gift Unary = by (set_or row.labels 1)
    where
      by : ((place : ℕ) × IsSetTo row.labels 1 place) ⊎ ((place : ℕ) → IsSetTo row.labels 1 place → ⊥) → Lists (Gives images registry text relation row Unary)
      by (inl (p, h)) = one_of (Gives images registry text relation row Unary) (AtOne relation.name p) (GivesUnary p h) only
        where
          only : (i : Instance) → Gives images registry text relation row Unary i → AtOne relation.name p ≡ i
          only i (GivesUnary r k) = ap (λ (n : ℕ). AtOne relation.name n) (one_place row.labels 1 p r h k)
      by (inr none) = none_of (Gives images registry text relation row Unary) no
        where
          no : (i : Instance) → Gives images registry text relation row Unary i → ⊥
          no i (GivesUnary r k) = none r k

-- ---- all rows of all queries of all relations

record Among {X : Type 0} (xs : List X) (P : X → Instance → Type 0) (i : Instance) : Type 0 where
  pub item : X
  pub there : Contains xs item
  pub is : P item i

over : {X : Type 0} (xs : List X) (P : X → Instance → Type 0) → ((x : X) → Lists (P x)) → Lists (Among xs P)
over [] P lists = none_of (Among [] P) (λ i h. absurd (omega (arith, h.there.1)))
over {X} (x ∷ xs) P lists = join (lists x) (over xs P lists)
  where
    join : Lists (P x) → Lists (Among xs P) → Lists (Among (x ∷ xs) P)
    join here rest = record { all = here.all ++ rest.all; only = λ i h. on i (Contains-append_cases here.all rest.all i h); each = λ i a. put i a (either x a.item xs a.there) }
      where
        on : (i : Instance) → Contains here.all i ⊎ Contains rest.all i → Among (x ∷ xs) P i
        on i (inl h) = record { item = x; there = head_there x xs; is = here.only i h }
        on i (inr h) = let a = rest.only i h in record { item = a.item; there = later x a.item xs a.there; is = a.is }

        put : (i : Instance) (a : Among (x ∷ xs) P i) → (x ≡ a.item) ⊎ Contains xs a.item → Contains (here.all ++ rest.all) i
        put i a (inl e) = Contains-append_left here.all rest.all i (here.each i (subst (λ (y : X). P y i) (sym e) a.is))
        put i a (inr h) = Contains-append_right here.all rest.all i (rest.each i (record { item = a.item; there = h; is = a.is }))

-- some row that the query keeps gives the instance
record RowGives (images : Images) (registry : Registry) (text : Text) (relation : Relation) (query : Query) (i : Instance) : Type 0 where
  pub row : Row
  pub keeps : Keeps images registry (text ∷ []) query row
  pub gives : Gives images registry text relation row relation.kind i

row_gifts : HaveKept → (images : Images) (registry : Registry) (text : Text) (relation : Relation) (query : Query) → Lists (RowGives images registry text relation query)
row_gifts have images registry text relation query = by (have images registry (text ∷ []) query)
  where
    by : (rows : List Row) × Kept images registry (text ∷ []) query rows → Lists (RowGives images registry text relation query)
    by (rows, kept) =
        let all = over rows (λ row i. Gives images registry text relation row relation.kind i) (λ row. gift images registry text relation row relation.kind) in
        record {
          all = all.all;
          only = λ i h. let a = all.only i h in record { row = a.item; keeps = kept.only a.item a.there; gives = a.is };
          each = λ i g. all.each i (record { item = g.row; there = kept.each g.row g.keeps; is = g.gives });
        }

pub have_all : HaveKept → (images : Images) (registry : Registry) (grammar : Grammar) (text : Text) → (all : List Instance) × AreInstances images registry grammar text all
have_all have images registry grammar text =
    let all = over grammar.relations (λ relation i. Among relation.queries (λ query j. RowGives images registry text relation query j) i)
    (λ relation. over relation.queries (λ query j. RowGives images registry text relation query j) (λ query. row_gifts have images registry text relation query)) in
    let each = once_each all.all in (
      each.all,
      record {
        once = each.once;
        only = λ i h.
            let a = all.only i (each.only i h) in
            let b = a.is in
            let c = b.is in
            record { relation = a.item; relations = a.there; query = b.item; queries = b.there; row = c.row; keeps = c.keeps; gives = c.gives };
        each = λ i h. each.each i (all.each i (record { item = h.relation; there = h.relations; is = record { item = h.query; there = h.queries; is = record { row = h.row; keeps = h.keeps; gives = h.gives } } }));
      },
    )

-- ---- tables of them

record Tables (values : ℕ → List ℕ) (all : List Instance) : Type 0 where
  pub counted : Counted
  pub count : CountEach values all counted

tables_of : (values : ℕ → List ℕ) (all : List Instance) → Tables values all
tables_of values [] = record { counted = record { both = []; first = []; second = []; alone = [] }; count = record { both = λ test. refl; first = λ test. refl; second = λ test. refl; alone = λ test. refl } }
tables_of values (AtTwo name p q ∷ all) =
    let rest = tables_of values all in
    record {
      counted = record {
        both = ((name, values p, values q), 1) ∷ rest.counted.both;
        first = ((name, values p), 1) ∷ rest.counted.first;
        second = ((name, values q), 1) ∷ rest.counted.second;
        alone = rest.counted.alone;
      };
      count = record {
        both = λ test. ap (λ (n : ℕ). (if test (name, values p, values q) then 1 else 0) + n) (rest.count.both test);
        first = λ test. ap (λ (n : ℕ). (if test (name, values p) then 1 else 0) + n) (rest.count.first test);
        second = λ test. ap (λ (n : ℕ). (if test (name, values q) then 1 else 0) + n) (rest.count.second test);
        alone = rest.count.alone;
      };
    }
tables_of values (AtOne name p ∷ all) =
    let rest = tables_of values all in
    record {
      counted = record { both = rest.counted.both; first = rest.counted.first; second = rest.counted.second; alone = ((name, values p), 1) ∷ rest.counted.alone };
      count = record { both = rest.count.both; first = rest.count.first; second = rest.count.second; alone = λ test. ap (λ (n : ℕ). (if test (name, values p) then 1 else 0) + n) (rest.count.alone test) };
    }

joined_total : {K : Type 0} (p : K → Bool) (xs ys : List (K × ℕ)) → total p (xs ++ ys) ≡ total p xs + total p ys
joined_total p [] ys = omega arith
joined_total p (x ∷ xs) ys = let rest = joined_total p xs ys in omega (arith, rest)

joined : Counted → Counted → Counted
joined a b = record { both = a.both ++ b.both; first = a.first ++ b.first; second = a.second ++ b.second; alone = a.alone ++ b.alone }

joined_sum : (a b : Counted) → IsSum a b (joined a b)
unfolding joined
joined_sum a b = record { both = λ p. joined_total p a.both b.both; first = λ p. joined_total p a.first b.first; second = λ p. joined_total p a.second b.second; alone = λ p. joined_total p a.alone b.alone }

pub have_tables : HaveKept → SumsAreCounts → InstancesAreCounted → (images : Images) (registry : Registry) (grammar : Grammar) (corpus : List Text) → (counted : Counted) × AreCountsOf images registry grammar corpus counted
have_tables have sums count images registry grammar [] = (record { both = []; first = []; second = []; alone = [] }, counts_none images registry grammar)
have_tables have sums count images registry grammar (text ∷ corpus) =
    let all = have_all have images registry grammar text in
    let here = tables_of (value_at images registry text registry.ws_attr) all.0 in
    let rest = have_tables have sums count images registry grammar corpus in
    (joined here.counted rest.0, sums images registry grammar (text ∷ []) corpus here.counted rest.0 (joined here.counted rest.0) (count images registry grammar text all.0 here.counted all.1 here.count) rest.1 (joined_sum here.counted rest.0))
