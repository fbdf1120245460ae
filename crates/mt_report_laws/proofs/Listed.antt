-- What is told by its value has a list in order.
use Rattle.std.proofs.Common.{◌≡◌, ℕ, inl, inr, List, [], ◌∷◌, ◌++◌, map, refl, sym, ap, subst}
use Rattle.std.specs.List.{AllByRecursion}
use Rattle.std.specs.List.Sorted.{IsStrictlySortedBy}
use Rattle.std.specs.Cmp.{IsTotalOrder, on_total}
use Rattle.std.specs.Ordering.{on}
use Rattle.std.specs.declared.cmp.Ordering.{Ordering}
use Rattle.std.specs.declared.cmp.Ordering.TheVariants.{Less, Equal}
use Rattle.mt_match_spec.specs.Rows.{ListsAll}
use Rattle.mt_match_laws.proofs.Members.{Member, to_member, from_member, in_front, in_back, in_either}
use Rattle.mt_match_laws.proofs.Deciding.{Decision}
use Rattle.mt_match_laws.proofs.Listing.{kept, is_kept, keeps}
use Rattle.mt_match_laws.proofs.Sorting.{sorted, in_order}

-- ## The values that are kept

abbrev those : {P : List ℕ → Type 0} → ((v : List ℕ) → Decision (P v)) → List (List ℕ) → List (List ℕ)
those d [] = []
those d (v ∷ vs) = kept (d v) v ++ those d vs

pub record IsKept (P : List ℕ → Type 0) (values : List (List ℕ)) (value : List ℕ) : Type 0 where
  pub holds : P value
  pub member : Member value values

are_kept : {P : List ℕ → Type 0} (d : (v : List ℕ) → Decision (P v)) (vs : List (List ℕ)) (w : List ℕ) → Member w (those d vs) → IsKept P vs w
are_kept d [] w m = absurd m
are_kept {P} d (v ∷ vs) w m = elim (in_either (kept (d v) v) (those d vs) w m) [
  | inl here ↦ let (p, e) = is_kept (d v) v w here in record { holds = subst P (sym e) p; member = inl e }
  | inr more ↦ let rest = are_kept d vs w more in record { holds = rest.holds; member = inr rest.member }
]

all_kept : {P : List ℕ → Type 0} (d : (v : List ℕ) → Decision (P v)) (vs : List (List ℕ)) (w : List ℕ) → IsKept P vs w → Member w (those d vs)
all_kept {P} d vs w is = by vs is.member
  where
    by : (us : List (List ℕ)) → Member w us → Member w (those d us)
    by [] m = m
    by (u ∷ us) (inl e) = in_front (kept (d u) u) (those d us) w (subst (λ (x : List ℕ). Member w (kept (d x) x)) e (keeps (d w) w is.holds))
    by (u ∷ us) (inr m) = in_back (kept (d u) u) (those d us) w (by us m)

-- ## What is made of them

pub record IsMade {X : Type 0} (made : List ℕ → X) (values : List (List ℕ)) (x : X) : Type 0 where
  pub value : List ℕ
  pub member : Member value values
  pub is : x ≡ made value

is_made : {X : Type 0} (made : List ℕ → X) (vs : List (List ℕ)) (x : X) → Member x (map made vs) → IsMade made vs x
is_made made [] x m = absurd m
is_made made (v ∷ vs) x (inl e) = record { value = v; member = inl refl; is = e }
is_made made (v ∷ vs) x (inr m) = let rest = is_made made vs x m in record { value = rest.value; member = inr rest.member; is = rest.is }

made_member : {X : Type 0} (made : List ℕ → X) (vs : List (List ℕ)) (v : List ℕ) → Member v vs → Member (made v) (map made vs)
made_member made [] v m = absurd m
made_member made (u ∷ us) v (inl e) = inl (ap made e)
made_member made (u ∷ us) v (inr m) = inr (made_member made us v m)

all_made : {X : Type 0} (order : X → X → Ordering) (made : List ℕ → X) (v : List ℕ) (vs : List (List ℕ)) → AllByRecursion (λ w. on made order v w ≡ Less) vs → AllByRecursion (λ x. order (made v) x ≡ Less) (map made vs)
all_made order made v [] all = tt
all_made order made v (w ∷ ws) all = (all.0, all_made order made v ws all.1)

made_up : {X : Type 0} (order : X → X → Ordering) (made : List ℕ → X) (vs : List (List ℕ)) → IsStrictlySortedBy (on made order) vs → IsStrictlySortedBy order (map made vs)
unfolding IsStrictlySortedBy
made_up order made [] s = tt
made_up order made (v ∷ vs) s = (all_made order made v vs s.0, made_up order made vs s.1)

-- ## A list of all

-- what is told by a value, one of these, and is decided there, has a list in order
pub listed : {X : Type 0} {order : X → X → Ordering} (o : IsTotalOrder order) (made : List ℕ → X) (apart : (v w : List ℕ) → order (made v) (made w) ≡ Equal → v ≡ w) (P : X → Type 0) (values : List (List ℕ))
    (d : (v : List ℕ) → Decision (P (made v))) (each : (x : X) → P x → IsMade made values x) → (all : List X) × ListsAll order P all
listed {X} {order} o made apart P values d each = (
  map made up,
  record {
    ascending = made_up order made up lists.ascending;
    only = λ x c. let is = is_made made up x (to_member (map made up) x c) in subst P (sym is.is) (lists.only is.value (from_member up is.value is.member)).holds;
    each = λ x p.
        let is = each x p in
        let there = to_member up is.value (lists.each is.value (record { holds = subst P is.is p; member = is.member })) in
        from_member (map made up) x (subst (λ (y : X). Member y (map made up)) (sym is.is) (made_member made up is.value there));
  },
)
  where
    up : List (List ℕ)
    up = sorted (on made order) (those d values)

    lists : ListsAll (on made order) (IsKept (λ v. P (made v)) values) up
    lists = in_order (on_total made o) apart (IsKept (λ v. P (made v)) values) (those d values) (are_kept d values) (all_kept d values)

-- ## Nothing to list

pub none : {X : Type 0} (order : X → X → Ordering) (P : X → Type 0) → ((x : X) → P x → ⊥) → ListsAll order P []
unfolding IsStrictlySortedBy
none order P never = record { ascending = tt; only = λ x m. absurd (to_member [] x m); each = λ x p. absurd (never x p) }

pub none_listed : {X : Type 0} (order : X → X → Ordering) (P : X → Type 0) (xs : List X) → ((x : X) → P x → ⊥) → ListsAll order P xs → xs ≡ []
none_listed order P [] never all = refl
none_listed order P (x ∷ xs) never all = absurd (never x (all.only x (from_member (x ∷ xs) x (inl refl))))
