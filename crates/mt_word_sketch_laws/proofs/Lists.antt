-- Lists and their members.
use Rattle.std.proofs.Common.{◌≡◌, ℕ, zero, suc, ◌⊎◌, inl, inr, List, [], ◌∷◌, map, take, refl, sym, ◌∙◌, ap, ap₂, subst}
use Rattle.std.specs.List.{AllByRecursion, AllZip}
use Rattle.std.specs.List.Sorted.{IsStrictlySortedBy}
use Rattle.std.specs.Cmp.{IsTotalOrder}
use Rattle.std.specs.declared.cmp.Ordering.{Ordering}
use Rattle.std.specs.declared.cmp.Ordering.TheVariants.{Less, Equal}
use Rattle.std.proofs.lemmas.Cmp.{tied_itself}
use Rattle.mt_match_laws.proofs.Members.{Member, to_member, each_member}
use Rattle.mt_match_laws.proofs.Deciding.{Decision}
use Rattle.mt_count_spec.specs.Counts.{EachOnce}

-- ---- members of lists that are made of others

pub in_map : {X Y : Type 0} (g : X → Y) (xs : List X) (x : X) → Member x xs → Member (g x) (map g xs)
in_map g [] x m = absurd m
in_map g (a ∷ xs) x (inl e) = inl (ap g e)
in_map g (a ∷ xs) x (inr m) = inr (in_map g xs x m)

pub record IsImage {X Y : Type 0} (g : X → Y) (xs : List X) (y : Y) : Type 0 where
  pub from : X
  pub member : Member from xs
  pub is : y ≡ g from

pub from_map : {X Y : Type 0} (g : X → Y) (xs : List X) (y : Y) → Member y (map g xs) → IsImage g xs y
from_map g [] y m = absurd m
from_map g (a ∷ xs) y (inl e) = record { from = a; member = inl refl; is = e }
from_map g (a ∷ xs) y (inr m) = let more = from_map g xs y m in record { from = more.from; member = inr more.member; is = more.is }

pub in_first : {X : Type 0} (n : ℕ) (xs : List X) (x : X) → Member x (take n xs) → Member x xs
in_first zero xs x m = absurd m
in_first (suc n) [] x m = absurd m
in_first (suc n) (a ∷ xs) x (inl e) = inl e
in_first (suc n) (a ∷ xs) x (inr m) = inr (in_first n xs x m)

-- those of which something holds
pub kept : {X : Type 0} {P : X → Type 0} → ((x : X) → Decision (P x)) → List X → List X
kept d [] = []
kept d (x ∷ xs) = elim (d x) [ inl p ↦ x ∷ kept d xs | inr n ↦ kept d xs ]

pub from_kept : {X : Type 0} {P : X → Type 0} (d : (x : X) → Decision (P x)) (xs : List X) (x : X) → Member x (kept {P = P} d xs) → P x
unfolding kept
from_kept d [] x m = absurd m
from_kept {X} {P} d (a ∷ xs) x m = by (d a) m (from_kept {P = P} d xs x)
  where
    by : (one : Decision (P a)) → Member x (elim one [ inl p ↦ a ∷ kept {P = P} d xs | inr n ↦ kept {P = P} d xs ]) → (Member x (kept {P = P} d xs) → P x) → P x
    by (inl p) (inl e) rest = subst P (sym e) p
    by (inl p) (inr m) rest = rest m
    by (inr n) m rest = rest m

pub in_kept : {X : Type 0} {P : X → Type 0} (d : (x : X) → Decision (P x)) (xs : List X) (x : X) → P x → Member x xs → Member x (kept {P = P} d xs)
unfolding kept
in_kept d [] x p m = absurd m
in_kept {X} {P} d (a ∷ xs) x p m = by (d a) m (in_kept {P = P} d xs x p)
  where
    by : (one : Decision (P a)) → (x ≡ a) ⊎ Member x xs → (Member x xs → Member x (kept {P = P} d xs)) → Member x (elim one [ inl p ↦ a ∷ kept {P = P} d xs | inr n ↦ kept {P = P} d xs ])
    by (inl q) (inl e) rest = inl e
    by (inl q) (inr m) rest = inr (rest m)
    by (inr n) (inl e) rest = absurd (n (subst P e p))
    by (inr n) (inr m) rest = rest m

-- ---- place by place

pub one_zip : {A B : Type 0} (R : A → B → Type 0) (xs : List A) (bs cs : List B) → ((a : A) (b c : B) → Member a xs → R a b → R a c → b ≡ c) → AllZip R xs bs → AllZip R xs cs → bs ≡ cs
one_zip R [] [] [] one h k = refl
one_zip R [] [] (c ∷ cs) one h k = absurd k
one_zip R [] (b ∷ bs) cs one h k = absurd h
one_zip R (a ∷ xs) [] cs one h k = absurd h
one_zip R (a ∷ xs) (b ∷ bs) [] one h k = absurd k
one_zip R (a ∷ xs) (b ∷ bs) (c ∷ cs) one h k = ap₂ ◌∷◌ (one a b c (inl refl) h.0 k.0) (one_zip R xs bs cs (λ x y z m. one x y z (inr m)) h.1 k.1)

pub record Zipped {A B : Type 0} (R : A → B → Type 0) (xs : List A) : Type 0 where
  pub with : List B
  pub all : AllZip R xs with

pub some_zip : {A B : Type 0} (R : A → B → Type 0) (xs : List A) → ((a : A) → Member a xs → (b : B) × R a b) → Zipped R xs
some_zip R [] f = record { with = []; all = tt }
some_zip R (a ∷ xs) f = let here = f a (inl refl) in let rest = some_zip R xs (λ x m. f x (inr m)) in record { with = here.0 ∷ rest.with; all = (here.1, rest.all) }

-- ---- ascending lists

-- what is ascending by one order is so by another that ranks its members alike
all_alike : {X : Type 0} (a b : X → X → Ordering) (x : X) (xs : List X) → ((y : X) → Member y xs → a x y ≡ b x y) → AllByRecursion (λ y. a x y ≡ Less) xs → AllByRecursion (λ y. b x y ≡ Less) xs
all_alike a b x [] e h = tt
all_alike a b x (y ∷ ys) e h = (sym (e y (inl refl)) ∙ h.0, all_alike a b x ys (λ z m. e z (inr m)) h.1)

pub ascends_alike : {X : Type 0} (a b : X → X → Ordering) (xs : List X) → ((x y : X) → Member x xs → Member y xs → a x y ≡ b x y) → IsStrictlySortedBy a xs → IsStrictlySortedBy b xs
unfolding IsStrictlySortedBy
ascends_alike a b [] e h = tt
ascends_alike a b (x ∷ xs) e h = (all_alike a b x xs (λ y m. e x y (inl refl) (inr m)) h.0, ascends_alike a b xs (λ y z m n. e y z (inr m) (inr n)) h.1)

all_mapped : {X Y : Type 0} (g : X → Y) (c : Y → Y → Ordering) (x : X) (xs : List X) → AllByRecursion (λ y. c (g x) (g y) ≡ Less) xs → AllByRecursion (λ y. c (g x) y ≡ Less) (map g xs)
all_mapped g c x [] h = tt
all_mapped g c x (y ∷ ys) h = (h.0, all_mapped g c x ys h.1)

pub ascends_mapped : {X Y : Type 0} (g : X → Y) (c : Y → Y → Ordering) (xs : List X) → IsStrictlySortedBy (λ x y. c (g x) (g y)) xs → IsStrictlySortedBy c (map g xs)
unfolding IsStrictlySortedBy
ascends_mapped g c [] h = tt
ascends_mapped g c (x ∷ xs) h = (all_mapped g c x xs h.0, ascends_mapped g c xs h.1)

-- and has each item once
pub ascending_once : {X : Type 0} {order : X → X → Ordering} (o : IsTotalOrder order) (xs : List X) → IsStrictlySortedBy order xs → EachOnce xs
unfolding IsStrictlySortedBy
ascending_once o [] h = tt
ascending_once {X} {order} o (x ∷ xs) h =
    (λ there. let tied : order x x ≡ Equal = tied_itself o x in let less = each_member (λ y. order x y ≡ Less) xs x h.0 (to_member xs x there) in let wrong : ⊥ = cc in wrong, ascending_once o xs h.1)
