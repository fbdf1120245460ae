-- What is added up over a list of numbered things is added up over everything that something holds of.
use Rattle.std.proofs.Common.{◌≡◌, ℕ, ◌+◌, ◌<◌, ◌⊎◌, inl, inr, Bool, true, false, if◌then◌else◌, List, [], ◌∷◌, ◌++◌, map, refl, sym, ◌∙◌, ap, subst, arith}
use Rattle.std.specs.List.{Contains, sum_by}
use Rattle.std.proofs.lemmas.List.Sums.{sum_by-cons, sum_by-append}
use Rattle.mt_match_laws.proofs.Members.{Member, to_member, from_member, in_front, in_back, in_either}
use Rattle.mt_count_spec.specs.Counts.{EachOnce}
use Rattle.mt_word_sketch_spec.specs.Thesaurus.{AddUp}
use Rattle.mt_word_sketch_laws.proofs.Lists.{in_map, from_map}

-- ---- those that pass a test

chosen : {A X : Type 0} → (A → Bool) → (A → X) → List A → List X
chosen test g [] = []
chosen test g (a ∷ us) = if test a then g a ∷ chosen test g us else chosen test g us

record Chosen {A X : Type 0} (test : A → Bool) (g : A → X) (us : List A) (x : X) : Type 0 where
  pub item : A
  pub member : Member item us
  pub passes : test item ≡ true
  pub is : x ≡ g item

from_chosen : {A X : Type 0} (test : A → Bool) (g : A → X) (us : List A) (x : X) → Member x (chosen test g us) → Chosen test g us x
unfolding chosen
from_chosen test g [] x m = absurd m
from_chosen {A} {X} test g (a ∷ us) x m = by (test a) refl m (from_chosen test g us x)
  where
    by : (b : Bool) → test a ≡ b → Member x (if b then g a ∷ chosen test g us else chosen test g us) → (Member x (chosen test g us) → Chosen test g us x) → Chosen test g (a ∷ us) x
    by true e (inl is) rest = record { item = a; member = inl refl; passes = e; is = is }
    by true e (inr n) rest = let c = rest n in record { item = c.item; member = inr c.member; passes = c.passes; is = c.is }
    by false e n rest = let c = rest n in record { item = c.item; member = inr c.member; passes = c.passes; is = c.is }

in_chosen : {A X : Type 0} (test : A → Bool) (g : A → X) (us : List A) (a : A) → Member a us → test a ≡ true → Member (g a) (chosen test g us)
unfolding chosen
in_chosen test g [] a m passes = absurd m
in_chosen {A} {X} test g (b ∷ us) a m passes = by (test b) refl m (λ n. in_chosen test g us a n passes)
  where
    by : (t : Bool) → test b ≡ t → (a ≡ b) ⊎ Member a us → (Member a us → Member (g a) (chosen test g us)) → Member (g a) (if t then g b ∷ chosen test g us else chosen test g us)
    by true e (inl is) rest = inl (ap g is)
    by true e (inr n) rest = inr (rest n)
    by false e (inl is) rest = let wrong : ◌≡◌ {A = Bool} true false = sym passes ∙ ap test is ∙ e in let no : ⊥ = cc in absurd no
    by false e (inr n) rest = rest n

once_chosen : {A X : Type 0} (test : A → Bool) (g : A → X) (us : List A) → ((a b : A) → Member a us → Member b us → test a ≡ true → test b ≡ true → g a ≡ g b → a ≡ b) → EachOnce us → EachOnce (chosen test g us)
unfolding chosen
once_chosen test g [] one once = tt
once_chosen {A} {X} test g (a ∷ us) one once = by (test a) refl (once_chosen test g us (λ b c m n. one b c (inr m) (inr n)) once.1)
  where
    by : (t : Bool) → test a ≡ t → EachOnce (chosen test g us) → EachOnce (if t then g a ∷ chosen test g us else chosen test g us)
    by true e rest = (
      λ there.
          let c = from_chosen test g us (g a) (to_member (chosen test g us) (g a) there) in
          let same : a ≡ c.item = one a c.item (inl refl) (inr c.member) e c.passes c.is in
          once.0 (subst (λ (b : A). Contains us b) (sym same) (from_member us c.item c.member)),
      rest,
    )
    by false e rest = rest

sum_chosen : {A X : Type 0} (test : A → Bool) (g : A → X) (number : X → ℕ) (us : List A) → sum_by number (chosen test g us) ≡ sum_by (λ a. if test a then number (g a) else 0) us
unfolding chosen
sum_chosen test g number [] = refl
sum_chosen {A} {X} test g number (a ∷ us) = by (test a) refl (sum_chosen test g number us) ∙ sym (sum_by-cons (λ (b : A). if test b then number (g b) else 0) a us)
  where
    by : (t : Bool) → test a ≡ t → sum_by number (chosen test g us) ≡ sum_by (λ (b : A). if test b then number (g b) else 0) us →
        sum_by number (if t then g a ∷ chosen test g us else chosen test g us) ≡ (if test a then number (g a) else 0) + sum_by (λ (b : A). if test b then number (g b) else 0) us
    by true e rest =
        let here : ◌≡◌ {A = ℕ} (if test a then number (g a) else 0) (number (g a)) = ap (λ (b : Bool). if b then number (g a) else 0) e in
        omega (arith, here, rest, sum_by-cons number (g a) (chosen test g us))
    by false e rest =
        let here : ◌≡◌ {A = ℕ} (if test a then number (g a) else 0) 0 = ap (λ (b : Bool). if b then number (g a) else 0) e in
        omega (arith, here, rest)

-- each thing that P holds of is that of one item that passes
pub record Covers {A X : Type 0} (test : A → Bool) (g : A → X) (P : X → Type 0) (us : List A) : Type 0 where
  pub once : EachOnce us
  pub one : (a b : A) → Member a us → Member b us → test a ≡ true → test b ≡ true → g a ≡ g b → a ≡ b
  pub only : (a : A) → Member a us → test a ≡ true → P (g a)
  pub each : (x : X) → P x → (a : A) × (Member a us) × (test a ≡ true) × (g a ≡ x)

pub adds : {A X : Type 0} (test : A → Bool) (g : A → X) (number : X → ℕ) (P : X → Type 0) (us : List A) → Covers test g P us → AddUp P number (sum_by (λ a. if test a then number (g a) else 0) us)
adds {A} {X} test g number P us all = record {
  all = chosen test g us;
  once = once_chosen test g us all.one all.once;
  only = λ x h. let c = from_chosen test g us x (to_member (chosen test g us) x h) in subst P (sym c.is) (all.only c.item c.member c.passes);
  each = λ x h. let (a, member, passes, is) = all.each x h in from_member (chosen test g us) x (subst (λ (y : X). Member y (chosen test g us)) is (in_chosen test g us a member passes));
  are = sum_chosen test g number us;
}

-- ---- all pairs of two lists

pub product : {A B : Type 0} → List A → List B → List (A × B)
product [] vs = []
product (a ∷ us) vs = map (λ b. (a, b)) vs ++ product us vs

pub from_product : {A B : Type 0} (us : List A) (vs : List B) (q : A × B) → Member q (product us vs) → Member q.0 us × Member q.1 vs
unfolding product
from_product [] vs q m = absurd m
from_product {A} {B} (a ∷ us) vs q m = by (in_either (map (λ (b : B). (a, b)) vs) (product us vs) q m) (from_product us vs q)
  where
    by : Member q (map (λ (b : B). (a, b)) vs) ⊎ Member q (product us vs) → (Member q (product us vs) → Member q.0 us × Member q.1 vs) → Member q.0 (a ∷ us) × Member q.1 vs
    by (inl n) rest =
        let from = from_map (λ (b : B). (a, b)) vs q n in
        (inl (ap (λ (p : A × B). p.0) from.is), subst (λ (b : B). Member b vs) (sym (ap (λ (p : A × B). p.1) from.is)) from.member)
    by (inr n) rest = let (first, second) = rest n in (inr first, second)

pub in_product : {A B : Type 0} (us : List A) (vs : List B) (a : A) (b : B) → Member a us → Member b vs → Member (a, b) (product us vs)
unfolding product
in_product [] vs a b m n = absurd m
in_product {A} {B} (c ∷ us) vs a b (inl e) n = in_front (map (λ (d : B). (c, d)) vs) (product us vs) (a, b) (subst (λ (d : A). Member {X = A × B} (d, b) (map (λ (e : B). (c, e)) vs)) (sym e) (in_map (λ (d : B). (c, d)) vs b n))
in_product {A} {B} (c ∷ us) vs a b (inr m) n = in_back (map (λ (d : B). (c, d)) vs) (product us vs) (a, b) (in_product us vs a b m n)

pub each_once_append : {X : Type 0} (xs ys : List X) → EachOnce xs → EachOnce ys → ((x : X) → Member x xs → Member x ys → ⊥) → EachOnce (xs ++ ys)
each_once_append [] ys h k apart = k
each_once_append {X} (x ∷ xs) ys h k apart = (λ there. by (in_either xs ys x (to_member (xs ++ ys) x there)), each_once_append xs ys h.1 k (λ z m n. apart z (inr m) n))
  where
    by : Member x xs ⊎ Member x ys → ⊥
    by (inl m) = h.0 (from_member xs x m)
    by (inr m) = apart x (inl refl) m

once_map : {X Y : Type 0} (g : X → Y) → ((x y : X) → g x ≡ g y → x ≡ y) → (xs : List X) → EachOnce xs → EachOnce (map g xs)
once_map g one [] once = tt
once_map {X} {Y} g one (x ∷ xs) once = (
  λ there.
      let from = from_map g xs (g x) (to_member (map g xs) (g x) there) in
      once.0 (subst (λ (z : X). Contains xs z) (sym (one x from.from from.is)) (from_member xs from.from from.member)),
  once_map g one xs once.1,
)

pub once_product : {A B : Type 0} (us : List A) (vs : List B) → EachOnce us → EachOnce vs → EachOnce (product us vs)
unfolding product
once_product [] vs h k = tt
once_product {A} {B} (a ∷ us) vs h k =
    each_once_append (map (λ (b : B). (a, b)) vs) (product us vs) (once_map (λ (b : B). (a, b)) (λ b c e. ap (λ (p : A × B). p.1) e) vs k) (once_product us vs h.1 k)
    (λ q m n.
    let from = from_map (λ (b : B). (a, b)) vs q m in
    let there = from_product us vs q n in
    h.0 (from_member us a (subst (λ (c : A). Member c us) (ap (λ (p : A × B). p.0) from.is) there.0)))

sum_mapped : {X Y : Type 0} (g : X → Y) (h : Y → ℕ) (xs : List X) → sum_by h (map g xs) ≡ sum_by (λ x. h (g x)) xs
sum_mapped g h [] = refl
sum_mapped {X} {Y} g h (x ∷ xs) =
    let rest = sum_mapped g h xs in
    omega (arith, rest, sum_by-cons h (g x) (map g xs), sum_by-cons (λ (y : X). h (g y)) x xs)

pub sum_map : {X Y : Type 0} (g : X → Y) (h : Y → ℕ) (xs : List X) → sum_by h (map g xs) ≡ sum_by (λ x. h (g x)) xs
sum_map = sum_mapped

pub sum_product : {A B : Type 0} (h : A × B → ℕ) (us : List A) (vs : List B) → sum_by h (product us vs) ≡ sum_by (λ a. sum_by (λ b. h (a, b)) vs) us
unfolding product
sum_product h [] vs = refl
sum_product {A} {B} h (a ∷ us) vs =
    let rest = sum_product h us vs in
    let both = sum_by-append h (map (λ (b : B). (a, b)) vs) (product us vs) in
    let here = sum_mapped (λ (b : B). (a, b)) h vs in
    omega (arith, rest, both, here, sum_by-cons (λ (c : A). sum_by (λ b. h (c, b)) vs) a us)

-- ---- what is not 0 has something

pub record HasOne {X : Type 0} (xs : List X) : Type 0 where
  pub item : X
  pub member : Member item xs

pub some_there : {X : Type 0} (f : X → ℕ) (xs : List X) → 0 < sum_by f xs → HasOne xs
some_there f [] l = absurd (omega (arith, l))
some_there f (x ∷ xs) l = record { item = x; member = inl refl }

-- ---- sums that are alike

pub sum_same : {X : Type 0} (f g : X → ℕ) (xs : List X) → ((x : X) → f x ≡ g x) → sum_by f xs ≡ sum_by g xs
sum_same f g [] same = refl
sum_same f g (x ∷ xs) same =
    let rest = sum_same f g xs same in
    let here = same x in
    omega (arith, rest, here, sum_by-cons f x xs, sum_by-cons g x xs)

pub sum_none : {X : Type 0} (xs : List X) → sum_by (λ (x : X). 0) xs ≡ 0
sum_none [] = refl
sum_none {X} (x ∷ xs) = let rest = sum_none xs in omega (arith, rest, sum_by-cons (λ (y : X). 0) x xs)
