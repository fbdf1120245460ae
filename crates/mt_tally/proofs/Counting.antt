-- How many things of a kind there are, and more than how many.
use Rattle.std.proofs.Common.{◌≡◌, ℕ, ◌+◌, ◌<◌, ◌≤◌, ◌⊎◌, inl, inr, List, [], ◌∷◌, ◌++◌, length, length-append, map, refl, sym, ◌∙◌, ap, subst, arith}
use Rattle.std.specs.Cmp.{IsTotalOrder}
use Rattle.std.specs.declared.cmp.Ordering.{Ordering}
use Rattle.std.proofs.lemmas.List.{length-map}
use Rattle.mt_match_spec.specs.Rows.{ListsAll}
use Rattle.mt_tally.specs.Counts.{Differ, CountsBelow, HasCount, HasMore, IsAmong}
use Rattle.mt_tally.proofs.Among.{to_among, from_among}
use Rattle.mt_tally.proofs.Listed.{marked, marked_differ, only_marked, each_marked, so_many}
use Rattle.mt_tally.proofs.Pairing.{differ, no_longer}

-- ## Lists

pub in_first : {X : Type 0} (x : X) (xs ys : List X) → IsAmong x xs → IsAmong x (xs ++ ys)
in_first x [] ys m = absurd m
in_first x (z ∷ xs) ys (inl e) = inl e
in_first x (z ∷ xs) ys (inr m) = inr (in_first x xs ys m)

pub in_second : {X : Type 0} (x : X) (xs ys : List X) → IsAmong x ys → IsAmong x (xs ++ ys)
in_second x [] ys m = m
in_second x (z ∷ xs) ys m = inr (in_second x xs ys m)

pub in_either : {X : Type 0} (x : X) (xs ys : List X) → IsAmong x (xs ++ ys) → IsAmong x xs ⊎ IsAmong x ys
in_either x [] ys m = inr m
in_either x (z ∷ xs) ys (inl e) = inl (inl e)
in_either x (z ∷ xs) ys (inr m) = elim (in_either x xs ys m) [ inl a ↦ inl (inr a) | inr b ↦ inr b ]

differ_append : {X : Type 0} (xs ys : List X) → Differ xs → Differ ys → ((x : X) → IsAmong x xs → IsAmong x ys → ⊥) → Differ (xs ++ ys)
differ_append [] ys d e apart = e
differ_append (x ∷ xs) ys d e apart = (
  λ z m same. elim (in_either z xs ys m) [ inl a ↦ d.0 z a same | inr b ↦ apart x (inl refl) (subst (λ w. IsAmong w ys) same b) ],
  differ_append xs ys d.1 e (λ z m n. apart z (inr m) n),
)

pub in_map : {X Y : Type 0} (f : X → Y) (xs : List X) (x : X) → IsAmong x xs → IsAmong (f x) (map f xs)
in_map f [] x m = absurd m
in_map f (z ∷ xs) x (inl e) = inl (ap f e)
in_map f (z ∷ xs) x (inr m) = inr (in_map f xs x m)

-- a thing that another one of a kind is taken to
pub record IsImage {X Y : Type 0} (f : X → Y) (P : X → Type 0) (y : Y) : Type 0 where
  pub of : X
  pub is : P of
  pub same : y ≡ f of

pub of_map : {X Y : Type 0} (f : X → Y) (xs : List X) (y : Y) → IsAmong y (map f xs) → IsImage f (λ x. IsAmong x xs) y
of_map f [] y m = absurd m
of_map f (z ∷ xs) y (inl e) = record { of = z; is = inl refl; same = e }
of_map f (z ∷ xs) y (inr m) = let r = of_map f xs y m in record { of = r.of; is = inr r.is; same = r.same }

differ_map : {X Y : Type 0} (f : X → Y) (xs : List X) → Differ xs → ((x z : X) → IsAmong x xs → IsAmong z xs → f x ≡ f z → x ≡ z) → Differ (map f xs)
differ_map f [] d one = tt
differ_map f (x ∷ xs) d one = (
  λ y m same. let r = of_map f xs y m in d.0 r.of r.is (one r.of x (inr r.is) (inl refl) (sym r.same ∙ same)),
  differ_map f xs d.1 (λ z w m n. one z w (inr m) (inr n)),
)

-- ## Counts

pub none_of : {X : Type 0} (P : X → Type 0) → ((x : X) → P x → ⊥) → HasCount P 0
none_of P never = record { all = []; once = tt; only = λ x m. absurd m; each = λ x p. absurd (never x p); counted = refl }

pub alike : {X : Type 0} (P Q : X → Type 0) (count : ℕ) → ((x : X) → P x → Q x) → ((x : X) → Q x → P x) → HasCount P count → HasCount Q count
alike P Q count to from c = record { all = c.all; once = c.once; only = λ x m. to x (c.only x m); each = λ x q. c.each x (from x q); counted = c.counted }

pub either : {X : Type 0} (P Q : X → Type 0) (count more : ℕ) → ((x : X) → P x → Q x → ⊥) → HasCount P count → HasCount Q more → HasCount (λ x. P x ⊎ Q x) (count + more)
either P Q count more apart c d = record {
  all = c.all ++ d.all;
  once = differ_append c.all d.all c.once d.once (λ x m n. apart x (c.only x m) (d.only x n));
  only = λ x m. elim (in_either x c.all d.all m) [ inl a ↦ inl (c.only x a) | inr b ↦ inr (d.only x b) ];
  each = λ x h. elim h [ inl p ↦ in_first x c.all d.all (c.each x p) | inr q ↦ in_second x c.all d.all (d.each x q) ];
  counted = let long = length-append c.all d.all in let a = c.counted in let b = d.counted in omega (arith, long, a, b);
}

pub image : {X Y : Type 0} (f : X → Y) (P : X → Type 0) (count : ℕ) → ((x z : X) → P x → P z → f x ≡ f z → x ≡ z) → HasCount P count → HasCount (IsImage f P) count
image f P count one c = record {
  all = map f c.all;
  once = differ_map f c.all c.once (λ x z m n. one x z (c.only x m) (c.only z n));
  only = λ y m. let r = of_map f c.all y m in record { of = r.of; is = c.only r.of r.is; same = r.same };
  each = λ y r. subst (λ w. IsAmong w (map f c.all)) (sym r.same) (in_map f c.all r.of (c.each r.of r.is));
  counted = let same = length-map c.all f in let is = c.counted in omega (arith, same, is);
}

-- the numbers below a limit that have a property
pub numbers : (limit : ℕ) (P : ℕ → Type 0) (count : ℕ) → CountsBelow limit P count → HasCount (λ k. (k < limit) × P k) count
numbers limit P count c = record {
  all = marked c.marks 0 limit;
  once = marked_differ c.marks 0 limit;
  only = λ k m. let is = only_marked c.marks 0 limit k m in let high = is.high in let low : k < limit = omega (arith, high) in (low, (c.tell k low).0 is.mark);
  each = λ k h. let low = h.0 in each_marked c.marks 0 limit k (record { low = omega arith; high = omega (arith, low); mark = (c.tell k low).1 h.1 });
  counted = let many = so_many c.marks 0 limit in let is = c.counted in omega (arith, many, is);
}

-- an ascending list of all of a kind
pub listed : {X : Type 0} (order : X → X → Ordering) (P : X → Type 0) (all : List X) → IsTotalOrder order → ListsAll order P all → HasCount P (length all)
listed order P all total a = record {
  all = all;
  once = differ order total all a.ascending;
  only = λ x m. a.only x (from_among all x m);
  each = λ x p. to_among all x (a.each x p);
  counted = refl;
}

-- ## Fewer and more

-- a thing goes with one of another kind
pub record Goes {X Y : Type 0} (R : X → Y → Type 0) (Q : Y → Type 0) (x : X) : Type 0 where
  pub other : Y
  pub is : Q other
  pub goes : R x other

-- where each goes with one of another kind, and no two with the same, there are no more of them
pub no_more : {X Y : Type 0} (R : X → Y → Type 0) (P : X → Type 0) (Q : Y → Type 0) (count most : ℕ) → HasCount P count → HasCount Q most → ((x : X) → P x → Goes R Q x) → ((x z : X) (y : Y) → R x y → R z y → x ≡ z) → count ≤ most
no_more R P Q count most c d pair one =
    let up = no_longer R c.all d.all c.once (λ x m. let p = pair x (c.only x m) in record { other = p.other; member = d.each p.other p.is; goes = p.goes }) one in
    let a = c.counted in
    let b = d.counted in
    omega (arith, up, a, b)

pub same_count : {X : Type 0} (P : X → Type 0) (count other : ℕ) → HasCount P count → HasCount P other → count ≡ other
same_count {X} P count other c d =
    let up = no_more (λ (x y : X). x ≡ y) P P count other c d (λ x p. record { other = x; is = p; goes = refl }) (λ x z y e f. e ∙ sym f) in
    let down = no_more (λ (x y : X). x ≡ y) P P other count d c (λ x p. record { other = x; is = p; goes = refl }) (λ x z y e f. e ∙ sym f) in
    omega (arith, up, down)

pub more_than : {X : Type 0} (P Q : X → Type 0) (count room : ℕ) → ((x : X) → P x → Q x) → room < count → HasCount P count → HasMore Q room
more_than P Q count room to l c = record { some = c.all; once = c.once; only = λ x m. to x (c.only x m); more = let is = c.counted in omega (arith, is, l) }

-- so many of one kind, and more of another kind than is left of a room
pub more_of_both : {X : Type 0} (P Q R : X → Type 0) (count left room : ℕ) → ((x : X) → P x → R x) → ((x : X) → Q x → R x) → ((x : X) → P x → Q x → ⊥) → count + left ≡ room → HasCount P count → HasMore Q left → HasMore R room
more_of_both P Q R count left room to from apart sum c d = record {
  some = c.all ++ d.some;
  once = differ_append c.all d.some c.once d.once (λ x m n. apart x (c.only x m) (d.only x n));
  only = λ x m. elim (in_either x c.all d.some m) [ inl a ↦ to x (c.only x a) | inr b ↦ from x (d.only x b) ];
  more = let long = length-append c.all d.some in let a = c.counted in let b = d.more in omega (arith, long, a, b, sum);
}

pub at_least : {X : Type 0} (P : X → Type 0) (room count : ℕ) → HasMore P room → HasCount P count → room < count
at_least {X} P room count h c =
    let up = no_longer (λ (x y : X). x ≡ y) h.some c.all h.once (λ x m. record { other = x; member = c.each x (h.only x m); goes = refl }) (λ x z y e f. e ∙ sym f) in
    let a = h.more in
    let b = c.counted in
    omega (arith, up, a, b)
