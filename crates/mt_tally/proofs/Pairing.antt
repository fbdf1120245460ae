-- A list is no longer than another that has an item for each of its own.
use Rattle.std.proofs.Common.{◌≡◌, ◌≢◌, suc, ◌+◌, ◌≤◌, inl, inr, List, [], ◌∷◌, ◌++◌, length, length-append, refl, sym, ◌∙◌, ap, subst, arith}
use Rattle.std.specs.List.{AllByRecursion}
use Rattle.std.specs.List.Sorted.{IsStrictlySortedBy}
use Rattle.std.specs.Cmp.{IsTotalOrder}
use Rattle.std.specs.declared.cmp.Ordering.{Ordering}
use Rattle.std.specs.declared.cmp.Ordering.TheVariants.{Less}
use Rattle.std.proofs.lemmas.Cmp.{tied_itself}
use Rattle.mt_tally.specs.Counts.{Differ, IsAmong}

-- ## Ascending lists are such

above : {X : Type 0} (order : X → X → Ordering) (x z : X) (xs : List X) → AllByRecursion (λ w. order x w ≡ Less) xs → IsAmong z xs → order x z ≡ Less
above order x z [] all m = absurd m
above order x z (y ∷ ys) all (inl e) = subst (λ w. order x w ≡ Less) (sym e) all.0
above order x z (y ∷ ys) all (inr m) = above order x z ys all.1 m

pub not_itself : {X : Type 0} (order : X → X → Ordering) → IsTotalOrder order → (x z : X) → order x z ≡ Less → z ≢ x
not_itself order total x z less same = let tied = tied_itself total x in let again = ap (order x) (sym same) ∙ less in cc

pub differ : {X : Type 0} (order : X → X → Ordering) → IsTotalOrder order → (xs : List X) → IsStrictlySortedBy order xs → Differ xs
unfolding IsStrictlySortedBy
differ order total [] s = tt
differ order total (x ∷ xs) s = (λ z m. not_itself order total x z (above order x z xs s.0 m), differ order total xs s.1)

-- ## Pairs

-- a list, cut at one of its items
record Cut {X : Type 0} (x : X) (ys : List X) : Type 0 where
  pub front : List X
  pub back : List X
  pub are : ys ≡ front ++ x ∷ back

cut : {X : Type 0} (x : X) (ys : List X) → IsAmong x ys → Cut x ys
cut x [] m = absurd m
cut x (y ∷ ys) (inl e) = record { front = []; back = ys; are = ap (λ z. z ∷ ys) (sym e) }
cut x (y ∷ ys) (inr m) = let c = cut x ys m in record { front = y ∷ c.front; back = c.back; are = ap (λ zs. y ∷ zs) c.are }

-- without that item the others are still there
others : {X : Type 0} (x z : X) (front back : List X) → z ≢ x → IsAmong z (front ++ x ∷ back) → IsAmong z (front ++ back)
others x z [] back ne (inl e) = absurd (ne e)
others x z [] back ne (inr m) = m
others x z (y ∷ front) back ne (inl e) = inl e
others x z (y ∷ front) back ne (inr m) = inr (others x z front back ne m)

-- an item that goes with another, among these
pub record Pair {X Y : Type 0} (R : X → Y → Type 0) (x : X) (ys : List Y) : Type 0 where
  pub other : Y
  pub member : IsAmong other ys
  pub goes : R x other

pub no_longer : {X Y : Type 0} (R : X → Y → Type 0) (xs : List X) (ys : List Y) → Differ xs → ((x : X) → IsAmong x xs → Pair R x ys) → ((x z : X) (y : Y) → R x y → R z y → x ≡ z) → length xs ≤ length ys
no_longer R [] ys d pair one = omega arith
no_longer {X} {Y} R (x ∷ xs) ys d pair one =
    let p = pair x (inl refl) in
    let c = cut p.other ys p.member in
    let rest : length xs ≤ length (c.front ++ c.back) = no_longer R xs (c.front ++ c.back) d.1
    (λ z m. let q = pair z (inr m) in record {
      other = q.other;
      member = others p.other q.other c.front c.back (λ same. d.0 z m (one z x p.other (subst (R z) same q.goes) p.goes)) (subst (λ (all : List Y). IsAmong q.other all) c.are q.member);
      goes = q.goes;
    }) one in
    let whole : length ys ≡ length c.front + suc (length c.back) = ap (λ (all : List Y). length all) c.are ∙ length-append c.front (p.other ∷ c.back) in
    let parts : length (c.front ++ c.back) ≡ length c.front + length c.back = length-append c.front c.back in
    omega (arith, rest, whole, parts)
