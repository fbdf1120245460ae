-- What is kept by its nodes: few are kept whole, and what is dropped from a part would be dropped from the greater part too.
use Rattle.std.proofs.Common.{ℕ, ◌≡◌, ◌<◌, ◌≤◌, ◌⊎◌, inl, inr, Bool, true, false, refl, ◌∙◌, ap, arith}
use Rattle.std.specs.Prelude.{cond, nat_lt, ◌||◌, None, Some, Option, Ok}
use Rattle.std.proofs.lemmas.Bool.{cases_lt}
use Rattle.std.proofs.lemmas.Bool.Decides.{nat_tests}
use Rattle.mt_text_spec.specs.Queries.{Query}
use Rattle.mt_query_spec.specs.Verdicts.{Cause, judged}
use Rattle.mt_query_laws.specs.Parts.{kept, great}

-- what has few nodes is kept
pub kept_whole : {X : Type 0} (n : ℕ) (small x : X) → n ≤ 256 → kept n small x ≡ x
unfolding kept
kept_whole n small x h = let e : nat_lt 256 n ≡ false = grind (arith, nat_tests) in rw e refl

-- what has many is not
kept_small : {X : Type 0} (n : ℕ) (small x : X) → 256 < n → kept n small x ≡ small
unfolding kept
kept_small n small x h = let e : nat_lt 256 n ≡ true = grind (arith, nat_tests) in rw e refl

kept_alike : {X : Type 0} (n : ℕ) (small x y : X) → 256 < n → kept n small x ≡ kept n small y
kept_alike n small x y h = rw (kept_small n small x h, kept_small n small y h) refl

pub kept_either : {X : Type 0} (n : ℕ) (x : X) → kept n x x ≡ x
unfolding kept
kept_either n x = go (nat_lt 256 n)
  where
    go : (b : Bool) → cond b x x ≡ x
    go true = refl
    go false = refl

-- what is kept of a part's tree makes no difference to the greater part
pub kept_in : {X Y : Type 0} (f : X → Y) (small : Y) (least x : X) (n m : ℕ) → n ≤ m → kept m small (f (kept n least x)) ≡ kept m small (f x)
kept_in f small least x n m h = go (cases_lt 256 m)
  where
    go : (256 < m) ⊎ (m ≤ 256) → kept m small (f (kept n least x)) ≡ kept m small (f x)
    go (inl many) = kept_alike m small (f (kept n least x)) (f x) many
    go (inr few) = ap (λ y. kept m small (f y)) (kept_whole n least x (omega arith))

pub kept_two : {X Y Z : Type 0} (f : X → Y → Z) (small : Z) (least x : X) (other y : Y) (n k m : ℕ) → n ≤ m → k ≤ m
    → kept m small (f (kept n least x) (kept k other y)) ≡ kept m small (f x y)
kept_two f small least x other y n k m h i = go (cases_lt 256 m)
  where
    go : (256 < m) ⊎ (m ≤ 256) → kept m small (f (kept n least x) (kept k other y)) ≡ kept m small (f x y)
    go (inl many) = kept_alike m small (f (kept n least x) (kept k other y)) (f x y) many
    go (inr few) = ap (λ v. kept m small (f v (kept k other y))) (kept_whole n least x (omega arith)) ∙ ap (λ v. kept m small (f x v)) (kept_whole k other y (omega arith))

-- a query that is not too great has few nodes
pub few_nodes : (a b : ℕ) → great a b ≡ false → a ≤ 256
few_nodes a b h = go (nat_lt 256 a) refl h
  where
    go : (p : Bool) → nat_lt 256 a ≡ p → (p || nat_lt 4096 b) ≡ false → a ≤ 256
    go true e h = cc
    go false e h = grind (arith, nat_tests)

-- what is said of a query that is refused does not hang on its tree
pub judged_alike : (fault : Option (ℕ × Cause)) (unknown : Option ℕ) (g : Bool) (query other : Query) → (g ≡ false → query ≡ other)
    → judged fault unknown g query ≡ judged fault unknown g other
judged_alike (Some fault) unknown g query other h = refl
judged_alike None (Some at) g query other h = refl
judged_alike None None true query other h = refl
judged_alike None None false query other h = ap Ok (h refl)
