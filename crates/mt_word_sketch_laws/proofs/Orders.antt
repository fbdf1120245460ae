-- Orders of relations, of contexts and of ranks are total.
use Rattle.std.proofs.Common.{◌≡◌, ℕ, ◌+◌, ◌-◌, ◌<◌, Bool, true, false, List, refl, ◌∙◌, ap, subst, arith}
use Rattle.std.specs.declared.cmp.Ordering.{Ordering}
use Rattle.std.specs.declared.cmp.Ordering.TheVariants.{Less, Equal, Greater}
use Rattle.std.specs.Ordering.{nat_cmp, bool_cmp, ordering_then, on, then_cmp, is_eq}
use Rattle.std.specs.Cmp.{IsTotalOrder, then_total, on_total, bool_cmp_total}
use Rattle.std.specs.Cmp.Lexicographic.{slice_cmp, nat_list_cmp_total, texts_ties, bytes_decides}
use Rattle.mt_word_sketch_spec.specs.Ranks.{Ranked, rank_cmp}
use Rattle.mt_word_sketch_spec.specs.Order.{Weighed, weighed_cmp, weighed_total, ranked_of, same_word}
use Rattle.mt_word_sketch_spec.specs.Sketches.{Heading, heading_cmp}
use Rattle.mt_word_sketch_spec.specs.Thesaurus.{Context}

record BothEqual (first second : Ordering) : Type 0 where
  pub first_is : first ≡ Equal
  pub second_is : second ≡ Equal

both : (first second : Ordering) → ordering_then first second ≡ Equal → BothEqual first second
both Less second e = cc
both Equal second e = record { first_is = cc; second_is = e }
both Greater second e = cc

same_bytes : (a b : List ℕ) → slice_cmp nat_cmp a b ≡ Equal → a ≡ b
same_bytes a b e = (bytes_decides a b).0 (texts_ties a b ∙ ap is_eq e)

same_bool : (a b : Bool) → bool_cmp a b ≡ Equal → a ≡ b
same_bool true true e = refl
same_bool true false e = cc
same_bool false true e = cc
same_bool false false e = refl

pub heading_total : IsTotalOrder heading_cmp
heading_total = then_total (on_total (λ (h : Heading). h.name) nat_list_cmp_total) (on_total (λ (h : Heading). h.unary) bool_cmp_total)

pub same_heading : (a b : Heading) → heading_cmp a b ≡ Equal → a ≡ b
same_heading a b e =
    let parts = both (slice_cmp nat_cmp a.name b.name) (bool_cmp a.unary b.unary) e in
    λ i. record { name = same_bytes a.name b.name parts.first_is i; unary = same_bool a.unary b.unary parts.second_is i }

abbrev pub context_cmp : Context → Context → Ordering
context_cmp = then_cmp (on (λ (c : Context). c.name) (slice_cmp nat_cmp)) (on (λ (c : Context). c.second) (slice_cmp nat_cmp))

pub context_total : IsTotalOrder context_cmp
context_total = then_total (on_total (λ (c : Context). c.name) nat_list_cmp_total) (on_total (λ (c : Context). c.second) nat_list_cmp_total)

pub same_context : (a b : Context) → context_cmp a b ≡ Equal → a ≡ b
same_context a b e =
    let parts = both (slice_cmp nat_cmp a.name b.name) (slice_cmp nat_cmp a.second b.second) e in
    λ i. record { name = same_bytes a.name b.name parts.first_is i; second = same_bytes a.second b.second parts.second_is i }

-- ---- ranks whose wholes are not 0

pub weigh : Ranked → Weighed
weigh r = record { word = r.word; part = r.part; less_one = r.whole - 1 }

pub weigh-word : (r : Ranked) → (weigh r).word ≡ r.word
unfolding weigh
weigh-word r = refl

-- such a one weighs what it was
weighed : (r : Ranked) → 0 < r.whole → ranked_of (weigh r) ≡ r
unfolding weigh
weighed r some = let e : r.whole - 1 + 1 ≡ r.whole = omega (arith, some) in λ i. record { word = r.word; part = r.part; whole = e i }

pub by_weight : (a b : Ranked) → 0 < a.whole → 0 < b.whole → weighed_cmp (weigh a) (weigh b) ≡ rank_cmp a b
by_weight a b p q = λ i. rank_cmp (weighed a p i) (weighed b q i)

pub by_weight_total : {X : Type 0} (rank : X → Ranked) → IsTotalOrder (λ x y. weighed_cmp (weigh (rank x)) (weigh (rank y)))
by_weight_total rank = on_total (λ x. weigh (rank x)) weighed_total

pub ranks_total : {X : Type 0} (rank : X → Ranked) → ((x : X) → 0 < (rank x).whole) → IsTotalOrder (λ x y. rank_cmp (rank x) (rank y))
ranks_total {X} rank some = subst (λ (order : X → X → Ordering). IsTotalOrder order) (λ i x y. by_weight (rank x) (rank y) (some x) (some y) i) (by_weight_total rank)

pub same_weight : (a b : Ranked) → weighed_cmp (weigh a) (weigh b) ≡ Equal → a.word ≡ b.word
unfolding weigh
same_weight a b e = same_word (ranked_of (weigh a)) (ranked_of (weigh b)) e
