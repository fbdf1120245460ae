-- The order of ranks is total, where no whole is 0.
use Rattle.std.proofs.Common.{◌≡◌, ℕ, ◌+◌, ◌*◌, ◌<◌, ◌≤◌, List, sym, ◌∙◌, ap, ap₂, arith, ◌⊎◌, inl, inr}
use Rattle.std.specs.declared.cmp.Ordering.{Ordering}
use Rattle.std.specs.declared.cmp.Ordering.TheVariants.{Less, Equal, Greater}
use Rattle.std.specs.Ordering.{nat_cmp, ordering_then, MatchOrdering, is_eq}
use Rattle.std.specs.Cmp.{IsTotalOrder, nat_cmp_is, ranks, nat_cmp_total, then_total, on_total}
use Rattle.std.specs.Cmp.Lexicographic.{slice_cmp, nat_list_cmp_total, texts_ties, bytes_decides}
use Rattle.std.proofs.lemmas.Bool.{cases_lt}
use Rattle.std.proofs.lemmas.Grind.{common_steps}
use Rattle.std.proofs.Math.Nat.{mul-le-mul_right, mul-lt-mul_of_pos_right}
use Rattle.mt_word_sketch_spec.specs.Ranks.{Ranked, rank_cmp}

-- A rank whose whole is written less one, so that none is 0.
pub record Weighed : Type 0 where
  pub word : List ℕ
  pub part : ℕ
  pub less_one : ℕ

-- the rank that this is
abbrev pub ranked_of : Weighed → Ranked
ranked_of w = record { word = w.word; part = w.part; whole = w.less_one + 1 }

-- the order of the ranks
abbrev pub weighed_cmp : Weighed → Weighed → Ordering
weighed_cmp a b = rank_cmp (ranked_of a) (ranked_of b)

each_rank : (o : Ordering) {P Q R X Y Z : Type 0} → (P → X) → (Q → Y) → (R → Z) → MatchOrdering o P Q R → MatchOrdering o X Y Z
each_rank Less f g h p = f p
each_rank Equal f g h p = g p
each_rank Greater f g h p = h p

-- both sides times the same
scaled : (m n k : ℕ) → nat_cmp m n ≡ nat_cmp (m * (k + 1)) (n * (k + 1))
scaled m n k = nat_cmp_is (m * (k + 1)) (n * (k + 1)) (nat_cmp m n)
    (each_rank (nat_cmp m n) (λ h. mul-lt-mul_of_pos_right h (omega arith)) (λ e. ap (λ x. x * (k + 1)) e) (λ h. mul-lt-mul_of_pos_right h (omega arith)) (ranks m n))

less_lt : (a b : ℕ) → nat_cmp a b ≡ Less → a < b
less_lt a b h = grind (arith, common_steps)

lt_less : (a b : ℕ) → a < b → nat_cmp a b ≡ Less
lt_less a b h = grind (arith, common_steps)

equal_eq : (a b : ℕ) → nat_cmp a b ≡ Equal → a ≡ b
equal_eq a b h = grind (arith, common_steps)

-- the fractions, the greater first
abbrev by_fraction : Weighed → Weighed → Ordering
by_fraction a b = nat_cmp (b.part * (a.less_one + 1)) (a.part * (b.less_one + 1))

-- p/q > r/s and r/s > t/u give p/q > t/u, with the wholes less one
chained : (p q r s t u : ℕ) → r * (q + 1) < p * (s + 1) → t * (s + 1) < r * (u + 1) → t * (q + 1) < p * (u + 1)
chained p q r s t u h g = by (cases_lt (t * (q + 1)) (p * (u + 1)))
  where
    by : (t * (q + 1) < p * (u + 1)) ⊎ (p * (u + 1) ≤ t * (q + 1)) → t * (q + 1) < p * (u + 1)
    by (inl l) = l
    by (inr l) =
        let one : p * (u + 1) * (s + 1) ≤ t * (q + 1) * (s + 1) = mul-le-mul_right (s + 1) l in
        let two : r * (q + 1) * (u + 1) < p * (s + 1) * (u + 1) = mul-lt-mul_of_pos_right h (omega arith) in
        let three : t * (s + 1) * (q + 1) < r * (u + 1) * (q + 1) = mul-lt-mul_of_pos_right g (omega arith) in
        absurd (omega (arith, one, two, three))

-- where p/q = r/s, both compare alike to t/u
alike : (p q r s t u : ℕ) → r * (q + 1) ≡ p * (s + 1) → nat_cmp (t * (q + 1)) (p * (u + 1)) ≡ nat_cmp (t * (s + 1)) (r * (u + 1))
alike p q r s t u e =
    let left : t * (q + 1) * (s + 1) ≡ t * (s + 1) * (q + 1) = omega arith in
    let right : p * (u + 1) * (s + 1) ≡ r * (u + 1) * (q + 1) = omega (arith, ap (λ x. x * (u + 1)) e) in
    scaled (t * (q + 1)) (p * (u + 1)) s ∙ ap₂ nat_cmp left right ∙ sym (scaled (t * (s + 1)) (r * (u + 1)) q)

fraction_total : IsTotalOrder by_fraction
fraction_total =
    let o : IsTotalOrder nat_cmp = nat_cmp_total in
    record {
      antisymm = λ x y. o.antisymm (y.part * (x.less_one + 1)) (x.part * (y.less_one + 1));
      trans = λ x y z h g. lt_less (z.part * (x.less_one + 1)) (x.part * (z.less_one + 1)) (chained x.part x.less_one y.part y.less_one z.part z.less_one
          (less_lt (y.part * (x.less_one + 1)) (x.part * (y.less_one + 1)) h) (less_lt (z.part * (y.less_one + 1)) (y.part * (z.less_one + 1)) g));
      congr = λ x y z e. alike x.part x.less_one y.part y.less_one z.part z.less_one (equal_eq (y.part * (x.less_one + 1)) (x.part * (y.less_one + 1)) e);
    }

pub weighed_total : IsTotalOrder weighed_cmp
weighed_total = then_total fraction_total (on_total (λ (w : Weighed). w.word) nat_list_cmp_total)

second_equal : (o p : Ordering) → ordering_then o p ≡ Equal → p ≡ Equal
second_equal Less p e = cc
second_equal Equal p e = e
second_equal Greater p e = cc

-- what ranks alike has the same word
pub same_word : (a b : Ranked) → rank_cmp a b ≡ Equal → a.word ≡ b.word
same_word a b e = (bytes_decides a.word b.word).0 (texts_ties a.word b.word ∙ ap is_eq (second_equal (nat_cmp (b.part * a.whole) (a.part * b.whole)) (slice_cmp nat_cmp a.word b.word) e))
