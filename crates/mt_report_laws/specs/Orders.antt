-- The orders of frequencies and of collocates are total.
use Rattle.std.specs.Prelude.{◌≡◌, ℕ, ◌+◌, ◌-◌, ◌*◌, ◌<◌, ◌≤◌, ◌⊎◌, List}
use Rattle.std.specs.declared.cmp.Ordering.{Ordering}
use Rattle.std.specs.declared.cmp.Ordering.TheVariants.{Less, Equal, Greater}
use Rattle.std.specs.Ordering.{nat_cmp, ordering_then, ordering_reverse, MatchOrdering, is_eq}
use Rattle.std.specs.Cmp.{IsTotalOrder, nat_cmp_is, ranks, nat_cmp_total, then_total, on_total, back_total}
use Rattle.std.specs.Cmp.Lexicographic.{slice_cmp, nat_list_cmp_total, texts_ties, bytes_decides}
use Rattle.std.proofs.Common.{sym, ◌∙◌, ap, ap₂, arith, inl, inr}
use Rattle.std.proofs.lemmas.Bool.{cases_lt}
use Rattle.std.proofs.lemmas.Grind.{common_steps}
use Rattle.std.proofs.Math.Nat.{mul-le-mul_right, mul-lt-mul_of_pos_right}
use Rattle.mt_report_spec.specs.Counts.{Collocate, Frequency, collocate_cmp, frequency_cmp}

-- ## What neither order tells apart has the same value

equal_then : (first second : Ordering) → ordering_then first second ≡ Equal → second ≡ Equal
equal_then Less second e = cc
equal_then Equal second e = e
equal_then Greater second e = cc

same_bytes : (value other : List ℕ) → slice_cmp nat_cmp value other ≡ Equal → value ≡ other
same_bytes value other e = (bytes_decides value other).0 (texts_ties value other ∙ ap is_eq e)

-- ## Frequencies

pub frequency_total : IsTotalOrder frequency_cmp
frequency_total = then_total (on_total (λ (one : Frequency). one.spans) (back_total nat_cmp_total)) (on_total (λ (one : Frequency). one.value) nat_list_cmp_total)

pub same_frequency : (one other : Frequency) → frequency_cmp one other ≡ Equal → one.value ≡ other.value
same_frequency one other e = same_bytes one.value other.value (equal_then (nat_cmp other.spans one.spans) _ e)

-- ## Fractions

-- A value, and the fraction that it is ranked by. The denominator is written less one, so that none is 0.
pub record Ranked : Type 0 where
  pub value : List ℕ
  pub numerator : ℕ
  pub less_one : ℕ

-- the denominator of the fraction
abbrev pub denominator : Ranked → ℕ
denominator one = one.less_one + 1

-- the greater fraction first
abbrev pub fraction_cmp : Ranked → Ranked → Ordering
fraction_cmp one other = nat_cmp (other.numerator * denominator one) (one.numerator * denominator other)

-- the greatest fraction first, and values of one fraction by their bytes
abbrev pub rank_cmp : Ranked → Ranked → Ordering
rank_cmp one other = ordering_then (fraction_cmp one other) (slice_cmp nat_cmp one.value other.value)

each_rank : (o : Ordering) {P Q R X Y Z : Type 0} → (P → X) → (Q → Y) → (R → Z) → MatchOrdering o P Q R → MatchOrdering o X Y Z
each_rank Less f g h p = f p
each_rank Equal f g h p = g p
each_rank Greater f g h p = h p

-- both sides times the same
scaled : (m n k : ℕ) → nat_cmp m n ≡ nat_cmp (m * (k + 1)) (n * (k + 1))
scaled m n k = nat_cmp_is (m * (k + 1)) (n * (k + 1)) (nat_cmp m n)
    (each_rank (nat_cmp m n) (λ h. mul-lt-mul_of_pos_right h (omega arith)) (λ e. ap (λ x. x * (k + 1)) e) (λ h. mul-lt-mul_of_pos_right h (omega arith)) (ranks m n))

less_lt : (a b : ℕ) → nat_cmp a b ≡ Less → a < b
less_lt a b h = grind (arith, common_steps)

lt_less : (a b : ℕ) → a < b → nat_cmp a b ≡ Less
lt_less a b h = grind (arith, common_steps)

equal_eq : (a b : ℕ) → nat_cmp a b ≡ Equal → a ≡ b
equal_eq a b h = grind (arith, common_steps)

-- p/q > r/s and r/s > t/u give p/q > t/u, with the denominators less one
chained : (p q r s t u : ℕ) → r * (q + 1) < p * (s + 1) → t * (s + 1) < r * (u + 1) → t * (q + 1) < p * (u + 1)
chained p q r s t u h g = by (cases_lt (t * (q + 1)) (p * (u + 1)))
  where
    by : (t * (q + 1) < p * (u + 1)) ⊎ (p * (u + 1) ≤ t * (q + 1)) → t * (q + 1) < p * (u + 1)
    by (inl l) = l
    by (inr l) =
        let one : p * (u + 1) * (s + 1) ≤ t * (q + 1) * (s + 1) = mul-le-mul_right (s + 1) l in
        let two : r * (q + 1) * (u + 1) < p * (s + 1) * (u + 1) = mul-lt-mul_of_pos_right h (omega arith) in
        let three : t * (s + 1) * (q + 1) < r * (u + 1) * (q + 1) = mul-lt-mul_of_pos_right g (omega arith) in
        absurd (omega (arith, one, two, three))

-- where p/q = r/s, both compare alike to t/u
alike : (p q r s t u : ℕ) → r * (q + 1) ≡ p * (s + 1) → nat_cmp (t * (q + 1)) (p * (u + 1)) ≡ nat_cmp (t * (s + 1)) (r * (u + 1))
alike p q r s t u e =
    let left : t * (q + 1) * (s + 1) ≡ t * (s + 1) * (q + 1) = omega arith in
    let right : p * (u + 1) * (s + 1) ≡ r * (u + 1) * (q + 1) = omega (arith, ap (λ x. x * (u + 1)) e) in
    scaled (t * (q + 1)) (p * (u + 1)) s ∙ ap₂ nat_cmp left right ∙ sym (scaled (t * (s + 1)) (r * (u + 1)) q)

fraction_total : IsTotalOrder fraction_cmp
fraction_total =
    let o : IsTotalOrder nat_cmp = nat_cmp_total in
    record {
      antisymm = λ x y. o.antisymm (y.numerator * denominator x) (x.numerator * denominator y);
      trans = λ x y z h g. lt_less (z.numerator * denominator x) (x.numerator * denominator z) (chained x.numerator x.less_one y.numerator y.less_one z.numerator z.less_one
          (less_lt (y.numerator * denominator x) (x.numerator * denominator y) h) (less_lt (z.numerator * denominator y) (y.numerator * denominator z) g));
      congr = λ x y z e. alike x.numerator x.less_one y.numerator y.less_one z.numerator z.less_one (equal_eq (y.numerator * denominator x) (x.numerator * denominator y) e);
    }

pub rank_total : IsTotalOrder rank_cmp
rank_total = then_total fraction_total (on_total (λ (one : Ranked). one.value) nat_list_cmp_total)

-- ## Collocates

-- what a collocate of so many spans is ranked by
abbrev pub ranked : (spans : ℕ) → Collocate → Ranked
ranked spans one = record { value = one.value; numerator = one.both; less_one = spans + one.tokens - 1 }

-- collocates of a span at least are in the order of their ranks
pub ranks_alike : (spans : ℕ) (one other : Collocate) → 0 < spans → rank_cmp (ranked spans one) (ranked spans other) ≡ collocate_cmp spans one other
ranks_alike spans one other some =
    let left : spans + one.tokens - 1 + 1 ≡ spans + one.tokens = omega arith in
    let right : spans + other.tokens - 1 + 1 ≡ spans + other.tokens = omega arith in
    ap₂ (λ (m n : ℕ). ordering_then (nat_cmp (other.both * m) (one.both * n)) (slice_cmp nat_cmp one.value other.value)) left right

pub collocate_total : (spans : ℕ) → 0 < spans → IsTotalOrder (collocate_cmp spans)
collocate_total spans some =
    let o : IsTotalOrder rank_cmp = rank_total in
    let same : (one other : Collocate) → rank_cmp (ranked spans one) (ranked spans other) ≡ collocate_cmp spans one other = λ one other. ranks_alike spans one other some in
    record {
      antisymm = λ x y. sym (same x y) ∙ o.antisymm (ranked spans x) (ranked spans y) ∙ ap ordering_reverse (same y x);
      trans = λ x y z h g. sym (same x z) ∙ o.trans (ranked spans x) (ranked spans y) (ranked spans z) (same x y ∙ h) (same y z ∙ g);
      congr = λ x y z e. sym (same x z) ∙ o.congr (ranked spans x) (ranked spans y) (ranked spans z) (same x y ∙ e) ∙ same y z;
    }

pub same_collocate : (spans : ℕ) (one other : Collocate) → collocate_cmp spans one other ≡ Equal → one.value ≡ other.value
same_collocate spans one other e = same_bytes one.value other.value (equal_then (nat_cmp (other.both * (spans + one.tokens)) (one.both * (spans + other.tokens))) _ e)
