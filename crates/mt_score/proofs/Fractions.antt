-- Fractions are compared by their whole parts, and then by their rests.
use Rattle.std.proofs.Common.{◌≡◌, ◌≢◌, ℕ, ◌+◌, ◌*◌, ◌/◌, ◌%◌, ◌<◌, ◌≤◌, ◌⊎◌, ⊎_elim, sym, ◌∙◌, ap, arith}
use Rattle.std.specs.declared.cmp.Ordering.{Ordering}
use Rattle.std.specs.declared.cmp.Ordering.TheVariants.{Less, Equal, Greater}
use Rattle.std.specs.Ordering.{nat_cmp, MatchOrdering}
use Rattle.std.specs.Cmp.{nat_cmp_is, ranks}
use Rattle.std.proofs.Math.Nat.{mul-le-mul_right, mul-lt-mul_of_pos_right, div-add-mod', lt-div-mul-add, mul_comm}

each_rank : (o : Ordering) {P Q R X Y Z : Type 0} → (P → X) → (Q → Y) → (R → Z) → MatchOrdering o P Q R → MatchOrdering o X Y Z
each_rank Less f g h p = f p
each_rank Equal f g h p = g p
each_rank Greater f g h p = h p

same_rank : (v w x y : ℕ) → (v < w → x < y) → (v ≡ w → x ≡ y) → (w < v → y < x) → nat_cmp v w ≡ nat_cmp x y
same_rank v w x y less equal greater =
    nat_cmp_is x y (nat_cmp v w) (each_rank (nat_cmp v w) less equal greater (ranks v w))

-- the whole part decides where it is less
less_whole : (a b c d : ℕ) → 0 < b → 0 < d → a / b < c / d → a * d < c * b
less_whole a b c d left right h =
    let under : a < a / b * b + b = lt-div-mul-add left in
    let next : (a / b + 1) * b ≤ c / d * b = mul-le-mul_right b (omega arith) in
    let one : a * d < c / d * b * d = mul-lt-mul_of_pos_right (omega (arith, under, next)) right in
    let two : (c / d * d) * b ≤ c * b = mul-le-mul_right b (omega (arith, div-add-mod' c d)) in
    omega (arith, one, two)

pub by_whole : (a b c d : ℕ) → 0 < b → 0 < d → a / b ≢ c / d → nat_cmp (a / b) (c / d) ≡ nat_cmp (a * d) (c * b)
by_whole a b c d left right apart =
    same_rank (a / b) (c / d) (a * d) (c * b) (less_whole a b c d left right) (λ e. absurd (apart e)) (less_whole c d a b right left)

-- equal whole parts leave the rests to decide
pub by_rests : (a b c d : ℕ) → a / b ≡ c / d → nat_cmp (a % b * d) (c % d * b) ≡ nat_cmp (a * d) (c * b)
by_rests a b c d same =
    let left : (a / b * b + a % b) * d ≡ a * d = ap (λ x. x * d) (div-add-mod' a b) in
    let right : (a / b * d + c % d) * b ≡ c * b = ap (λ x. (x * d + c % d) * b) same ∙ ap (λ x. x * b) (div-add-mod' c d) in
    same_rank (a % b * d) (c % d * b) (a * d) (c * b) (λ h. omega (arith, left, right)) (λ h. omega (arith, left, right)) (λ h. omega (arith, left, right))

left_nothing : (m n b d : ℕ) → 0 < b → m ≡ 0 → nat_cmp m n ≡ nat_cmp (m * d) (n * b)
left_nothing m n b d left e =
    let none : m * d ≡ 0 * d = ap (λ x. x * d) e in
    same_rank m n (m * d) (n * b)
    (λ h. let k : 0 * b < n * b = mul-lt-mul_of_pos_right (omega arith) left in omega (arith, none, k))
    (λ h. let k : n * b ≡ 0 * b = ap (λ x. x * b) (sym h ∙ e) in omega (arith, none, k))
    (λ h. absurd (omega arith))

right_nothing : (m n b d : ℕ) → 0 < d → n ≡ 0 → nat_cmp m n ≡ nat_cmp (m * d) (n * b)
right_nothing m n b d right e =
    let none : n * b ≡ 0 * b = ap (λ x. x * b) e in
    same_rank m n (m * d) (n * b)
    (λ h. absurd (omega arith))
    (λ h. let k : m * d ≡ 0 * d = ap (λ x. x * d) (h ∙ e) in omega (arith, none, k))
    (λ h. let k : 0 * d < m * d = mul-lt-mul_of_pos_right (omega arith) right in omega (arith, none, k))

-- where one of the rests is none, they decide as they are
pub by_nothing : (m n b d : ℕ) → 0 < b → 0 < d → (m ≡ 0) ⊎ (n ≡ 0) → nat_cmp m n ≡ nat_cmp (m * d) (n * b)
by_nothing m n b d left right none = ⊎_elim (left_nothing m n b d left) (right_nothing m n b d right) none

-- else their reciprocals do
pub by_reciprocals : (m n b d : ℕ) → nat_cmp (d * m) (b * n) ≡ nat_cmp (m * d) (n * b)
by_reciprocals m n b d = ap (λ x. nat_cmp x (b * n)) (mul_comm d m) ∙ ap (λ x. nat_cmp (m * d) x) (mul_comm b n)
