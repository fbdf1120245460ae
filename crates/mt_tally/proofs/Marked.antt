-- How many numbers are marked, and how many have a property.
use Rattle.std.proofs.Common.{◌≡◌, ℕ, zero, suc, ◌+◌, ◌-◌, ◌<◌, ◌≤◌, ◌⊎◌, inl, inr, Bool, true, false, not, ◌||◌, Decides, refl, sym, ◌∙◌, ap, arith}
use Rattle.std.specs.Prelude.{if◌then◌else◌}
use Rattle.mt_tally.specs.Counts.{marked_from, CountsBelow}

-- ## Marks

-- one, if it is marked
abbrev pub one_if : Bool → ℕ
one_if mark = if mark then 1 else 0

pub no_marks : (marks : ℕ → Bool) (first : ℕ) → marked_from marks first 0 ≡ 0
unfolding marked_from
no_marks marks first = refl

pub one_mark : (marks : ℕ → Bool) (first more : ℕ) → marked_from marks first (suc more) ≡ one_if (marks first) + marked_from marks (first + 1) more
unfolding marked_from
one_mark marks first more = refl

pub at_most_one : (mark : Bool) → one_if mark ≤ 1
at_most_one true = omega arith
at_most_one false = omega arith

-- no more are marked than there are
pub few_marks : (marks : ℕ → Bool) (first many : ℕ) → marked_from marks first many ≤ many
few_marks marks first zero = let none = no_marks marks first in omega (arith, none)
few_marks marks first (suc more) = let one = one_mark marks first more in let rest = few_marks marks (first + 1) more in let here = at_most_one (marks first) in omega (arith, one, rest, here)

-- the marks are the same
pub same_marks : (marks others : ℕ → Bool) (first many : ℕ) → ((number : ℕ) → first ≤ number → number < first + many → marks number ≡ others number) → marked_from marks first many ≡ marked_from others first many
same_marks marks others first zero same = no_marks marks first ∙ sym (no_marks others first)
same_marks marks others first (suc more) same =
    let one = one_mark marks first more in
    let other = one_mark others first more in
    let here = ap one_if (same first (omega arith) (omega arith)) in
    let rest = same_marks marks others (first + 1) more (λ n low high. same n (omega (arith, low)) (omega (arith, high))) in
    omega (arith, one, other, here, rest)

-- some numbers, and then more of them
pub more_marks : (marks : ℕ → Bool) (first many more : ℕ) → marked_from marks first (many + more) ≡ marked_from marks first many + marked_from marks (first + many) more
more_marks marks first zero more =
    let none = no_marks marks first in
    let here : marked_from marks (first + 0) more ≡ marked_from marks first more = ap (λ n. marked_from marks n more) (let e : first + 0 ≡ first = omega arith in e) in
    let all : marked_from marks first (0 + more) ≡ marked_from marks first more = ap (marked_from marks first) (let e : 0 + more ≡ more = omega arith in e) in
    omega (arith, none, here, all)
more_marks marks first (suc many) more =
    let a = one_mark marks first (many + more) in
    let b = one_mark marks first many in
    let c = more_marks marks (first + 1) many more in
    let d : marked_from marks (first + 1 + many) more ≡ marked_from marks (first + suc many) more = ap (λ n. marked_from marks n more) (let e : first + 1 + many ≡ first + suc many = omega arith in e) in
    let w : marked_from marks first (suc many + more) ≡ marked_from marks first (suc (many + more)) = ap (marked_from marks first) (let e : suc many + more ≡ suc (many + more) = omega arith in e) in
    omega (arith, a, b, c, d, w)

-- marks that stand for two kinds, of which no number has both
one_or_other : (a b : Bool) → (a ≡ true → b ≡ true → ⊥) → one_if (a || b) ≡ one_if a + one_if b
one_or_other true true apart = absurd (apart refl refl)
one_or_other true false apart = refl
one_or_other false true apart = refl
one_or_other false false apart = refl

pub sum_of_marks : (a b : ℕ → Bool) (first many : ℕ) → ((number : ℕ) → first ≤ number → number < first + many → a number ≡ true → b number ≡ true → ⊥) →
    marked_from (λ n. a n || b n) first many ≡ marked_from a first many + marked_from b first many
sum_of_marks a b first zero apart = let x = no_marks (λ n. a n || b n) first in let y = no_marks a first in let z = no_marks b first in omega (arith, x, y, z)
sum_of_marks a b first (suc more) apart =
    let x = one_mark (λ n. a n || b n) first more in
    let y = one_mark a first more in
    let z = one_mark b first more in
    let here = one_or_other (a first) (b first) (apart first (omega arith) (omega arith)) in
    let rest = sum_of_marks a b (first + 1) more (λ n low high. apart n (omega (arith, low)) (omega (arith, high))) in
    omega (arith, x, y, z, here, rest)

one_or_not : (a : Bool) → one_if a + one_if (not a) ≡ 1
one_or_not true = refl
one_or_not false = refl

-- the others are all the rest
pub other_marks : (marks : ℕ → Bool) (first many : ℕ) → marked_from marks first many + marked_from (λ n. not (marks n)) first many ≡ many
other_marks marks first zero = let x = no_marks marks first in let y = no_marks (λ n. not (marks n)) first in omega (arith, x, y)
other_marks marks first (suc more) =
    let x = one_mark marks first more in
    let y = one_mark (λ n. not (marks n)) first more in
    let here = one_or_not (marks first) in
    let rest = other_marks marks (first + 1) more in
    omega (arith, x, y, here, rest)

pub all_marked : (first many : ℕ) → marked_from (λ n. true) first many ≡ many
all_marked first zero = no_marks (λ n. true) first
all_marked first (suc more) = let one = one_mark (λ n. true) first more in let rest = all_marked (first + 1) more in omega (arith, one, rest)

pub none_marked : (first many : ℕ) → marked_from (λ n. false) first many ≡ 0
none_marked first zero = no_marks (λ n. false) first
none_marked first (suc more) = let one = one_mark (λ n. false) first more in let rest = none_marked (first + 1) more in omega (arith, one, rest)

-- ## Properties

-- what has the same property has the same marks
pub alike : (limit : ℕ) (P Q : ℕ → Type 0) (count : ℕ) → ((k : ℕ) → k < limit → P k → Q k) → ((k : ℕ) → k < limit → Q k → P k) → CountsBelow limit P count → CountsBelow limit Q count
alike limit P Q count to from c = record {
  marks = c.marks;
  tell = λ k l. (λ e. to k l ((c.tell k l).0 e), λ q. (c.tell k l).1 (from k l q));
  counted = c.counted;
}

pub within : (limit : ℕ) (P : ℕ → Type 0) (count : ℕ) → CountsBelow limit P count → count ≤ limit
within limit P count c = let few = few_marks c.marks 0 limit in let is = c.counted in omega (arith, few, is)

pub all_of : (limit : ℕ) → CountsBelow limit (λ k. Unit {0}) limit
all_of limit = record { marks = λ k. true; tell = λ k l. (λ e. tt, λ u. refl); counted = sym (all_marked 0 limit) }

pub none_of : (limit : ℕ) (P : ℕ → Type 0) → ((k : ℕ) → k < limit → P k → ⊥) → CountsBelow limit P 0
none_of limit P never = record { marks = λ k. false; tell = λ k l. (λ e. cc, λ p. absurd (never k l p)); counted = sym (none_marked 0 limit) }

not_told : (mark : Bool) (P : Type 0) → Decides mark P → Decides (not mark) (P → ⊥)
not_told true P d = (λ e p. cc, λ n. absurd (n (d.0 refl)))
not_told false P d = (λ e p. let f = d.1 p in cc, λ n. refl)

pub rest_of : (limit : ℕ) (P : ℕ → Type 0) (count : ℕ) → CountsBelow limit P count → CountsBelow limit (λ k. P k → ⊥) (limit - count)
rest_of limit P count c = record {
  marks = λ k. not (c.marks k);
  tell = λ k l. not_told (c.marks k) (P k) (c.tell k l);
  counted = let all = other_marks c.marks 0 limit in let is = c.counted in omega (arith, all, is);
}

either_told : (a b : Bool) (P Q : Type 0) → Decides a P → Decides b Q → Decides (a || b) (P ⊎ Q)
either_told true b P Q d f = (λ e. inl (d.0 refl), λ h. refl)
either_told false b P Q d f = (λ e. inr (f.0 e), λ h. elim h [ inl p ↦ let g = d.1 p in cc | inr q ↦ f.1 q ])

-- two properties, of which no number has both
pub either_of : (limit : ℕ) (P Q : ℕ → Type 0) (count more : ℕ) → ((k : ℕ) → k < limit → P k → Q k → ⊥) → CountsBelow limit P count → CountsBelow limit Q more → CountsBelow limit (λ k. P k ⊎ Q k) (count + more)
either_of limit P Q count more apart c d = record {
  marks = λ k. c.marks k || d.marks k;
  tell = λ k l. either_told (c.marks k) (d.marks k) (P k) (Q k) (c.tell k l) (d.tell k l);
  counted =
      let sum = sum_of_marks c.marks d.marks 0 limit (λ k low high e f. apart k (omega (arith, high)) ((c.tell k (omega (arith, high))).0 e) ((d.tell k (omega (arith, high))).0 f)) in
      let a = c.counted in
      let b = d.counted in
      omega (arith, sum, a, b);
}

told_alike : (a b : Bool) (P : Type 0) → Decides a P → Decides b P → a ≡ b
told_alike true b P d f = sym (f.1 (d.0 refl))
told_alike false true P d f = d.1 (f.0 refl)
told_alike false false P d f = refl

-- numbers behind a limit of which none has the property
pub shorter : (limit room : ℕ) (P : ℕ → Type 0) (count : ℕ) → limit ≤ room → ((k : ℕ) → P k → k < limit) → CountsBelow room P count → CountsBelow limit P count
shorter limit room P count low inside c = record {
  marks = c.marks;
  tell = λ k l. c.tell k (omega (arith, l, low));
  counted =
      let parts : marked_from c.marks 0 (limit + (room - limit)) ≡ marked_from c.marks 0 limit + marked_from c.marks (0 + limit) (room - limit) = more_marks c.marks 0 limit (room - limit) in
      let all : marked_from c.marks 0 (limit + (room - limit)) ≡ marked_from c.marks 0 room = ap (marked_from c.marks 0) (let e : limit + (room - limit) ≡ room = omega (arith, low) in e) in
      let none : marked_from c.marks (0 + limit) (room - limit) ≡ marked_from (λ n. false) (0 + limit) (room - limit) = same_marks c.marks (λ n. false) (0 + limit) (room - limit)
      (λ n from to. told_alike (c.marks n) false (P n) (c.tell n (omega (arith, to, low))) (λ e. cc, λ p. let l = inside n p in absurd (omega (arith, l, from)))) in
      let zero_is = none_marked (0 + limit) (room - limit) in
      let is = c.counted in
      omega (arith, parts, all, none, zero_is, is);
}

-- numbers behind a limit, which a second count is of
pub longer : (limit more : ℕ) (P : ℕ → Type 0) (marks : ℕ → Bool) (count : ℕ) → CountsBelow limit P count → ((k : ℕ) → k < limit + more → Decides (marks k) (P k)) → CountsBelow (limit + more) P (count + marked_from marks limit more)
longer limit more P marks count c tell = record {
  marks = marks;
  tell = tell;
  counted =
      let parts = more_marks marks 0 limit more in
      let here : marked_from marks (0 + limit) more ≡ marked_from marks limit more = ap (λ n. marked_from marks n more) (let e : 0 + limit ≡ limit = omega arith in e) in
      let same = same_marks c.marks marks 0 limit (λ n low high. told_alike (c.marks n) (marks n) (P n) (c.tell n (omega (arith, high))) (tell n (omega (arith, high)))) in
      let is = c.counted in
      omega (arith, parts, here, same, is);
}
