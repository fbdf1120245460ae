-- Turns of a table, one more.
use Rattle.std.proofs.Common.{◌≡◌, ℕ, zero, suc, ◌+◌, ◌<◌, ◌≤◌, ◌⊎◌, List, [], length, sym, subst, inl, inr, arith}
use Rattle.std.proofs.lemmas.Bool.{cases_eq, cases_lt}
use Rattle.mt_match_spec.specs.Matches as m
use Rattle.mt_shapes.specs.declared.table.Entry.{Entry}
use Rattle.mt_shapes.specs.Tables.{entry, Fine, IsMatchOf, Adds, Inside, IsStretch, IsTurned}
use Rattle.mt_shapes.proofs.Matches.{adds_renamed, adds_then, adds_nothing}
use Rattle.mt_shapes.proofs.Meant.{only_of}

-- `turn` tells of k turns, and what not fewer than `least` and at most k turns match was added
pub record Turning (tokens : ℕ) (inner : List Entry) (least k : ℕ) (turn old new : List Entry) : Type 0 where
  pub turned : Adds tokens (Inside tokens (m.Turns (IsMatchOf inner) k)) [] turn
  pub counted : Adds tokens (IsTurned tokens (IsMatchOf inner) least k) old new

-- what a table tells of lies in the text
match_inside : (tokens : ℕ) (entries : List Entry) → Fine tokens entries → (b e : ℕ) (l : List ℕ) → IsMatchOf entries b e l → (b ≤ tokens) × (e ≤ tokens)
match_inside tokens entries fine b e l r =
    let far : b + (entry entries r.at).shape.length ≤ tokens = (fine.suits r.at r.below).inside b r.is.is_in in
    let end = r.is.end_is in
    (omega (arith, far), omega (arith, far, end))

none_turned : (tokens : ℕ) (R : m.Relation) (turn : List Entry) → Adds tokens (IsStretch tokens 0) [] turn → Adds tokens (Inside tokens (m.Turns R 0)) [] turn
none_turned tokens R turn a =
    adds_renamed tokens (IsStretch tokens 0) (Inside tokens (m.Turns R 0)) [] turn
    (λ b e l r. let end = r.end_is in let far = r.inside in record { begins = omega (arith, end, far); ends = far; matches = (omega (arith, end), r.labels_are) })
    (λ b e l r. let same = r.matches.0 in record { end_is = omega (arith, same); inside = r.ends; labels_are = r.matches.1 }) a

-- what k turns match was counted, where they are enough
abbrev pub Counted : (tokens : ℕ) (enough : Type 0) (turn old new : List Entry) → Type 0
Counted tokens enough turn old new = (enough × Adds tokens (IsMatchOf turn) old new) ⊎ ((enough → ⊥) × (new ≡ old))

pub counted_of : (tokens least turns : ℕ) (turn old new : List Entry) → (least ≤ turns → Adds tokens (IsMatchOf turn) old new) → (turns < least → new ≡ old) → Counted tokens (least ≤ turns) turn old new
counted_of tokens least turns turn old new adds same = elim (cases_lt turns least) [ inl few ↦ inr (λ low. omega (arith, few, low), same few) | inr low ↦ inl (low, adds low) ]

pub no_turns : (tokens : ℕ) (inner : List Entry) (least : ℕ) (turn old new : List Entry) → Fine tokens old → Adds tokens (IsStretch tokens 0) [] turn → Counted tokens (least ≤ 0) turn old new → Turning tokens inner least 0 turn old new
no_turns tokens inner least turn old new fine a c =
    let t : Adds tokens (Inside tokens (m.Turns (IsMatchOf inner) 0)) [] turn = none_turned tokens (IsMatchOf inner) turn a in
    record {
      turned = t;
      counted = elim c [
        | inl taken ↦
            let none = taken.0 in
            adds_renamed tokens (IsMatchOf turn) (IsTurned tokens (IsMatchOf inner) least 0) old new
            (λ b e l r. record { count = 0; low = omega (arith, none); high = omega arith; turns = only_of tokens (Inside tokens (m.Turns (IsMatchOf inner) 0)) turn t b e l r })
            (λ b e l r. let high = r.high in let zero_is : r.count ≡ 0 = omega (arith, high) in t.complete b e l (subst (λ k. Inside tokens (m.Turns (IsMatchOf inner) k) b e l) zero_is r.turns)) taken.1
        | inr left ↦
            subst (Adds tokens (IsTurned tokens (IsMatchOf inner) least 0) old) (sym left.1)
            (adds_nothing tokens (IsTurned tokens (IsMatchOf inner) least 0) old fine (λ b e l r. let low = r.low in let high = r.high in left.0 (omega (arith, low, high))))
      ];
    }

one_more : (tokens : ℕ) (inner turn next : List Entry) (k : ℕ) → Fine tokens inner → Adds tokens (Inside tokens (m.Turns (IsMatchOf inner) k)) [] turn → Adds tokens (m.Joined (IsMatchOf inner) (IsMatchOf turn)) [] next
    → Adds tokens (Inside tokens (m.Turns (IsMatchOf inner) (suc k))) [] next
one_more tokens inner turn next k fine t a =
    adds_renamed tokens (m.Joined (IsMatchOf inner) (IsMatchOf turn)) (Inside tokens (m.Turns (IsMatchOf inner) (suc k))) [] next
    (λ b e l j.
    let x = match_inside tokens inner fine b j.cut j.first_labels j.first in
    let y = only_of tokens (Inside tokens (m.Turns (IsMatchOf inner) k)) turn t j.cut e j.second_labels j.second in
    record {
      begins = x.0;
      ends = y.ends;
      matches = record { cut = j.cut; first_labels = j.first_labels; second_labels = j.second_labels; first = j.first; second = y.matches; unite = j.unite };
    })
    (λ b e l r.
    let j = r.matches in
    let x = match_inside tokens inner fine b j.cut j.first_labels j.first in
    record {
      cut = j.cut;
      first_labels = j.first_labels;
      second_labels = j.second_labels;
      first = j.first;
      second = t.complete j.cut e j.second_labels (record { begins = x.1; ends = r.ends; matches = j.second });
      unite = j.unite;
    }) a

pub next_turn : (tokens : ℕ) (inner : List Entry) (least k : ℕ) (turn next old mid new : List Entry) → Fine tokens inner → Turning tokens inner least k turn old mid → Adds tokens (m.Joined (IsMatchOf inner) (IsMatchOf turn)) [] next
    → Counted tokens (least ≤ k + 1) next mid new → Turning tokens inner least (k + 1) next old new
next_turn tokens inner least k turn next old mid new fine t a c =
    let one : suc k ≡ k + 1 = omega arith in
    let more : Adds tokens (Inside tokens (m.Turns (IsMatchOf inner) (k + 1))) [] next = subst (λ n. Adds tokens (Inside tokens (m.Turns (IsMatchOf inner) n)) [] next) one (one_more tokens inner turn next k fine t.turned a) in
    record {
      turned = more;
      counted = elim c [
        | inl taken ↦
            adds_then tokens (IsTurned tokens (IsMatchOf inner) least k) (IsMatchOf next) (IsTurned tokens (IsMatchOf inner) least (k + 1)) old mid new
            (λ x y l r. record { count = r.count; low = r.low; high = let h = r.high in omega (arith, h); turns = r.turns })
            (λ x y l r. record { count = k + 1; low = taken.0; high = omega arith; turns = only_of tokens (Inside tokens (m.Turns (IsMatchOf inner) (k + 1))) next more x y l r })
            (λ x y l r. elim (cases_eq r.count (k + 1)) [
              | inl here ↦ inr (more.complete x y l (subst (λ n. Inside tokens (m.Turns (IsMatchOf inner) n) x y l) here r.turns))
              | inr other ↦ inl (record { count = r.count; low = r.low; high = let h = r.high in omega (arith, h, other); turns = r.turns })
            ]) t.counted taken.1
        | inr left ↦
            subst (Adds tokens (IsTurned tokens (IsMatchOf inner) least (k + 1)) old) (sym left.1)
            (adds_renamed tokens (IsTurned tokens (IsMatchOf inner) least k) (IsTurned tokens (IsMatchOf inner) least (k + 1)) old mid
            (λ x y l r. record { count = r.count; low = r.low; high = let h = r.high in omega (arith, h); turns = r.turns })
            (λ x y l r. elim (cases_lt r.count (k + 1)) [
              | inl less ↦ record { count = r.count; low = r.low; high = omega (arith, less); turns = r.turns }
              | inr on ↦ let low = r.low in let high = r.high in absurd (left.0 (omega (arith, on, low, high)))
            ]) t.counted)
      ];
    }

-- where k turns match nothing, more turns match nothing
dry : (tokens : ℕ) (inner : List Entry) (k : ℕ) → Fine tokens inner → ((b e : ℕ) (l : List ℕ) → Inside tokens (m.Turns (IsMatchOf inner) k) b e l → ⊥) → (count : ℕ) → k ≤ count
    → (b e : ℕ) (l : List ℕ) → Inside tokens (m.Turns (IsMatchOf inner) count) b e l → ⊥
dry tokens inner k fine none zero low b e l r = let same : 0 ≡ k = omega (arith, low) in none b e l (subst (λ n. Inside tokens (m.Turns (IsMatchOf inner) n) b e l) same r)
dry tokens inner k fine none (suc count) low b e l r = elim (cases_eq k (suc count)) [
  | inl same ↦ none b e l (subst (λ n. Inside tokens (m.Turns (IsMatchOf inner) n) b e l) (sym same) r)
  | inr other ↦
      let j = r.matches in
      let x = match_inside tokens inner fine b j.cut j.first_labels j.first in
      dry tokens inner k fine none count (omega (arith, low, other)) j.cut e j.second_labels (record { begins = x.1; ends = r.ends; matches = j.second })
]

pub run_dry : (tokens : ℕ) (inner : List Entry) (least k most : ℕ) (turn old new : List Entry) → Fine tokens inner → k ≤ most → length turn ≡ 0 → Turning tokens inner least k turn old new
    → Adds tokens (IsTurned tokens (IsMatchOf inner) least most) old new
run_dry tokens inner least k most turn old new fine low empty t =
    let none : (b e : ℕ) (l : List ℕ) → Inside tokens (m.Turns (IsMatchOf inner) k) b e l → ⊥ =
    λ b e l r. let w = t.turned.complete b e l r in let at = w.below in omega (arith, at, empty) in
    adds_renamed tokens (IsTurned tokens (IsMatchOf inner) least k) (IsTurned tokens (IsMatchOf inner) least most) old new
    (λ x y l r. record { count = r.count; low = r.low; high = let h = r.high in omega (arith, h, low); turns = r.turns })
    (λ x y l r. elim (cases_lt k r.count) [
      | inl more ↦ absurd (dry tokens inner k fine none r.count (omega (arith, more)) x y l r.turns)
      | inr on ↦ record { count = r.count; low = r.low; high = on; turns = r.turns }
    ]) t.counted

pub all_turns : (tokens : ℕ) (inner : List Entry) (least k most : ℕ) (turn old new : List Entry) → k ≡ most → Turning tokens inner least k turn old new → Adds tokens (IsTurned tokens (IsMatchOf inner) least most) old new
all_turns tokens inner least k most turn old new e t = subst (λ n. Adds tokens (IsTurned tokens (IsMatchOf inner) least n) old new) e t.counted
