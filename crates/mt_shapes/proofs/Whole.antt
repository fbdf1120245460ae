-- Whole instances of a tag, one after another.
use Rattle.std.proofs.Common.{◌≡◌, ℕ, ◌+◌, ◌-◌, ◌/◌, ◌<◌, ◌≤◌, ◌⊎◌, Option, None, Some, List, length, refl, sym, ◌∙◌, subst, inl, inr, arith}
use Rattle.std.proofs.lemmas.Bool.{cases_eq, cases_lt}
use Rattle.mt_match_spec.specs.Matches as m
use Rattle.mt_match_spec.specs.Labels.{no_labels}
use Rattle.mt_places.specs.Places.{In, HasJust}
use Rattle.mt_automaton.specs.declared.view.Mark.TheVariants.{Empty}
use Rattle.mt_automaton.specs.Parts.{Seen, Stands, Lies, Longer, HasAllInside}
use Rattle.mt_shapes.specs.declared.shape.Shape.{Shape}
use Rattle.mt_shapes.specs.declared.table.Entry.{Entry}
use Rattle.mt_shapes.specs.Shapes.{Suits}
use Rattle.mt_shapes.specs.Tables.{Fine, AddsListed, Adds, Inside, IsMarked, IsBetween, IsLongerAt, IsLongerBelow}
use Rattle.mt_shapes.proofs.Labels.{no_labels_within}
use Rattle.mt_shapes.proofs.Matches.{adds_renamed, adds_then, adds_nothing, of_listed_by}

abbrev pub plain : ℕ → Shape
plain length = record { length = length; labels = no_labels }

-- ## One begin

pub one_suits : (tokens count begin : ℕ) (empty set : List ℕ) → begin + count ≤ tokens → length set ≡ tokens / 64 + 1 → ((k : ℕ) → In empty k → ⊥) → HasJust (λ k. In empty k ⊎ (k ≡ begin)) set → Suits tokens (plain count) set
one_suits tokens count begin empty set low wide none just = record {
  width = wide;
  inside = λ b h. elim (just.sound b h) [ inl was ↦ absurd (none b was) | inr is ↦ omega (arith, is, low) ];
  nine = refl;
  labels = no_labels_within count;
}

pub one_listed : (tokens begin : ℕ) (shape : Shape) (empty set : List ℕ) (old new : List Entry) → ((k : ℕ) → In empty k → ⊥) → In set begin → HasJust (λ k. In empty k ⊎ (k ≡ begin)) set
    → AddsListed tokens (λ other at. (other ≡ shape) × In set at) old new → AddsListed tokens (λ other at. (other ≡ shape) × (at ≡ begin)) old new
one_listed tokens begin shape empty set old new none is_in just a = record {
  fine = a.fine;
  sound = λ s b r. elim (a.sound s b r) [
    | inl was ↦ inl was
    | inr p ↦ elim (just.sound b p.1) [ inl never ↦ absurd (none b never) | inr is ↦ inr (p.0, is) ]
  ];
  kept = a.kept;
  complete = λ s b p. a.complete s b (p.0, subst (In set) (sym p.1) is_in);
}

pub between : (tokens begin end : ℕ) (old new : List Entry) → begin ≤ end → AddsListed tokens (λ shape at. (shape ≡ plain (end - begin)) × (at ≡ begin)) old new → Adds tokens (IsBetween begin end) old new
between tokens begin end old new order a =
    of_listed_by tokens (plain (end - begin)) (λ at. at ≡ begin) (IsBetween begin end) old new (λ b e l q far labels. record { begin_is = q; end_is = omega (arith, far, q, order); labels_are = labels }) (λ b e l r. r.begin_is)
    (λ b e l r. let first = r.begin_is in let last = r.end_is in omega (arith, first, last, order)) (λ b e l r. r.labels_are) a

-- ## The instance that begins at a place

pub longer_here : (v : Seen) (tag tokens at end : ℕ) (found : Option ℕ) (old new : List Entry) → found ≡ Some end → Longer v tag at end → ((e : ℕ) → Longer v tag at e → found ≡ Some e) → Adds tokens (IsBetween at end) old new
    → Adds tokens (IsLongerAt v tag at) old new
longer_here v tag tokens at end found old new is longer only a =
    adds_renamed tokens (IsBetween at end) (IsLongerAt v tag at) old new
    (λ b e l r. record { begin_is = r.begin_is; longer = subst (λ x. Longer v tag x e) (sym r.begin_is) (subst (Longer v tag at) (sym r.end_is) longer); labels_are = r.labels_are })
    (λ b e l r.
    let one : ◌≡◌ {A = Option ℕ} (Some end) (Some e) = sym is ∙ only e (subst (λ x. Longer v tag x e) r.begin_is r.longer) in
    let same : end ≡ e = cc in
    record { begin_is = r.begin_is; end_is = sym same; labels_are = r.labels_are }) a

pub none_here : (v : Seen) (tag tokens at : ℕ) (found : Option ℕ) (old : List Entry) → found ≡ None → ((e : ℕ) → Longer v tag at e → found ≡ Some e) → Fine tokens old → Adds tokens (IsLongerAt v tag at) old old
none_here v tag tokens at found old is only fine =
    adds_nothing tokens (IsLongerAt v tag at) old fine (λ b e l r.
    let one : ◌≡◌ {A = Option ℕ} None (Some e) = sym is ∙ only e (subst (λ x. Longer v tag x e) r.begin_is r.longer) in
    let never : ⊥ = cc in never)

-- ## All of them

pub none_below : (v : Seen) (tag tokens : ℕ) (old : List Entry) → Fine tokens old → Adds tokens (IsLongerBelow v tag 0) old old
none_below v tag tokens old fine = adds_nothing tokens (IsLongerBelow v tag 0) old fine (λ b e l r. let low = r.below in omega (arith, low))

pub next_longer : (v : Seen) (tag tokens from at : ℕ) (old mid new : List Entry) → from ≤ at → ((b e : ℕ) → Longer v tag b e → from ≤ b → b < at → ⊥) → Adds tokens (IsLongerBelow v tag from) old mid → Adds tokens (IsLongerAt v tag at) mid new
    → Adds tokens (IsLongerBelow v tag (at + 1)) old new
next_longer v tag tokens from at old mid new on gap a b =
    adds_then tokens (IsLongerBelow v tag from) (IsLongerAt v tag at) (IsLongerBelow v tag (at + 1)) old mid new
    (λ x y l r. record { below = let low = r.below in omega (arith, low, on); longer = r.longer; labels_are = r.labels_are })
    (λ x y l r. record { below = let is = r.begin_is in omega (arith, is); longer = r.longer; labels_are = r.labels_are })
    (λ x y l r. elim (cases_lt x from) [
      | inl before ↦ inl (record { below = before; longer = r.longer; labels_are = r.labels_are })
      | inr late ↦ elim (cases_eq x at) [
        | inl here ↦ inr (record { begin_is = here; longer = r.longer; labels_are = r.labels_are })
        | inr other ↦ let low = r.below in absurd (gap x y r.longer late (omega (arith, low, other)))
      ]
    ]) a b

pub all_longer : (v : Seen) (tag tokens from n : ℕ) (old new : List Entry) → from ≤ n → ((b e : ℕ) → Longer v tag b e → from ≤ b → ⊥) → Adds tokens (IsLongerBelow v tag from) old new → Adds tokens (IsLongerBelow v tag n) old new
all_longer v tag tokens from n old new low none a =
    adds_renamed tokens (IsLongerBelow v tag from) (IsLongerBelow v tag n) old new
    (λ x y l r. record { below = let h = r.below in omega (arith, h, low); longer = r.longer; labels_are = r.labels_are })
    (λ x y l r. record {
      below = elim (cases_lt x from) [ inl before ↦ before | inr late ↦ absurd (none x y r.longer late) ];
      longer = r.longer;
      labels_are = r.labels_are;
    }) a

-- ## With tokens or without

-- an instance that begins and ends at one place lies in the text
pub empty_inside : (v : Seen) (tag tokens : ℕ) → tokens ≡ v.text.tokens → HasAllInside v.text → (b : ℕ) → Stands v (Empty tag) b → b + 0 ≤ tokens
empty_inside v tag tokens is inside b lies =
    let g = inside (v.tag tag).kind (v.tag tag).test b b lies in
    elim g.begins [
      | inl low ↦ omega (arith, low, is)
      | inr past ↦ elim g.ends [ inl low ↦ omega (arith, low, is) | inr out ↦ absurd (omega (arith, past, out)) ]
    ]

pub whole : (v : Seen) (tag tokens : ℕ) (shape : Shape) (old mid new : List Entry) → tokens ≡ v.text.tokens → HasAllInside v.text → shape ≡ plain 0 → Adds tokens (IsMarked v (Empty tag) shape) old mid → Adds tokens (IsLongerBelow v tag (tokens + 1)) mid new
    → Adds tokens (Inside tokens (m.IsWhole v.text (v.tag tag).kind (v.tag tag).test)) old new
whole v tag tokens shape old mid new is inside s a b =
    adds_then tokens (IsMarked v (Empty tag) (plain 0)) (IsLongerBelow v tag (tokens + 1)) (Inside tokens (m.IsWhole v.text (v.tag tag).kind (v.tag tag).test)) old mid new
    (λ x y l r.
    let low = empty_inside v tag tokens is inside x r.stands in
    let end = r.end_is in
    let same : x ≡ y = omega (arith, end) in
    record { begins = omega (arith, low); ends = omega (arith, low, end); matches = record { lies = subst (λ e. Lies v tag x e) same r.stands; labels_are = r.labels_are } })
    (λ x y l r.
    let some = r.longer.some in
    let far = r.longer.within in
    record { begins = omega (arith, some, far, is); ends = omega (arith, far, is); matches = record { lies = r.longer.lies; labels_are = r.labels_are } })
    (λ x y l r. elim (cases_lt x y) [
      | inl some ↦ let low = r.begins in let high = r.ends in inr (record { below = omega (arith, low); longer = record { some = some; within = omega (arith, high, is); lies = r.matches.lies }; labels_are = r.matches.labels_are })
      | inr on ↦
          let low = r.begins in
          let g = inside (v.tag tag).kind (v.tag tag).test x y r.matches.lies in
          let forth : x ≤ y = g.onward (omega (arith, low, is)) in
          let same : y ≡ x = omega (arith, forth, on) in
          inl (record { stands = subst (λ e. Lies v tag x e) same r.matches.lies; end_is = omega (arith, same); labels_are = r.matches.labels_are })
    ])
    (subst (λ (x : Shape). Adds tokens (IsMarked v (Empty tag) x) old mid) s a) b
