-- Spans in their order.
use Rattle.std.proofs.Common.{◌≡◌, ℕ, ◌+◌, ◌<◌, ◌≤◌, ◌⊎◌, List, length, get_or, refl, sym, ◌∙◌, ap, subst, inl, inr, arith}
use Rattle.std.specs.List.{AllPairs, Contains}
use Rattle.std.specs.List.Sorted.{IsStrictlySortedBy}
use Rattle.std.specs.Ordering.{nat_cmp, ordering_then}
use Rattle.std.specs.declared.cmp.Ordering.{Ordering}
use Rattle.std.specs.declared.cmp.Ordering.TheVariants.{Less, Equal, Greater}
use Rattle.std.proofs.lemmas.Bool.{cases_eq, cases_lt}
use Rattle.std.proofs.lemmas.Cmp.{ranked}
use Rattle.std.proofs.lemmas.Map.Keys.{Less-from_sorted}
use Rattle.std.proofs.lemmas.Option.{slice_get-get_or, get_or_from_slice_get}
use Rattle.mt_text_spec.specs.Orders.{span_cmp}
use Rattle.mt_text_spec.specs.Texts.{Span, StructSpan}
use Rattle.mt_places.specs.Places.{In, HasJust}
use Rattle.mt_prepare.specs.TagRows.{IsBefore, IsFirstFrom, key_of, IsOfSome, BeginsAt, IsEmptyAt, EndsAt, IsLongerAt}

-- ## The order

lower : (m n : ℕ) → nat_cmp m n ≡ Less → m < n
lower m n e = ranked m n Less (sym e)

equal : (m n : ℕ) → nat_cmp m n ≡ Equal → m ≡ n
equal m n e = ranked m n Equal (sym e)

first_or_second : (first second : Ordering) → ordering_then first second ≡ Less → (first ≡ Less) ⊎ ((first ≡ Equal) × (second ≡ Less))
first_or_second Less second e = inl refl
first_or_second Equal second e = inr (refl, e)
first_or_second Greater second e = let f : ⊥ = cc in absurd f

before : (s t : Span) → span_cmp s t ≡ Less → IsBefore s t
before s t e = elim (first_or_second (nat_cmp s.text t.text) _ e) [
  | inl l ↦ inl (lower s.text t.text l)
  | inr (x, rest) ↦ inr (
    equal s.text t.text x,
    elim (first_or_second (nat_cmp s.begin t.begin) _ rest) [
      | inl l ↦ inl (lower s.begin t.begin l)
      | inr (y, last) ↦ inr (equal s.begin t.begin y, lower s.end t.end last)
    ],
  )
]

pub in_order : (spans : List Span) → IsStrictlySortedBy span_cmp spans → AllPairs IsBefore spans
in_order spans sorted = λ i j d l h. before (get_or spans i d) (get_or spans j d) (Less-from_sorted span_cmp spans i j d sorted l h)

pub chain : (a b c : Span) → IsBefore a b → IsBefore b c → IsBefore a c
chain a b c (inl x) (inl y) = inl (omega (arith, x, y))
chain a b c (inl x) (inr y) = inl (omega (arith, x, y.0))
chain a b c (inr x) (inl y) = inl (omega (arith, x.0, y))
chain a b c (inr x) (inr y) = inr (x.0 ∙ y.0, within x.1 y.1)
  where
    within : (a.begin < b.begin) ⊎ ((a.begin ≡ b.begin) × (a.end < b.end)) → (b.begin < c.begin) ⊎ ((b.begin ≡ c.begin) × (b.end < c.end)) → (a.begin < c.begin) ⊎ ((a.begin ≡ c.begin) × (a.end < c.end))
    within (inl p) (inl q) = inl (omega (arith, p, q))
    within (inl p) (inr q) = inl (omega (arith, p, q.0))
    within (inr p) (inl q) = inl (omega (arith, p.0, q))
    within (inr p) (inr q) = inr (p.0 ∙ q.0, omega (arith, p.1, q.1))

pub same_item : {X : Type 0} (xs : List X) (k : ℕ) (d o : X) → k < length xs → get_or xs k d ≡ get_or xs k o
same_item xs k d o l = sym (get_or_from_slice_get xs k (get_or xs k d) o (slice_get-get_or xs k d l))

-- ## A search by halves

pub up_to : (spans : List Span) (key one : Span) (middle : ℕ) → AllPairs IsBefore spans → middle < length spans → one ≡ get_or spans middle one → IsBefore one key
    → (k : ℕ) (d : Span) → k < middle + 1 → IsBefore (get_or spans k d) key
up_to spans key one middle pairs l is low k d h = elim (cases_lt k middle) [
  | inl less ↦ chain (get_or spans k d) (get_or spans middle d) key (pairs k middle d less l) (subst (λ (s : Span). IsBefore s key) (is ∙ same_item spans middle one d l) low)
  | inr on ↦
      let e : k ≡ middle = omega (arith, on, h) in
      subst (λ (n : ℕ). IsBefore (get_or spans n d) key) (sym e) (subst (λ (s : Span). IsBefore s key) (is ∙ same_item spans middle one d l) low)
]

pub from_on : (spans : List Span) (key one : Span) (middle : ℕ) → AllPairs IsBefore spans → middle < length spans → one ≡ get_or spans middle one → (IsBefore one key → ⊥)
    → (k : ℕ) (d : Span) → middle ≤ k → k < length spans → IsBefore (get_or spans k d) key → ⊥
from_on spans key one middle pairs l is high k d h m low = elim (cases_lt middle k) [
  | inl more ↦ high (subst (λ (s : Span). IsBefore s key) (sym (is ∙ same_item spans middle one d l)) (chain (get_or spans middle d) (get_or spans k d) key (pairs middle k d more m) low))
  | inr on ↦
      let e : k ≡ middle = omega (arith, on, h) in
      high (subst (λ (s : Span). IsBefore s key) (ap (λ (n : ℕ). get_or spans n d) e ∙ sym (is ∙ same_item spans middle one d l)) low)
]

-- ## The spans of a text

not_below : (s : Span) (text : ℕ) → (IsBefore s (key_of text) → ⊥) → text ≤ s.text
not_below s text high = elim (cases_lt s.text text) [ inl l ↦ absurd (high (inl l)) | inr g ↦ g ]

below : (s : Span) (text : ℕ) → IsBefore s (key_of text) → s.text < text
below s text (inl l) = l
below s text (inr (e, inl l)) = absurd (omega (arith, l))
below s text (inr (e, inr (f, l))) = absurd (omega (arith, l))

-- what lies between is of the text
pub of_text : (spans : List Span) (text from to : ℕ) → IsFirstFrom spans (key_of text) from → IsFirstFrom spans (key_of (text + 1)) to → (k : ℕ) (d : Span) → from ≤ k → k < to → (get_or spans k d).text ≡ text
of_text spans text from to a b k d low high =
    let x : text ≤ (get_or spans k d).text = not_below (get_or spans k d) text (a.behind k d low (omega (arith, high, b.within))) in
    let y : (get_or spans k d).text < text + 1 = below (get_or spans k d) (text + 1) (b.before k d high) in
    omega (arith, x, y)

-- and what is of the text lies between
pub between : (spans : List Span) (text from to : ℕ) → IsFirstFrom spans (key_of text) from → IsFirstFrom spans (key_of (text + 1)) to → (k : ℕ) (d : Span) → k < length spans → (get_or spans k d).text ≡ text
    → (from ≤ k) × (k < to)
between spans text from to a b k d l e = (
  elim (cases_lt k from) [ inl low ↦ let x : (get_or spans k d).text < text = below (get_or spans k d) text (a.before k d low) in absurd (omega (arith, x, e)) | inr on ↦ on ],
  elim (cases_lt k to) [ inl low ↦ low | inr on ↦ let x : text + 1 ≤ (get_or spans k d).text = not_below (get_or spans k d) (text + 1) (b.behind k d on l) in absurd (omega (arith, x, e)) ],
)

pub in_turn : (spans : List Span) (text from to : ℕ) → IsFirstFrom spans (key_of text) from → IsFirstFrom spans (key_of (text + 1)) to → from ≤ to
in_turn spans text from to a b = elim (cases_lt to from) [
  | inr on ↦ on
  | inl low ↦
      let d : Span = key_of 0 in
      let x : (get_or spans to d).text < text = below (get_or spans to d) text (a.before to d low) in
      let y : text + 1 ≤ (get_or spans to d).text = not_below (get_or spans to d) (text + 1) (b.behind to d (omega arith) (omega (arith, low, a.within))) in
      absurd (omega (arith, x, y))
]

-- ## Sets of what items have

pub none_of : {X : Type 0} (W : X → ℕ → Type 0) (items : List X) (from : ℕ) (set : List ℕ) → ((place : ℕ) → In set place → ⊥) → HasJust (IsOfSome W items from from) set
none_of W items from set none = record { sound = λ k i. absurd (none k i); complete = λ k p lt. absurd (omega (arith, p.low, p.high)) }

one_of : {X : Type 0} (W : X → ℕ → Type 0) (items : List X) (from at place : ℕ) (old new : List ℕ) → HasJust (IsOfSome W items from at) old → HasJust (λ k. In old k ⊎ (k ≡ place)) new
    → length new ≡ length old → from ≤ at → ((d : X) → W (get_or items at d) place) → ((k : ℕ) → ((d : X) → W (get_or items at d) k) → k ≡ place) → HasJust (IsOfSome W items from (at + 1)) new
one_of W items from at place old new was now same low has only = record {
  sound = λ k i. elim (now.sound k i) [
    | inl o ↦ let p = was.sound k o in record { at = p.at; low = p.low; high = omega (arith, p.high); has = p.has }
    | inr e ↦ record { at = at; low = low; high = omega arith; has = λ d. subst (W (get_or items at d)) (sym e) (has d) }
  ];
  complete = λ k p lt. elim (cases_eq p.at at) [
    | inl e ↦ now.complete k (inr (only k (λ d. subst (λ (n : ℕ). W (get_or items n d) k) e (p.has d)))) lt
    | inr other ↦ now.complete k (inl (was.complete k (record { at = p.at; low = p.low; high = omega (arith, p.high, other); has = p.has }) (omega (arith, lt, same)))) lt
  ];
}

not_of : {X : Type 0} (W : X → ℕ → Type 0) (items : List X) (from at : ℕ) (set : List ℕ) → HasJust (IsOfSome W items from at) set → ((k : ℕ) → ((d : X) → W (get_or items at d) k) → ⊥)
    → HasJust (IsOfSome W items from (at + 1)) set
not_of W items from at set was never = record {
  sound = λ k i. let p = was.sound k i in record { at = p.at; low = p.low; high = omega (arith, p.high); has = p.has };
  complete = λ k p lt. elim (cases_eq p.at at) [
    | inl e ↦ absurd (never k (λ d. subst (λ (n : ℕ). W (get_or items n d) k) e (p.has d)))
    | inr other ↦ was.complete k (record { at = p.at; low = p.low; high = omega (arith, p.high, other); has = p.has }) lt
  ];
}

pub one_begin : (spans : List Span) (one : Span) (from at : ℕ) (old new : List ℕ) → at < length spans → one ≡ get_or spans at one → HasJust (IsOfSome BeginsAt spans from at) old
    → HasJust (λ k. In old k ⊎ (k ≡ one.begin)) new → length new ≡ length old → from ≤ at → HasJust (IsOfSome BeginsAt spans from (at + 1)) new
one_begin spans one from at old new l is was now same low =
    let begin = λ (d : Span). ap (λ (s : Span). s.begin) (same_item spans at d one l ∙ sym is) in
    one_of BeginsAt spans from at one.begin old new was now same low begin (λ k h. sym (h one) ∙ begin one)

pub one_empty : (spans : List Span) (one : Span) (from at : ℕ) (old new : List ℕ) → at < length spans → one ≡ get_or spans at one → one.begin ≡ one.end → HasJust (IsOfSome IsEmptyAt spans from at) old
    → HasJust (λ k. In old k ⊎ (k ≡ one.begin)) new → length new ≡ length old → from ≤ at → HasJust (IsOfSome IsEmptyAt spans from (at + 1)) new
one_empty spans one from at old new l is e was now same low =
    let begin = λ (d : Span). ap (λ (s : Span). s.begin) (same_item spans at d one l ∙ sym is) in
    let end = λ (d : Span). ap (λ (s : Span). s.end) (same_item spans at d one l ∙ sym is) ∙ sym e in
    one_of IsEmptyAt spans from at one.begin old new was now same low (λ d. (begin d, end d)) (λ k h. sym (h one).0 ∙ begin one)

pub not_empty : (spans : List Span) (one : Span) (from at : ℕ) (set : List ℕ) → at < length spans → one ≡ get_or spans at one → (one.begin ≡ one.end → ⊥) → HasJust (IsOfSome IsEmptyAt spans from at) set
    → HasJust (IsOfSome IsEmptyAt spans from (at + 1)) set
not_empty spans one from at set l is other was =
    not_of IsEmptyAt spans from at set was
    (λ k h. other (ap (λ (s : Span). s.begin) is ∙ (h one).0 ∙ sym (h one).1 ∙ ap (λ (s : Span). s.end) (sym is)))

pub one_end : (spans : List StructSpan) (end at : ℕ) (old new : List ℕ) → ((d : StructSpan) → (get_or spans at d).end ≡ end) → (d : StructSpan) → HasJust (IsOfSome EndsAt spans 0 at) old
    → HasJust (λ k. In old k ⊎ (k ≡ end)) new → length new ≡ length old → HasJust (IsOfSome EndsAt spans 0 (at + 1)) new
one_end spans end at old new is d was now same = one_of EndsAt spans 0 at end old new was now same (omega arith) is (λ k h. sym (h d) ∙ is d)

-- ## What a search finds

-- the first span that does not come before the key is one of the text from the place on, where there is one
pub found : (spans : List Span) (text at place : ℕ) (one : Span) → place < length spans → one ≡ get_or spans place one → IsFirstFrom spans (record { text = text; begin = at; end = at + 1 }) place
    → one.text ≡ text → one.begin ≡ at → IsLongerAt spans text at one.end
found spans text at place one l is first t b =
    let high = first.behind place one (omega arith) l in
    record {
      some = elim (cases_lt one.end (at + 1)) [
        | inl low ↦ absurd (high (subst (λ (s : Span). IsBefore s (record { text = text; begin = at; end = at + 1 })) is (inr (t, inr (b, low)))))
        | inr on ↦ omega (arith, on)
      ];
      there = subst (Contains spans) (λ i. record { text = t i; begin = b i; end = one.end }) (place, l, sym is);
    }

-- such a span stands at the place or behind it
pub behind_it : (spans : List Span) (text at end place : ℕ) → IsFirstFrom spans (record { text = text; begin = at; end = at + 1 }) place → (s : IsLongerAt spans text at end) → place ≤ s.there.0
behind_it spans text at end place first s =
    let k : ℕ = s.there.0 in
    let one : Span = record { text = text; begin = at; end = end } in
    elim (cases_lt k place) [
      | inr on ↦ on
      | inl low ↦
          let b : IsBefore one (record { text = text; begin = at; end = at + 1 }) = subst (λ (x : Span). IsBefore x (record { text = text; begin = at; end = at + 1 })) s.there.2 (first.before k one low) in
          absurd (never b s.some)
    ]
  where
    never : IsBefore (record { text = text; begin = at; end = end }) (record { text = text; begin = at; end = at + 1 }) → at < end → ⊥
    never (inl l) h = omega (arith, l)
    never (inr (e, inl l)) h = omega (arith, l)
    never (inr (e, inr (f, l))) h = omega (arith, l, h)

-- so the span at the place is of the text and begins there
pub is_there : (spans : List Span) (text at end place : ℕ) (one : Span) → AllPairs IsBefore spans → IsFirstFrom spans (record { text = text; begin = at; end = at + 1 }) place
    → IsLongerAt spans text at end → one ≡ get_or spans place one → (place < length spans) × (one.text ≡ text) × (one.begin ≡ at)
is_there spans text at end place one pairs first s is =
    let k : ℕ = s.there.0 in
    let low : place ≤ k = behind_it spans text at end place first s in
    let within : place < length spans = omega (arith, low, s.there.1) in
    let its : Span = record { text = text; begin = at; end = end } in
    let high : IsBefore one (record { text = text; begin = at; end = at + 1 }) → ⊥ = λ b. first.behind place one (omega arith) within (subst (λ (x : Span). IsBefore x (record { text = text; begin = at; end = at + 1 })) is b) in
    let not_behind : (one ≡ its) ⊎ IsBefore one its = elim (cases_lt place k) [
      | inl less ↦ inr (subst (λ (x : Span). IsBefore x its) (sym is) (subst (IsBefore (get_or spans place one)) (same_item spans k one its s.there.1 ∙ s.there.2) (pairs place k one less s.there.1)))
      | inr on ↦ inl (is ∙ ap (λ (n : ℕ). get_or spans n one) (let e : place ≡ k = omega (arith, low, on) in e) ∙ same_item spans k one its s.there.1 ∙ s.there.2)
    ] in
    let both = same one text at end high not_behind in
    (within, both.0, both.1)
  where
    same : (o : Span) (t b e : ℕ) → (IsBefore o (record { text = t; begin = b; end = b + 1 }) → ⊥) → (o ≡ record { text = t; begin = b; end = e }) ⊎ IsBefore o (record { text = t; begin = b; end = e })
        → (o.text ≡ t) × (o.begin ≡ b)
    same o t b e high (inl is) = (ap (λ (s : Span). s.text) is, ap (λ (s : Span). s.begin) is)
    same o t b e high (inr (inl l)) = absurd (high (inl l))
    same o t b e high (inr (inr (x, inl l))) = absurd (high (inr (x, inl l)))
    same o t b e high (inr (inr (x, inr (y, l)))) = (x, y)
