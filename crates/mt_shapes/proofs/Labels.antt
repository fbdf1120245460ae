-- Labels of shapes, moved to a begin and united.
use Rattle.std.proofs.Common.{◌≡◌, ◌≢◌, ℕ, zero, suc, ◌+◌, ◌-◌, ◌<◌, ◌≤◌, List, [], ◌∷◌, length, length-set, set, replicate, get_or, refl, sym, ◌∙◌, ap, inl, inr, arith, Bool, true, false, eqb-true, eq-eqb}
use Rattle.std.specs.Prelude.{◌==◌, if◌then◌else◌}
use Rattle.std.specs.declared.cmp.Ordering.TheVariants.{Less, Equal, Greater}
use Rattle.std.specs.Ordering.{nat_cmp, ordering_then}
use Rattle.std.specs.Cmp.{nat_cmp_is}
use Rattle.std.specs.Cmp.Lexicographic.{slice_cmp}
use Rattle.std.specs.List.{AllByRecursion}
use Rattle.std.proofs.lemmas.Bool.{cases_lt, cases_eq}
use Rattle.std.proofs.lemmas.List.{ext_get_or, get_or-set_same, get_or-set_other, length-map}
use Rattle.mt_text_spec.specs.Texts.{unset}
use Rattle.mt_text_spec.specs.Orders.{row_cmp}
use Rattle.mt_match_spec.specs.Labels.{no_labels, labelled, united, place_of_either}
use Rattle.mt_automaton.specs.Windows.{moved, FitsBehind}
use Rattle.mt_shapes.specs.declared.shape.Shape.{Shape}
use Rattle.mt_shapes.specs.Shapes.{shape_cmp, IsWithin, row_of}

-- the place of a label behind a place
abbrev pub at_base : (base place : ℕ) → ℕ
at_base base place = if place == unset then unset else (base + place)

pub set_moved : (base x : ℕ) → x ≢ unset → at_base base x ≡ base + x
set_moved base x n = go (x == unset) refl where
  go : (c : Bool) → (x == unset) ≡ c → at_base base x ≡ base + x
  go true e = absurd (n (eqb-true x unset e))
  go false e = ap (λ (c : Bool). if c then unset else (base + x)) e

set_fits : (base x : ℕ) → base + x < unset → at_base base x ≡ base + x
set_fits base x h = set_moved base x (λ e. omega (arith, e, h))

unset_stays : (base x : ℕ) → x ≡ unset → at_base base x ≡ unset
unset_stays base x e = ap (λ (c : Bool). if c then unset else (base + x)) (eq-eqb x unset e)

is_unset : (p o : ℕ) → p ≡ unset → place_of_either p o ≡ o
is_unset p o e = ap (λ (c : Bool). if c then o else p) (eq-eqb p unset e)

is_set : (p o : ℕ) → p ≢ unset → place_of_either p o ≡ p
is_set p o n = go (p == unset) refl where
  go : (c : Bool) → (p == unset) ≡ c → place_of_either p o ≡ p
  go true e = absurd (n (eqb-true p unset e))
  go false e = ap (λ (c : Bool). if c then o else p) e

two : (p o : ℕ) (ps os : List ℕ) → p ≡ o → ps ≡ os → p ∷ ps ≡ o ∷ os
two p o ps os e d = ap (λ x. x ∷ ps) e ∙ ap (λ xs. o ∷ xs) d

-- ## Labels that fit

pub fits_behind : (base length place : ℕ) → base + length < unset → IsWithin length place → FitsBehind base place
fits_behind base length place few w = elim w [ inl u ↦ inl u | inr s ↦ inr (omega (arith, s, few)) ]

pub all_fit : (base length : ℕ) (labels : List ℕ) → base + length < unset → AllByRecursion (IsWithin length) labels → AllByRecursion (FitsBehind base) labels
all_fit base length [] few all = tt
all_fit base length (x ∷ xs) few all = (fits_behind base length x few all.0, all_fit base length xs few all.1)

-- the label of one part, or that of the next one behind it
within_either : (m n x y : ℕ) → m + n < unset → IsWithin m x → IsWithin n y → IsWithin (m + n) (place_of_either x (at_base m y))
within_either m n x y few p q = elim (cases_eq x unset) [
  | inl u ↦ elim q [
    | inl w ↦ inl (is_unset x (at_base m y) u ∙ unset_stays m y w)
    | inr s ↦ let e : place_of_either x (at_base m y) ≡ m + y = is_unset x (at_base m y) u ∙ set_fits m y (omega (arith, s, few)) in inr (omega (arith, e, s))
  ]
  | inr o ↦ let e : place_of_either x (at_base m y) ≡ x = is_set x (at_base m y) o in elim p [ inl u ↦ absurd (o u) | inr s ↦ inr (omega (arith, e, s)) ]
]

pub all_within : (m n : ℕ) (a b : List ℕ) → m + n < unset → length a ≡ length b → AllByRecursion (IsWithin m) a → AllByRecursion (IsWithin n) b → AllByRecursion (IsWithin (m + n)) (united a (moved m b))
all_within m n [] b few e p q = tt
all_within m n (x ∷ a) [] few e p q = absurd (omega (arith, e))
all_within m n (x ∷ a) (y ∷ b) few e p q = (within_either m n x y few p.0 q.0, all_within m n a b few (omega (arith, e)) p.1 q.1)

-- ## United labels at a begin

joined_place : (b m n x y : ℕ) → b + (m + n) < unset → IsWithin m x → IsWithin n y → at_base b (place_of_either x (at_base m y)) ≡ place_of_either (at_base b x) (at_base (b + m) y)
joined_place b m n x y few p q = elim (cases_eq x unset) [
  | inl u ↦
      let here : place_of_either (at_base b x) (at_base (b + m) y) ≡ at_base (b + m) y = is_unset (at_base b x) (at_base (b + m) y) (unset_stays b x u) in
      let there : at_base b (place_of_either x (at_base m y)) ≡ at_base b (at_base m y) = ap (at_base b) (is_unset x (at_base m y) u) in
      elim q [
        | inl w ↦ there ∙ unset_stays b (at_base m y) (unset_stays m y w) ∙ sym (unset_stays (b + m) y w) ∙ sym here
        | inr s ↦
            let inner : at_base m y ≡ m + y = set_fits m y (omega (arith, s, few)) in
            let one : at_base b (m + y) ≡ b + (m + y) = set_fits b (m + y) (omega (arith, s, few)) in
            let other : at_base (b + m) y ≡ b + m + y = set_fits (b + m) y (omega (arith, s, few)) in
            there ∙ ap (at_base b) inner ∙ one ∙ omega arith ∙ sym other ∙ sym here
      ]
  | inr o ↦ elim p [
    | inl u ↦ absurd (o u)
    | inr s ↦
        let e : at_base b x ≡ b + x = set_fits b x (omega (arith, s, few)) in
        ap (at_base b) (is_set x (at_base m y) o) ∙ sym (is_set (at_base b x) (at_base (b + m) y) (λ u. omega (arith, e, u, s, few)))
  ]
]

pub joined_labels : (b m n : ℕ) (k l : List ℕ) → b + (m + n) < unset → length k ≡ length l → AllByRecursion (IsWithin m) k → AllByRecursion (IsWithin n) l
    → moved b (united k (moved m l)) ≡ united (moved b k) (moved (b + m) l)
joined_labels b m n [] l few e p q = refl
joined_labels b m n (x ∷ k) [] few e p q = absurd (omega (arith, e))
joined_labels b m n (x ∷ k) (y ∷ l) few e p q =
    two (at_base b (place_of_either x (at_base m y))) (place_of_either (at_base b x) (at_base (b + m) y)) (moved b (united k (moved m l))) (united (moved b k) (moved (b + m) l))
    (joined_place b m n x y few p.0 q.0) (joined_labels b m n k l few (omega (arith, e)) p.1 q.1)

pub united_length : (a b : List ℕ) → length (united a b) ≡ length a
united_length [] b = refl
united_length (x ∷ a) [] = refl
united_length (x ∷ a) (y ∷ b) = ap suc (united_length a b)

-- ## One label, or none

pub none_moved : (base : ℕ) → moved base no_labels ≡ no_labels
none_moved base = refl

none_within : (length n : ℕ) → AllByRecursion (IsWithin length) (replicate n unset)
none_within length zero = tt
none_within length (suc n) = (inl refl, none_within length n)

set_within : (length i n : ℕ) → AllByRecursion (IsWithin length) (set (replicate n unset) i 0)
set_within length i zero = tt
set_within length zero (suc n) = (inr (omega arith), none_within length n)
set_within length (suc i) (suc n) = (inl refl, set_within length i n)

pub no_labels_within : (length : ℕ) → AllByRecursion (IsWithin length) no_labels
no_labels_within length = none_within length 9

pub label_within : (length label : ℕ) → AllByRecursion (IsWithin length) (labelled label 0)
label_within length zero = none_within length 9
label_within length (suc i) = set_within length i 9

pub label_nine : (label : ℕ) → length (labelled label 0) ≡ 9
label_nine zero = refl
label_nine (suc i) = length-set no_labels i 0

set_at_base : (base i n : ℕ) → moved base (set (replicate n unset) i 0) ≡ set (replicate n unset) i base
set_at_base base i zero = refl
set_at_base base zero (suc n) = two (base + 0) base (moved base (replicate n unset)) (replicate n unset) (omega arith) (go n) where
  go : (n : ℕ) → moved base (replicate n unset) ≡ replicate n unset
  go zero = refl
  go (suc n) = ap (λ xs. unset ∷ xs) (go n)
set_at_base base (suc i) (suc n) = ap (λ xs. unset ∷ xs) (set_at_base base i n)

pub label_moved : (base label : ℕ) → moved base (labelled label 0) ≡ labelled label base
label_moved base zero = refl
label_moved base (suc i) = set_at_base base i 9

past_end : (xs : List ℕ) (i x : ℕ) → length xs ≤ i → set xs i x ≡ xs
past_end [] i x h = refl
past_end (y ∷ xs) zero x h = absurd (omega (arith, h))
past_end (y ∷ xs) (suc i) x h = ap (λ ys. y ∷ ys) (past_end xs i x (omega (arith, h)))

pub label_set : (label : ℕ) → 0 < label → set no_labels (label - 1) 0 ≡ labelled label 0
label_set zero h = absurd (omega (arith, h))
label_set (suc i) h = let e : suc i - 1 ≡ i = omega arith in ap (λ k. set no_labels k 0) e

pub label_past : (label : ℕ) → (0 < label → 9 < label) → no_labels ≡ labelled label 0
label_past zero h = refl
label_past (suc i) h = sym (past_end no_labels i 0 (let far : 9 < suc i = h (omega arith) in omega (arith, far)))

-- ## Nine labels, one after another

pub fits_at : (base i : ℕ) (xs : List ℕ) → i < length xs → AllByRecursion (FitsBehind base) xs → FitsBehind base (get_or xs i 0)
fits_at base i [] h all = absurd (omega (arith, h))
fits_at base zero (x ∷ xs) h all = all.0
fits_at base (suc i) (x ∷ xs) h all = fits_at base i xs (omega (arith, h)) all.1

moved_at : (base i : ℕ) (xs : List ℕ) → i < length xs → get_or (moved base xs) i 0 ≡ at_base base (get_or xs i 0)
moved_at base i [] h = absurd (omega (arith, h))
moved_at base zero (x ∷ xs) h = refl
moved_at base (suc i) (x ∷ xs) h = moved_at base i xs (omega (arith, h))

united_at : (i : ℕ) (xs ys : List ℕ) → i < length xs → i < length ys → get_or (united xs ys) i 0 ≡ place_of_either (get_or xs i 0) (get_or ys i 0)
united_at i [] ys h k = absurd (omega (arith, h))
united_at i (x ∷ xs) [] h k = absurd (omega (arith, k))
united_at zero (x ∷ xs) (y ∷ ys) h k = refl
united_at (suc i) (x ∷ xs) (y ∷ ys) h k = united_at i xs ys (omega (arith, h)) (omega (arith, k))

-- the places before number i are those of f, and the others as at first
pub record DoneTo (f : ℕ → ℕ) (first places : List ℕ) (i : ℕ) : Type 0 where
  pub nine : length places ≡ 9
  pub done : (j : ℕ) → j < i → get_or places j 0 ≡ f j
  pub rest : (j : ℕ) → i ≤ j → get_or places j 0 ≡ get_or first j 0

pub none_done : (f : ℕ → ℕ) (first : List ℕ) → length first ≡ 9 → DoneTo f first first 0
none_done f first e = record { nine = e; done = λ j h. absurd (omega (arith, h)); rest = λ j h. refl }

pub one_done : (f : ℕ → ℕ) (first places : List ℕ) (i place : ℕ) → i < 9 → place ≡ f i → DoneTo f first places i → DoneTo f first (set places i place) (i + 1)
one_done f first places i place within e m = record {
  nine = length-set places i place ∙ m.nine;
  done = λ j h. elim (cases_eq j i) [
    | inl same ↦ ap (λ k. get_or (set places i place) k 0) same ∙ get_or-set_same places i place 0 (omega (arith, within, m.nine)) ∙ e ∙ ap f (sym same)
    | inr other ↦ get_or-set_other places i j place 0 other ∙ m.done j (omega (arith, h, other))
  ];
  rest = λ j h. get_or-set_other places i j place 0 (λ e. omega (arith, e, h)) ∙ m.rest j (omega (arith, h));
}

pub all_moved : (base : ℕ) (labels first places : List ℕ) (i : ℕ) → length labels ≡ 9 → 9 ≤ i → DoneTo (λ j. at_base base (get_or labels j 0)) first places i → places ≡ moved base labels
all_moved base labels first places i nine far m =
    ext_get_or 0 places (moved base labels) (m.nine ∙ sym nine ∙ sym (length-map labels (at_base base)))
    (λ j low. let e = m.nine in let within : j < length labels = omega (arith, low, e, nine) in m.done j (omega (arith, low, e, far)) ∙ sym (moved_at base j labels within))

pub all_united : (labels others places : List ℕ) (i : ℕ) → length labels ≡ 9 → length others ≡ 9 → 9 ≤ i → DoneTo (λ j. place_of_either (get_or labels j 0) (get_or others j 0)) others places i → places ≡ united labels others
all_united labels others places i nine also far m =
    ext_get_or 0 places (united labels others) (m.nine ∙ sym nine ∙ sym (united_length labels others))
    (λ j low. let e = m.nine in m.done j (omega (arith, low, e, far)) ∙ sym (united_at j labels others (omega (arith, low, e, nine)) (omega (arith, low, e, also))))

pub moved_length : (base : ℕ) (labels : List ℕ) → length (moved base labels) ≡ length labels
moved_length base labels = length-map labels (at_base base)

-- ## The order of rows by their shapes

nat_less : (a b : ℕ) → a < b → nat_cmp a b ≡ Less
nat_less a b h = sym (nat_cmp_is a b Less h)

nat_same : (a b : ℕ) → a ≡ b → nat_cmp a b ≡ Equal
nat_same a b h = sym (nat_cmp_is a b Equal h)

nat_more : (a b : ℕ) → b < a → nat_cmp a b ≡ Greater
nat_more a b h = sym (nat_cmp_is a b Greater h)

shifted : (base a b : ℕ) → nat_cmp (base + a) (base + b) ≡ nat_cmp a b
shifted base a b = elim (cases_lt a b) [
  | inl h ↦ nat_less (base + a) (base + b) (omega (arith, h)) ∙ sym (nat_less a b h)
  | inr on ↦ elim (cases_eq a b) [
    | inl e ↦ nat_same (base + a) (base + b) (omega (arith, e)) ∙ sym (nat_same a b e)
    | inr o ↦ nat_more (base + a) (base + b) (omega (arith, on, o)) ∙ sym (nat_more a b (omega (arith, on, o)))
  ]
]

two_numbers : (a b c d : ℕ) → a ≡ c → b ≡ d → nat_cmp a b ≡ nat_cmp c d
two_numbers a b c d e f = ap (λ k. nat_cmp k b) e ∙ ap (nat_cmp c) f

same_place_order : (base x y : ℕ) → FitsBehind base x → FitsBehind base y → nat_cmp (at_base base x) (at_base base y) ≡ nat_cmp x y
same_place_order base x y p r = elim p [
  | inl u ↦ elim r [
    | inl w ↦ two_numbers (at_base base x) (at_base base y) x y (unset_stays base x u ∙ sym u) (unset_stays base y w ∙ sym w)
    | inr k ↦ two_numbers (at_base base x) (at_base base y) unset (base + y) (unset_stays base x u) (set_fits base y k)
        ∙ nat_more unset (base + y) k ∙ sym (nat_more x y (omega (arith, u, k)))
  ]
  | inr h ↦ elim r [
    | inl w ↦ two_numbers (at_base base x) (at_base base y) (base + x) unset (set_fits base x h) (unset_stays base y w)
        ∙ nat_less (base + x) unset h ∙ sym (nat_less x y (omega (arith, w, h)))
    | inr k ↦ two_numbers (at_base base x) (at_base base y) (base + x) (base + y) (set_fits base x h) (set_fits base y k) ∙ shifted base x y
  ]
]

same_label_order : (base : ℕ) (a b : List ℕ) → AllByRecursion (FitsBehind base) a → AllByRecursion (FitsBehind base) b → slice_cmp nat_cmp (moved base a) (moved base b) ≡ slice_cmp nat_cmp a b
same_label_order base [] [] p r = refl
same_label_order base [] (y ∷ b) p r = refl
same_label_order base (x ∷ a) [] p r = refl
same_label_order base (x ∷ a) (y ∷ b) p r =
    ap (λ o. ordering_then o (slice_cmp nat_cmp (moved base a) (moved base b))) (same_place_order base x y p.0 r.0) ∙ ap (ordering_then (nat_cmp x y)) (same_label_order base a b p.1 r.1)

-- rows from one begin are ordered as their shapes are
pub same_row_order : (s t : Shape) (text begin : ℕ) → AllByRecursion (FitsBehind begin) s.labels → AllByRecursion (FitsBehind begin) t.labels → row_cmp (row_of s text begin) (row_of t text begin) ≡ shape_cmp s t
same_row_order s t text begin p q =
    let ends = nat_cmp (begin + s.length) (begin + t.length) in
    let labels = slice_cmp nat_cmp (moved begin s.labels) (moved begin t.labels) in
    ap (λ o. ordering_then (ordering_then o (ordering_then (nat_cmp begin begin) ends)) labels) (nat_same text text refl)
    ∙ ap (λ o. ordering_then (ordering_then o ends) labels) (nat_same begin begin refl)
    ∙ ap (λ o. ordering_then o labels) (shifted begin s.length t.length)
    ∙ ap (ordering_then (nat_cmp s.length t.length)) (same_label_order begin s.labels t.labels p q)
