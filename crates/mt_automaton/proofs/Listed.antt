-- Lists of rows: one row behind the others, and lists one behind the other.
use Rattle.std.proofs.Common.{◌≡◌, ℕ, zero, suc, ◌+◌, ◌*◌, ◌<◌, ◌≤◌, List, [], ◌∷◌, ◌++◌, length, refl, sym, ◌∙◌, ap, subst, inl, inr, arith, take, get_or}
use Rattle.std.specs.declared.cmp.Ordering.{Ordering}
use Rattle.std.specs.declared.cmp.Ordering.TheVariants.{Less, Equal}
use Rattle.std.specs.Ordering.{nat_cmp, ordering_then}
use Rattle.std.specs.Cmp.{nat_cmp_is}
use Rattle.std.specs.Cmp.Lexicographic.{slice_cmp}
use Rattle.std.specs.List.{AllByRecursion, Contains}
use Rattle.std.specs.List.Sorted.{IsStrictlySortedBy}
use Rattle.std.proofs.lemmas.Bool.{cases_eq, cases_lt}
use Rattle.std.proofs.lemmas.List.{length-append, append-nil, append_assoc}
use Rattle.std.proofs.Math.Seq.{take-suc}
use Rattle.std.proofs.lemmas.List.Elements.{Contains-append_left, Contains-append_right, Contains-append_cases}
use Rattle.mt_text_spec.specs.Texts.{Row, Span}
use Rattle.mt_text_spec.specs.Orders.{row_cmp}
use Rattle.mt_match_spec.specs.Rows.{ListsAll}
use Rattle.mt_places.specs.Places.{In, bit}
use Rattle.mt_rows.specs.Appends.{Appends, HasMore, Begins}
use Rattle.mt_automaton.proofs.Bits.{in_room}
use Rattle.mt_automaton.specs.RowsFrom.{EndsIn, EndsBelow, Gathers}

-- ## Lists

one_more : {X : Type 0} (P : X → Type 0) (xs : List X) (y : X) → AllByRecursion P xs → P y → AllByRecursion P (xs ++ y ∷ [])
one_more P [] y all last = (last, tt)
one_more P (x ∷ xs) y all last = (all.0, one_more P xs y all.1 last)

pub there : {X : Type 0} (x : X) (xs : List X) (y : X) → Contains xs y → Contains (x ∷ xs) y
there x xs y h = (suc h.0, omega (arith, h.1), h.2)

sorted_push : {X : Type 0} (order : X → X → Ordering) (xs : List X) (y : X) → IsStrictlySortedBy order xs → ((x : X) → Contains xs x → order x y ≡ Less) → IsStrictlySortedBy order (xs ++ y ∷ [])
unfolding IsStrictlySortedBy
sorted_push order [] y s h = (tt, tt)
sorted_push order (x ∷ xs) y s h = (one_more (λ z. order x z ≡ Less) xs y s.0 (h x (0, omega arith, refl)), sorted_push order xs y s.1 (λ z l. h z (there x xs z l)))

pub nothing_sorted : {X : Type 0} (order : X → X → Ordering) → IsStrictlySortedBy order []
unfolding IsStrictlySortedBy
nothing_sorted order = tt

in_one : {X : Type 0} (y x : X) → Contains (y ∷ []) x → x ≡ y
in_one y x (zero, l, e) = sym e
in_one y x (suc k, l, e) = absurd (omega (arith, l))

pub in_none : {X : Type 0} (x : X) → Contains [] x → ⊥
in_none x h = omega (arith, h.1)

-- ## Rows of one begin are ordered by their ends

same_number : (n : ℕ) → nat_cmp n n ≡ Equal
same_number n = sym (nat_cmp_is n n Equal refl)

lower_number : (m n : ℕ) → m < n → nat_cmp m n ≡ Less
lower_number m n h = sym (nat_cmp_is m n Less h)

ends_before : (text begin e f : ℕ) (k l : List ℕ) → e < f → row_cmp (record { span = record { text = text; begin = begin; end = e }; labels = k }) (record { span = record { text = text; begin = begin; end = f }; labels = l }) ≡ Less
ends_before text begin e f k l h =
    let rest = slice_cmp nat_cmp k l in
    ap (λ o. ordering_then (ordering_then o (ordering_then (nat_cmp begin begin) (nat_cmp e f))) rest) (same_number text)
    ∙ ap (λ o. ordering_then (ordering_then o (nat_cmp e f)) rest) (same_number begin) ∙ ap (λ o. ordering_then o rest) (lower_number e f h)

pub rows_before : (text begin : ℕ) (r s : Row) → r.span.text ≡ text → r.span.begin ≡ begin → s.span.text ≡ text → s.span.begin ≡ begin → r.span.end < s.span.end → row_cmp r s ≡ Less
rows_before text begin r s a b c d h =
    let first : r ≡ (record { span = record { text = text; begin = begin; end = r.span.end }; labels = r.labels }) = λ i. record { span = record { text = a i; begin = b i; end = r.span.end }; labels = r.labels } in
    let second : s ≡ (record { span = record { text = text; begin = begin; end = s.span.end }; labels = s.labels }) = λ i. record { span = record { text = c i; begin = d i; end = s.span.end }; labels = s.labels } in
    ap (λ x. row_cmp x s) first ∙ ap (row_cmp (record { span = record { text = text; begin = begin; end = r.span.end }; labels = r.labels })) second
    ∙ ends_before text begin r.span.end s.span.end r.labels s.labels h

-- ## The rows of a set, one end after another

abbrev pub Below : (set labels : List ℕ) (text begin n : ℕ) (rows : List Row) → Type 0
Below set labels text begin n rows = ListsAll row_cmp (EndsBelow set labels text begin n) rows

pub none_below : (set labels : List ℕ) (text begin : ℕ) → Below set labels text begin (begin + 1) []
none_below set labels text begin = record {
  ascending = nothing_sorted row_cmp;
  only = λ x h. absurd (in_none x h);
  each = λ x p. absurd (omega (arith, p.below, p.ends.some));
}

-- the next end
pub next_below : (set labels : List ℕ) (text begin from at : ℕ) (rows : List Row) → from ≤ at → begin < from → In set at → ((k : ℕ) → from ≤ k → k < at → In set k → ⊥) → Below set labels text begin from rows
    → Below set labels text begin (at + 1) (rows ++ (record { span = record { text = text; begin = begin; end = at }; labels = labels }) ∷ [])
next_below set labels text begin from at rows low some is gap h =
    let row : Row = record { span = record { text = text; begin = begin; end = at }; labels = labels } in
    record {
      ascending = sorted_push row_cmp rows (record { span = record { text = text; begin = begin; end = at }; labels = labels }) h.ascending
          (λ x c. let p = h.only x c in rows_before text begin x (record { span = record { text = text; begin = begin; end = at }; labels = labels }) p.ends.text_is p.ends.begin_is refl refl (omega (arith, p.below, low)));
      only = λ x c. elim (Contains-append_cases rows ((record { span = record { text = text; begin = begin; end = at }; labels = labels }) ∷ []) x c) [
        | inl was ↦ let p = h.only x was in record { ends = p.ends; below = omega (arith, p.below, low) }
        | inr last ↦
            let e : x ≡ (record { span = record { text = text; begin = begin; end = at }; labels = labels }) = in_one (record { span = record { text = text; begin = begin; end = at }; labels = labels }) x last in
            subst (EndsBelow set labels text begin (at + 1)) (sym e)
            (record { ends = record { text_is = refl; begin_is = refl; labels_are = refl; some = omega (arith, low, some); is_in = is }; below = omega arith })
      ];
      each = λ x p. elim (cases_lt x.span.end from) [
        | inl before ↦ Contains-append_left rows ((record { span = record { text = text; begin = begin; end = at }; labels = labels }) ∷ []) x (h.each x (record { ends = p.ends; below = before }))
        | inr on ↦ elim (cases_eq x.span.end at) [
          | inl here ↦
              let e : (record { span = record { text = text; begin = begin; end = at }; labels = labels }) ≡ x =
              λ i. record { span = record { text = sym p.ends.text_is i; begin = sym p.ends.begin_is i; end = sym here i }; labels = sym p.ends.labels_are i } in
              Contains-append_right rows ((record { span = record { text = text; begin = begin; end = at }; labels = labels }) ∷ []) x (0, omega arith, e)
          | inr other ↦ absurd (gap x.span.end on (omega (arith, p.below, other)) p.ends.is_in)
        ]
      ];
    }

-- no end is left
pub all_below : (set labels : List ℕ) (text begin from : ℕ) (rows : List Row) → ((k : ℕ) → from ≤ k → In set k → ⊥) → Below set labels text begin from rows → ListsAll row_cmp (EndsIn set labels text begin) rows
all_below set labels text begin from rows none h = record {
  ascending = h.ascending;
  only = λ x c. (h.only x c).ends;
  each = λ x p. elim (cases_lt x.span.end from) [ inl before ↦ h.each x (record { ends = p; below = before }) | inr on ↦ absurd (none x.span.end on p.is_in) ];
}

-- a list of all rows of the set, that has the rows so far before others
pub record Whole (set labels : List ℕ) (text begin : ℕ) (rows : List Row) : Type 0 where
  pub all : List Row
  pub are : ListsAll row_cmp (EndsIn set labels text begin) all
  pub more : length rows ≤ length all

pub whole : (set labels : List ℕ) (text begin from n : ℕ) (rows : List Row) → begin < from → 64 * length set ≤ from + n → Below set labels text begin from rows → Whole set labels text begin rows
whole set labels text begin from zero rows some far h = record {
  all = rows;
  are = all_below set labels text begin from rows (λ k on is. let lt = in_room set k is in omega (arith, lt, on, far)) h;
  more = omega arith;
}
whole set labels text begin from (suc n) rows some far h = elim (cases_eq (bit set from) 1) [
  | inl is ↦
      let w = whole set labels text begin (from + 1) n (rows ++ (record { span = record { text = text; begin = begin; end = from }; labels = labels }) ∷ []) (omega (arith, some)) (omega (arith, far))
      (next_below set labels text begin from from rows (omega arith) some is (λ k a b c. omega (arith, a, b)) h) in
      let longer : length (rows ++ (record { span = record { text = text; begin = begin; end = from }; labels = labels }) ∷ []) ≡ length rows + 1 =
      length-append rows ((record { span = record { text = text; begin = begin; end = from }; labels = labels }) ∷ []) in
      record { all = w.all; are = w.are; more = omega (arith, w.more, longer) }
  | inr other ↦ whole set labels text begin (from + 1) n rows (omega (arith, some)) (omega (arith, far)) (record {
    ascending = h.ascending;
    only = λ x c. let p = h.only x c in record { ends = p.ends; below = omega (arith, p.below) };
    each = λ x p. h.each x (record { ends = p.ends; below = elim (cases_eq x.span.end from) [ inl same ↦ absurd (other (subst (In set) same p.ends.is_in)) | inr apart ↦ omega (arith, p.below, apart) ] });
  })
]

-- ## Rows behind others

pub push_none : (set labels : List ℕ) (text begin room : ℕ) (old : List Row) → Appends (EndsBelow set labels text begin (begin + 1)) room old old
push_none set labels text begin room old = record { rows = []; are = none_below set labels text begin; within = omega arith; appended = sym (append-nil old) }

pub push_next : (set labels : List ℕ) (text begin room left from at : ℕ) (old mid new : List Row) → from ≤ at → begin < from → In set at → ((k : ℕ) → from ≤ k → k < at → In set k → ⊥)
    → length mid + left ≡ length old + room → 0 < left → new ≡ mid ++ (record { span = record { text = text; begin = begin; end = at }; labels = labels }) ∷ [] → Appends (EndsBelow set labels text begin from) room old mid
    → Appends (EndsBelow set labels text begin (at + 1)) room old new
push_next set labels text begin room left from at old mid new low some is gap count free e a =
    let many : length mid ≡ length old + length a.rows = ap length a.appended ∙ length-append old a.rows in
    let longer : length (a.rows ++ (record { span = record { text = text; begin = begin; end = at }; labels = labels }) ∷ []) ≡ length a.rows + 1 =
    length-append a.rows ((record { span = record { text = text; begin = begin; end = at }; labels = labels }) ∷ []) in
    record {
      rows = a.rows ++ (record { span = record { text = text; begin = begin; end = at }; labels = labels }) ∷ [];
      are = next_below set labels text begin from at a.rows low some is gap a.are;
      within = omega (arith, longer, many, count, free);
      appended = e ∙ ap (λ (s : List Row). s ++ (record { span = record { text = text; begin = begin; end = at }; labels = labels }) ∷ []) a.appended
          ∙ append_assoc old a.rows ((record { span = record { text = text; begin = begin; end = at }; labels = labels }) ∷ []);
    }

pub push_more : (set labels : List ℕ) (text begin room left from at : ℕ) (old mid : List Row) → from ≤ at → begin < from → In set at → ((k : ℕ) → from ≤ k → k < at → In set k → ⊥) → length mid + left ≡ length old + room
    → left ≡ 0 → Appends (EndsBelow set labels text begin from) room old mid → HasMore (EndsIn set labels text begin) room
push_more set labels text begin room left from at old mid low some is gap count full a =
    let many : length mid ≡ length old + length a.rows = ap length a.appended ∙ length-append old a.rows in
    let longer : length (a.rows ++ (record { span = record { text = text; begin = begin; end = at }; labels = labels }) ∷ []) ≡ length a.rows + 1 =
    length-append a.rows ((record { span = record { text = text; begin = begin; end = at }; labels = labels }) ∷ []) in
    let w = whole set labels text begin (at + 1) (64 * length set) (a.rows ++ (record { span = record { text = text; begin = begin; end = at }; labels = labels }) ∷ []) (omega (arith, low, some)) (omega arith)
    (next_below set labels text begin from at a.rows low some is gap a.are) in
    record { rows = w.all; are = w.are; more = omega (arith, w.more, longer, many, count, full) }

pub push_all : (set labels : List ℕ) (text begin room from : ℕ) (old new : List Row) → ((k : ℕ) → from ≤ k → In set k → ⊥) → Appends (EndsBelow set labels text begin from) room old new
    → Appends (EndsIn set labels text begin) room old new
push_all set labels text begin room from old new none a = record { rows = a.rows; are = all_below set labels text begin from a.rows none a.are; within = a.within; appended = a.appended }

pub begins : (P : Row → Type 0) (room : ℕ) (old new : List Row) → Appends P room old new → Begins old new
begins P room old new a = record { rest = a.rows; appended = a.appended }

-- ## Rows of a group

pub gather_none : (set labels : List ℕ) (text begin : ℕ) (old : List Row) → Gathers (EndsBelow set labels text begin (begin + 1)) old old
gather_none set labels text begin old = record { rows = []; are = none_below set labels text begin; appended = sym (append-nil old) }

pub gather_next : (set labels : List ℕ) (text begin from at : ℕ) (old mid new : List Row) → from ≤ at → begin < from → In set at → ((k : ℕ) → from ≤ k → k < at → In set k → ⊥)
    → new ≡ mid ++ (record { span = record { text = text; begin = begin; end = at }; labels = labels }) ∷ [] → Gathers (EndsBelow set labels text begin from) old mid → Gathers (EndsBelow set labels text begin (at + 1)) old new
gather_next set labels text begin from at old mid new low some is gap e a = record {
  rows = a.rows ++ (record { span = record { text = text; begin = begin; end = at }; labels = labels }) ∷ [];
  are = next_below set labels text begin from at a.rows low some is gap a.are;
  appended = e ∙ ap (λ (s : List Row). s ++ (record { span = record { text = text; begin = begin; end = at }; labels = labels }) ∷ []) a.appended
      ∙ append_assoc old a.rows ((record { span = record { text = text; begin = begin; end = at }; labels = labels }) ∷ []);
}

pub gather_all : (set labels : List ℕ) (text begin from : ℕ) (old new : List Row) → ((k : ℕ) → from ≤ k → In set k → ⊥) → Gathers (EndsBelow set labels text begin from) old new → Gathers (EndsIn set labels text begin) old new
gather_all set labels text begin from old new none a = record { rows = a.rows; are = all_below set labels text begin from a.rows none a.are; appended = a.appended }

pub row_pushed : (text begin at : ℕ) (labels : List ℕ) (span : Span) (row : Row) (mid new : List Row) → span ≡ (record { text = text; begin = begin; end = at }) → row ≡ (record { span = span; labels = labels }) → new ≡ mid ++ row ∷ []
    → new ≡ mid ++ (record { span = record { text = text; begin = begin; end = at }; labels = labels }) ∷ []
row_pushed text begin at labels span row mid new a b e =
    e ∙ ap (λ (r : Row). mid ++ r ∷ []) b ∙ ap (λ (s : Span). mid ++ (record { span = s; labels = labels }) ∷ []) a

pub one_longer : (mid new : List Row) (row : Row) → new ≡ mid ++ row ∷ [] → length new ≡ length mid + 1
one_longer mid new row e = ap length e ∙ length-append mid (row ∷ [])

pub take_next : (rows : List Row) (k : ℕ) (row : Row) (old mid new : List Row) → k < length rows → row ≡ get_or rows k row → mid ≡ old ++ take k rows → new ≡ mid ++ row ∷ [] → new ≡ old ++ take (k + 1) rows
take_next rows k row old mid new within is e d =
    let one : k + 1 ≡ suc k = omega arith in
    let more : take (k + 1) rows ≡ take k rows ++ row ∷ [] = ap (λ n. take n rows) one ∙ take-suc rows k row within ∙ ap (λ (r : Row). take k rows ++ r ∷ []) (sym is) in
    d ∙ ap (λ (s : List Row). s ++ row ∷ []) e ∙ append_assoc old (take k rows) (row ∷ []) ∙ ap (λ (s : List Row). old ++ s) (sym more)
