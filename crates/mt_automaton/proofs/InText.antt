-- The rows of a text, one begin after another.
use Rattle.std.proofs.Common.{◌≡◌, ℕ, ◌+◌, ◌/◌, ◌<◌, ◌≤◌, List, [], ◌∷◌, ◌++◌, length, refl, sym, ◌∙◌, ap, subst, inl, inr, arith, Result, Ok, Err, OnErr}
use Rattle.std.specs.declared.cmp.Ordering.{Ordering}
use Rattle.std.specs.declared.cmp.Ordering.TheVariants.{Less, Equal}
use Rattle.std.specs.Ordering.{nat_cmp, ordering_then}
use Rattle.std.specs.Cmp.{nat_cmp_is}
use Rattle.std.specs.Cmp.Lexicographic.{slice_cmp}
use Rattle.std.specs.List.{AllByRecursion, Contains}
use Rattle.std.specs.List.Sorted.{IsStrictlySortedBy}
use Rattle.std.proofs.lemmas.Bool.{cases_lt}
use Rattle.std.proofs.lemmas.List.{length-append, append-nil, append_assoc}
use Rattle.std.proofs.lemmas.List.Elements.{Contains-append_left, Contains-append_right, Contains-append_cases}
use Rattle.mt_text_spec.specs.Texts.{Row}
use Rattle.mt_text_spec.specs.Queries as q
use Rattle.mt_text_spec.specs.Orders.{row_cmp}
use Rattle.mt_match_spec.specs.Matches as m
use Rattle.mt_match_spec.specs.Rows.{ListsAll}
use Rattle.mt_places.specs.Places.{In, HasJust}
use Rattle.mt_rows.specs.Appends.{Appends, HasMore, Begins}
use Rattle.mt_automaton.specs.declared.labelled.Labelled.{Labelled}
use Rattle.mt_automaton.specs.Parts.{Seen}
use Rattle.mt_automaton.specs.LabelledParts.{labelled_meant, MatchesSomehow}
use Rattle.mt_automaton.specs.Ways.{Image}
use Rattle.mt_automaton.specs.RowsFrom.{IsRowFrom, IsRowOfText, BeginsBelow, HasLonger}
use Rattle.mt_automaton.proofs.Listed.{there, nothing_sorted, in_none}

-- ## Two lists, one behind the other

all_append : {X : Type 0} (P : X → Type 0) (xs ys : List X) → AllByRecursion P xs → ((y : X) → Contains ys y → P y) → AllByRecursion P (xs ++ ys)
all_append P [] [] all h = tt
all_append P [] (y ∷ ys) all h = (h y (0, omega arith, refl), all_append P [] ys tt (λ z c. h z (there y ys z c)))
all_append P (x ∷ xs) ys all h = (all.0, all_append P xs ys all.1 h)

sorted_append : {X : Type 0} (order : X → X → Ordering) (xs ys : List X) → IsStrictlySortedBy order xs → IsStrictlySortedBy order ys → ((x y : X) → Contains xs x → Contains ys y → order x y ≡ Less) → IsStrictlySortedBy order (xs ++ ys)
unfolding IsStrictlySortedBy
sorted_append order [] ys s r h = r
sorted_append order (x ∷ xs) ys s r h =
    (all_append (λ z. order x z ≡ Less) xs ys s.0 (λ y c. h x y (0, omega arith, refl) c), sorted_append order xs ys s.1 r (λ z y c d. h z y (there x xs z c) d))

-- ## Rows of one text are ordered by their begins

begins_before : (r s : Row) → r.span.text ≡ s.span.text → r.span.begin < s.span.begin → row_cmp r s ≡ Less
begins_before r s e h =
    let rest = slice_cmp nat_cmp r.labels s.labels in
    let ends = nat_cmp r.span.end s.span.end in
    let texts : nat_cmp r.span.text s.span.text ≡ Equal = sym (nat_cmp_is r.span.text s.span.text Equal e) in
    ap (λ o. ordering_then (ordering_then o (ordering_then (nat_cmp r.span.begin s.span.begin) ends)) rest) texts
    ∙ ap (λ o. ordering_then (ordering_then o ends) rest) (sym (nat_cmp_is r.span.begin s.span.begin Less h))

-- ## The rows of the begins so far

pub no_begins : (s : m.Sight) (expr : q.Expr) (text room : ℕ) (old : List Row) → Appends (BeginsBelow s expr text 0) room old old
no_begins s expr text room old = record {
  rows = [];
  are = record { ascending = nothing_sorted row_cmp; only = λ x h. absurd (in_none x h); each = λ x p. absurd (omega (arith, p.below)) };
  within = omega arith;
  appended = sym (append-nil old);
}

of_text : (s : m.Sight) (expr : q.Expr) (text at : ℕ) (row : Row) → IsRowFrom s expr text at row → IsRowOfText s expr text row
of_text s expr text at row r = record {
  text_is = r.text_is;
  some = omega (arith, r.some, r.begin_is);
  inside = r.inside;
  matches = subst (λ b. m.Matches s expr b row.span.end row.labels) (sym r.begin_is) r.matches;
}

of_begin : (s : m.Sight) (expr : q.Expr) (text at : ℕ) (row : Row) → row.span.begin ≡ at → IsRowOfText s expr text row → IsRowFrom s expr text at row
of_begin s expr text at row e r = record {
  text_is = r.text_is;
  begin_is = e;
  some = omega (arith, r.some, e);
  inside = r.inside;
  matches = subst (λ b. m.Matches s expr b row.span.end row.labels) e r.matches;
}

-- the rows of the next begin come behind those so far
behind : (s : m.Sight) (expr : q.Expr) (text from at : ℕ) (rows more : List Row) → from ≤ at → ListsAll row_cmp (BeginsBelow s expr text from) rows → ListsAll row_cmp (IsRowFrom s expr text at) more
    → IsStrictlySortedBy row_cmp (rows ++ more)
behind s expr text from at rows more low a b = sorted_append row_cmp rows more a.ascending b.ascending (λ x y c d.
    let p = a.only x c in
    let r = b.only y d in
    begins_before x y (p.is.text_is ∙ sym r.text_is) (omega (arith, p.below, r.begin_is, low)))

pub next_begin : (s : m.Sight) (expr : q.Expr) (text room left from at : ℕ) (old mid new : List Row) → from ≤ at → ((row : Row) → IsRowOfText s expr text row → from ≤ row.span.begin → row.span.begin < at → ⊥)
    → length mid + left ≡ length old + room → Appends (BeginsBelow s expr text from) room old mid → Appends (IsRowFrom s expr text at) left mid new → Appends (BeginsBelow s expr text (at + 1)) room old new
next_begin s expr text room left from at old mid new low gap count a b =
    let many : length mid ≡ length old + length a.rows = ap length a.appended ∙ length-append old a.rows in
    let longer : length (a.rows ++ b.rows) ≡ length a.rows + length b.rows = length-append a.rows b.rows in
    record {
      rows = a.rows ++ b.rows;
      are = record {
        ascending = behind s expr text from at a.rows b.rows low a.are b.are;
        only = λ x c. elim (Contains-append_cases a.rows b.rows x c) [
          | inl was ↦ let p = a.are.only x was in record { is = p.is; below = omega (arith, p.below, low) }
          | inr now ↦ let r = b.are.only x now in record { is = of_text s expr text at x r; below = omega (arith, r.begin_is) }
        ];
        each = λ x p. elim (cases_lt x.span.begin from) [
          | inl before ↦ Contains-append_left a.rows b.rows x (a.are.each x (record { is = p.is; below = before }))
          | inr on ↦ elim (cases_lt x.span.begin at) [
            | inl skipped ↦ absurd (gap x p.is on skipped)
            | inr here ↦ Contains-append_right a.rows b.rows x (b.are.each x (of_begin s expr text at x (omega (arith, here, p.below)) p.is))
          ]
        ];
      };
      within = omega (arith, longer, many, count, b.within);
      appended = b.appended ∙ ap (λ (k : List Row). k ++ b.rows) a.appended ∙ append_assoc old a.rows b.rows;
    }

-- what was appended, by the lengths
pub appended_count : (P : Row → Type 0) (room : ℕ) (old new : List Row) → Appends P room old new → length old ≤ length new
appended_count P room old new a = let many : length new ≡ length old + length a.rows = ap length a.appended ∙ length-append old a.rows in omega (arith, many)

pub appended_within : (P : Row → Type 0) (room : ℕ) (old new : List Row) → Appends P room old new → length new ≤ length old + room
appended_within P room old new a = let many : length new ≡ length old + length a.rows = ap length a.appended ∙ length-append old a.rows in omega (arith, many, a.within)

-- no begin is left
pub all_begins : (s : m.Sight) (expr : q.Expr) (text room from : ℕ) (old new : List Row) → ((row : Row) → IsRowOfText s expr text row → from ≤ row.span.begin → ⊥) → Appends (BeginsBelow s expr text from) room old new
    → Appends (IsRowOfText s expr text) room old new
all_begins s expr text room from old new none a = record {
  rows = a.rows;
  are = record {
    ascending = a.are.ascending;
    only = λ x c. (a.are.only x c).is;
    each = λ x p. elim (cases_lt x.span.begin from) [ inl before ↦ a.are.each x (record { is = p; below = before }) | inr on ↦ absurd (none x p on) ];
  };
  within = a.within;
  appended = a.appended;
}

-- there are more rows at the next begin than there is room left
pub longer_than_room : (s : m.Sight) (expr : q.Expr) (text room left from at : ℕ) (old mid : List Row) → from ≤ at → length mid + left ≡ length old + room → Appends (BeginsBelow s expr text from) room old mid
    → HasMore (IsRowFrom s expr text at) left → HasLonger (IsRowOfText s expr text) room
longer_than_room s expr text room left from at old mid low count a h =
    let many : length mid ≡ length old + length a.rows = ap length a.appended ∙ length-append old a.rows in
    let longer : length (a.rows ++ h.rows) ≡ length a.rows + length h.rows = length-append a.rows h.rows in
    record {
      rows = a.rows ++ h.rows;
      ascending = behind s expr text from at a.rows h.rows low a.are h.are;
      only = λ x c. elim (Contains-append_cases a.rows h.rows x c) [ inl was ↦ (a.are.only x was).is | inr now ↦ of_text s expr text at x (h.are.only x now) ];
      more = omega (arith, longer, many, count, h.more);
    }

pub begins_on : (P : Row → Type 0) (room : ℕ) (old mid new : List Row) → Appends P room old mid → Begins mid new → Begins old new
begins_on P room old mid new a b = record { rest = a.rows ++ b.rest; appended = b.appended ∙ ap (λ (k : List Row). k ++ b.rest) a.appended ∙ append_assoc old a.rows b.rest }

pub on_err_known : {T E : Type 0} (r : Result T E) (K : Type 0) → K → OnErr r K
on_err_known (Ok x) K k = tt
on_err_known (Err e) K k = k

-- ## The begins

pub are_all_begins : (v : Seen) (part : Labelled) (last : ℕ) (all found kept : List ℕ) → last ≡ v.text.tokens → length all ≡ last / 64 + 1 → HasJust (λ k. k < last + 1) all
    → Image (λ end begin. MatchesSomehow v part begin end) all found → HasJust (λ k. In found k × (k < last)) kept → length kept ≡ length found
    → (text : ℕ) (row : Row) → IsRowOfText v.text (labelled_meant v part) text row → In kept row.span.begin
are_all_begins v part last all found kept e wide full i just same text row r =
    let end_in : In all row.span.end = full.complete row.span.end (omega (arith, r.inside, e)) (omega (arith, r.inside, e, wide)) in
    let begin_in : In found row.span.begin = i.complete row.span.end row.span.begin end_in (row.labels, r.matches) (omega (arith, r.some, r.inside, e, wide)) in
    just.complete row.span.begin (begin_in, omega (arith, r.some, r.inside, e)) (omega (arith, r.some, r.inside, e, wide, i.width, same))

-- ## The same rows by another expression

pub row_from_same : (s : m.Sight) (one other : q.Expr) (text at : ℕ) → ((b f : ℕ) (l : List ℕ) → m.Matches s one b f l → m.Matches s other b f l) → (row : Row) → IsRowFrom s one text at row → IsRowFrom s other text at row
row_from_same s one other text at to row r = record { text_is = r.text_is; begin_is = r.begin_is; some = r.some; inside = r.inside; matches = to at row.span.end row.labels r.matches }

pub row_same : (s : m.Sight) (one other : q.Expr) (text : ℕ) → ((b f : ℕ) (l : List ℕ) → m.Matches s one b f l → m.Matches s other b f l) → (row : Row) → IsRowOfText s one text row → IsRowOfText s other text row
row_same s one other text to row r = record { text_is = r.text_is; some = r.some; inside = r.inside; matches = to row.span.begin row.span.end row.labels r.matches }

pub longer_renamed : (P Q : Row → Type 0) (room : ℕ) → ((row : Row) → P row → Q row) → HasLonger P room → HasLonger Q room
longer_renamed P Q room to h = record { rows = h.rows; ascending = h.ascending; only = λ x c. to x (h.only x c); more = h.more }

-- no row begins at the end of a text
pub no_row_past : (s : m.Sight) (expr : q.Expr) (text at room : ℕ) (old : List Row) → s.tokens ≤ at → Appends (IsRowFrom s expr text at) room old old
no_row_past s expr text at room old past = record {
  rows = [];
  are = record { ascending = nothing_sorted row_cmp; only = λ x h. absurd (in_none x h); each = λ x r. absurd (omega (arith, r.some, r.inside, past)) };
  within = omega arith;
  appended = sym (append-nil old);
}
