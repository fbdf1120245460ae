-- The rows of a table, one entry and one begin after another.
use Rattle.std.proofs.Common.{◌≡◌, ℕ, zero, suc, ◌+◌, ◌<◌, ◌≤◌, List, [], ◌∷◌, ◌++◌, length, refl, sym, ◌∙◌, ap, subst, inl, inr, arith, Result, Ok, Err, OnErr, Option, None, Some}
use Rattle.std.specs.Prelude.{IfOk, IfSome}
use Rattle.std.specs.declared.cmp.Ordering.{Ordering}
use Rattle.std.specs.declared.cmp.Ordering.TheVariants.{Less, Equal}
use Rattle.std.specs.Ordering.{nat_cmp, ordering_then}
use Rattle.std.specs.Cmp.{nat_cmp_is}
use Rattle.std.specs.Cmp.Lexicographic.{slice_cmp}
use Rattle.std.specs.List.{AllByRecursion, Contains}
use Rattle.std.specs.List.Sorted.{IsStrictlySortedBy}
use Rattle.std.proofs.lemmas.Bool.{cases_lt, cases_eq}
use Rattle.std.proofs.lemmas.List.{length-append, append-nil, append_assoc}
use Rattle.std.proofs.lemmas.List.Elements.{Contains-append_left, Contains-append_right, Contains-append_cases}
use Rattle.mt_text_spec.specs.Texts.{Row, unset}
use Rattle.mt_text_spec.specs.Queries as q
use Rattle.mt_text_spec.specs.Orders.{row_cmp}
use Rattle.mt_match_spec.specs.Matches as m
use Rattle.mt_match_spec.specs.Rows.{ListsAll}
use Rattle.mt_places.specs.Places.{In}
use Rattle.mt_rows.specs.Appends.{Appends, Begins}
use Rattle.mt_automaton.specs.Windows.{moved, FitsBehind}
use Rattle.mt_automaton.specs.RowsFrom.{IsRowOfText, HasLonger}
use Rattle.mt_shapes.specs.declared.table.Entry.{Entry}
use Rattle.mt_shapes.specs.Shapes.{row_of}
use Rattle.mt_shapes.specs.Tables.{entry, Fine, Adds, Inside, IsRowBelow, IsRowOf, TellsRows, BeginsBelow}
use Rattle.mt_shapes.proofs.Labels.{all_fit, same_row_order}
use Rattle.mt_shapes.proofs.Meant.{only_of}

-- ## Lists

there : {X : Type 0} (x : X) (xs : List X) (y : X) → Contains xs y → Contains (x ∷ xs) y
there x xs y h = (suc h.0, omega (arith, h.1), h.2)

all_append : {X : Type 0} (P : X → Type 0) (xs ys : List X) → AllByRecursion P xs → ((y : X) → Contains ys y → P y) → AllByRecursion P (xs ++ ys)
all_append P [] [] all h = tt
all_append P [] (y ∷ ys) all h = (h y (0, omega arith, refl), all_append P [] ys tt (λ z c. h z (there y ys z c)))
all_append P (x ∷ xs) ys all h = (all.0, all_append P xs ys all.1 h)

pub sorted_append : {X : Type 0} (order : X → X → Ordering) (xs ys : List X) → IsStrictlySortedBy order xs → IsStrictlySortedBy order ys → ((x y : X) → Contains xs x → Contains ys y → order x y ≡ Less) → IsStrictlySortedBy order (xs ++ ys)
unfolding IsStrictlySortedBy
sorted_append order [] ys s r h = r
sorted_append order (x ∷ xs) ys s r h =
    (all_append (λ z. order x z ≡ Less) xs ys s.0 (λ y c. h x y (0, omega arith, refl) c), sorted_append order xs ys s.1 r (λ z y c d. h z y (there x xs z c) d))

nothing_sorted : {X : Type 0} (order : X → X → Ordering) → IsStrictlySortedBy order []
unfolding IsStrictlySortedBy
nothing_sorted order = tt

pub one_sorted : {X : Type 0} (order : X → X → Ordering) (x : X) → IsStrictlySortedBy order (x ∷ [])
unfolding IsStrictlySortedBy
one_sorted order x = (tt, tt)

pub in_one : {X : Type 0} (y x : X) → Contains (y ∷ []) x → x ≡ y
in_one y x (zero, l, e) = sym e
in_one y x (suc k, l, e) = absurd (omega (arith, l))

in_none : {X : Type 0} (x : X) → Contains [] x → ⊥
in_none x h = omega (arith, h.1)

-- ## The rows of one begin, by the entries so far

abbrev pub RowsBelow : (entries : List Entry) (text begin n : ℕ) → Row → Type 0
RowsBelow entries text begin n = IsRowBelow entries text begin n

-- the row of an entry
is_row : (entries : List Entry) (text begin n : ℕ) (row : Row) → (r : IsRowBelow entries text begin n row) → row ≡ row_of (entry entries r.is.at).shape text begin
is_row entries text begin n row r =
    let end : row.span.end ≡ begin + (entry entries r.is.at).shape.length = r.is.is.end_is ∙ ap (λ b. b + (entry entries r.is.at).shape.length) r.begin_is in
    let labels : row.labels ≡ moved begin (entry entries r.is.at).shape.labels = r.is.is.labels_are ∙ ap (λ b. moved b (entry entries r.is.at).shape.labels) r.begin_is in
    λ i. record { span = record { text = r.text_is i; begin = r.begin_is i; end = end i }; labels = labels i }

fits_from : (tokens : ℕ) (entries : List Entry) (i begin : ℕ) → tokens < unset → Fine tokens entries → i < length entries → In (entry entries i).begins begin → AllByRecursion (FitsBehind begin) (entry entries i).shape.labels
fits_from tokens entries i begin few fine low is =
    let s = fine.suits i low in
    let far = s.inside begin is in
    all_fit begin (entry entries i).shape.length (entry entries i).shape.labels (omega (arith, far, few)) s.labels

in_begins : (entries : List Entry) (text begin n : ℕ) (row : Row) → (r : IsRowBelow entries text begin n row) → In (entry entries r.is.at).begins begin
in_begins entries text begin n row r = subst (In (entry entries r.is.at).begins) r.begin_is r.is.is.is_in

row_before : (tokens : ℕ) (entries : List Entry) (text begin n : ℕ) (row : Row) → tokens < unset → Fine tokens entries → n < length entries → In (entry entries n).begins begin → IsRowBelow entries text begin n row
    → row_cmp row (row_of (entry entries n).shape text begin) ≡ Less
row_before tokens entries text begin n row few fine low is r =
    let before = r.is.below in
    let at_low : r.is.at < length entries = omega (arith, before, low) in
    ap (λ x. row_cmp x (row_of (entry entries n).shape text begin)) (is_row entries text begin n row r)
    ∙ same_row_order (entry entries r.is.at).shape (entry entries n).shape text begin (fits_from tokens entries r.is.at begin few fine at_low (in_begins entries text begin n row r)) (fits_from tokens entries n begin few fine low is)
    ∙ fine.ascending r.is.at n before low

pub no_rows : (entries : List Entry) (text begin room : ℕ) (old : List Row) → Appends (IsRowBelow entries text begin 0) room old old
no_rows entries text begin room old = record {
  rows = [];
  are = record { ascending = nothing_sorted row_cmp; only = λ x h. absurd (in_none x h); each = λ x p. let low = p.is.below in absurd (omega (arith, low)) };
  within = omega arith;
  appended = sym (append-nil old);
}

rows_behind : (tokens : ℕ) (entries : List Entry) (text begin n : ℕ) (rows : List Row) → tokens < unset → Fine tokens entries → n < length entries → In (entry entries n).begins begin → ListsAll row_cmp (IsRowBelow entries text begin n) rows
    → IsStrictlySortedBy row_cmp (rows ++ row_of (entry entries n).shape text begin ∷ [])
rows_behind tokens entries text begin n rows few fine low is a =
    sorted_append row_cmp rows (row_of (entry entries n).shape text begin ∷ []) a.ascending (one_sorted row_cmp (row_of (entry entries n).shape text begin))
    (λ x y c d. subst (λ z. row_cmp x z ≡ Less) (sym (in_one (row_of (entry entries n).shape text begin) y d)) (row_before tokens entries text begin n x few fine low is (a.only x c)))

row_here : (entries : List Entry) (text begin n : ℕ) → 0 < (entry entries n).shape.length → In (entry entries n).begins begin → IsRowBelow entries text begin (n + 1) (row_of (entry entries n).shape text begin)
row_here entries text begin n some is = record {
  text_is = refl;
  begin_is = refl;
  some = omega (arith, some);
  is = record { at = n; below = omega arith; is = record { is_in = is; end_is = refl; labels_are = refl } };
}

row_more : (entries : List Entry) (text begin n : ℕ) (row : Row) → IsRowBelow entries text begin n row → IsRowBelow entries text begin (n + 1) row
row_more entries text begin n row r = record { text_is = r.text_is; begin_is = r.begin_is; some = r.some; is = record { at = r.is.at; below = let low = r.is.below in omega (arith, low); is = r.is.is } }

row_less : (entries : List Entry) (text begin n : ℕ) (row : Row) → (r : IsRowBelow entries text begin (n + 1) row) → (r.is.at ≡ n → ⊥) → IsRowBelow entries text begin n row
row_less entries text begin n row r other = record { text_is = r.text_is; begin_is = r.begin_is; some = r.some; is = record { at = r.is.at; below = let low = r.is.below in omega (arith, low, other); is = r.is.is } }

pub next_row : (tokens : ℕ) (entries : List Entry) (text begin n room left : ℕ) (row : Row) (old mid new : List Row) → tokens < unset → Fine tokens entries → n < length entries → 0 < (entry entries n).shape.length
    → In (entry entries n).begins begin → length mid + left ≡ length old + room → 0 < left → row ≡ row_of (entry entries n).shape text begin → new ≡ mid ++ row ∷ [] → Appends (IsRowBelow entries text begin n) room old mid
    → Appends (IsRowBelow entries text begin (n + 1)) room old new
next_row tokens entries text begin n room left row old mid new few fine low some is count free same pushed a =
    let last = row_of (entry entries n).shape text begin in
    let many : length mid ≡ length old + length a.rows = ap length a.appended ∙ length-append old a.rows in
    let longer : length (a.rows ++ last ∷ []) ≡ length a.rows + 1 = length-append a.rows (last ∷ []) in
    record {
      rows = a.rows ++ last ∷ [];
      are = record {
        ascending = rows_behind tokens entries text begin n a.rows few fine low is a.are;
        only = λ x c. elim (Contains-append_cases a.rows (last ∷ []) x c) [
          | inl was ↦ row_more entries text begin n x (a.are.only x was)
          | inr now ↦ subst (IsRowBelow entries text begin (n + 1)) (sym (in_one last x now)) (row_here entries text begin n some is)
        ];
        each = λ x p. elim (cases_eq p.is.at n) [
          | inl here ↦
              let e : x ≡ last = is_row entries text begin (n + 1) x p ∙ ap (λ k. row_of (entry entries k).shape text begin) here in
              Contains-append_right a.rows (last ∷ []) x (0, omega arith, sym e)
          | inr other ↦ Contains-append_left a.rows (last ∷ []) x (a.are.each x (row_less entries text begin n x p other))
        ];
      };
      within = omega (arith, longer, many, count, free);
      appended = pushed ∙ ap (λ (k : Row). mid ++ k ∷ []) same ∙ ap (λ (k : List Row). k ++ last ∷ []) a.appended ∙ append_assoc old a.rows (last ∷ []);
    }

-- an entry without a row here
pub no_row : (entries : List Entry) (text begin n room : ℕ) (old mid : List Row) → (0 < (entry entries n).shape.length → In (entry entries n).begins begin → ⊥) → Appends (IsRowBelow entries text begin n) room old mid
    → Appends (IsRowBelow entries text begin (n + 1)) room old mid
no_row entries text begin n room old mid none a = record {
  rows = a.rows;
  are = record {
    ascending = a.are.ascending;
    only = λ x c. row_more entries text begin n x (a.are.only x c);
    each = λ x p. a.are.each x (row_less entries text begin n x p (λ here.
        let end = p.is.is.end_is in
        let some = p.some in
        let same : (entry entries p.is.at).shape.length ≡ (entry entries n).shape.length = ap (λ k. (entry entries k).shape.length) here in
        none (omega (arith, end, some, same)) (subst (λ k. In (entry entries k).begins begin) here (in_begins entries text begin (n + 1) x p))));
  };
  within = a.within;
  appended = a.appended;
}

pub too_many : (tokens : ℕ) (entries : List Entry) (text begin n room left : ℕ) (old mid : List Row) → tokens < unset → Fine tokens entries → n < length entries → 0 < (entry entries n).shape.length
    → In (entry entries n).begins begin → length mid + left ≡ length old + room → left ≡ 0 → Appends (IsRowBelow entries text begin n) room old mid → HasLonger (IsRowBelow entries text begin (length entries)) room
too_many tokens entries text begin n room left old mid few fine low some is count none a =
    let last = row_of (entry entries n).shape text begin in
    let many : length mid ≡ length old + length a.rows = ap length a.appended ∙ length-append old a.rows in
    let longer : length (a.rows ++ last ∷ []) ≡ length a.rows + 1 = length-append a.rows (last ∷ []) in
    let all = λ (x : Row) (r : IsRowBelow entries text begin (n + 1) x).
    let s : IsRowBelow entries text begin (length entries) x = record { text_is = r.text_is; begin_is = r.begin_is; some = r.some; is = record { at = r.is.at; below = let h = r.is.below in omega (arith, h, low); is = r.is.is } } in s in
    record {
      rows = a.rows ++ last ∷ [];
      ascending = rows_behind tokens entries text begin n a.rows few fine low is a.are;
      only = λ x c. elim (Contains-append_cases a.rows (last ∷ []) x c) [
        | inl was ↦ all x (row_more entries text begin n x (a.are.only x was))
        | inr now ↦ all x (subst (IsRowBelow entries text begin (n + 1)) (sym (in_one last x now)) (row_here entries text begin n some is))
      ];
      more = omega (arith, longer, many, count, none);
    }

pub one_longer : (mid new : List Row) (row : Row) → new ≡ mid ++ row ∷ [] → length new ≡ length mid + 1
one_longer mid new row e = ap length e ∙ length-append mid (row ∷ [])

pub row_fits : (tokens : ℕ) (entries : List Entry) (n begin : ℕ) (item : Entry) → tokens < unset → Fine tokens entries → n < length entries → item ≡ entry entries n → In item.begins begin
    → (begin + item.shape.length < unset) × AllByRecursion (FitsBehind begin) item.shape.labels
row_fits tokens entries n begin item few fine low is in_it =
    subst (λ (x : Entry). (begin + x.shape.length < unset) × AllByRecursion (FitsBehind begin) x.shape.labels) (sym is)
    (let here = subst (λ (x : Entry). In x.begins begin) is in_it in
    let far = (fine.suits n low).inside begin here in
    (omega (arith, far, few), fits_from tokens entries n begin few fine low here))

-- ## Rows of one text are ordered by their begins

pub begins_before : (r s : Row) → r.span.text ≡ s.span.text → r.span.begin < s.span.begin → row_cmp r s ≡ Less
begins_before r s e h =
    let rest = slice_cmp nat_cmp r.labels s.labels in
    let ends = nat_cmp r.span.end s.span.end in
    let texts : nat_cmp r.span.text s.span.text ≡ Equal = sym (nat_cmp_is r.span.text s.span.text Equal e) in
    ap (λ o. ordering_then (ordering_then o (ordering_then (nat_cmp r.span.begin s.span.begin) ends)) rest) texts
    ∙ ap (λ o. ordering_then (ordering_then o ends) rest) (sym (nat_cmp_is r.span.begin s.span.begin Less h))

-- ## The rows of the begins so far

pub no_begins : (entries : List Entry) (text room : ℕ) (old : List Row) → Appends (BeginsBelow entries text 0) room old old
no_begins entries text room old = record {
  rows = [];
  are = record { ascending = nothing_sorted row_cmp; only = λ x h. absurd (in_none x h); each = λ x p. let low = p.below in absurd (omega (arith, low)) };
  within = omega arith;
  appended = sym (append-nil old);
}

of_text : (entries : List Entry) (text at : ℕ) (row : Row) → IsRowBelow entries text at (length entries) row → IsRowOf entries text row
of_text entries text at row r = record { text_is = r.text_is; some = r.some; is = r.is }

of_begin : (entries : List Entry) (text at : ℕ) (row : Row) → row.span.begin ≡ at → IsRowOf entries text row → IsRowBelow entries text at (length entries) row
of_begin entries text at row e r = record { text_is = r.text_is; begin_is = e; some = r.some; is = r.is }

behind : (entries : List Entry) (text from at : ℕ) (rows more : List Row) → from ≤ at → ListsAll row_cmp (BeginsBelow entries text from) rows → ListsAll row_cmp (IsRowBelow entries text at (length entries)) more
    → ((x y : Row) → Contains rows x → Contains more y → row_cmp x y ≡ Less)
behind entries text from at rows more low a b x y c d =
    let p = a.only x c in
    let r = b.only y d in
    let before = p.below in
    let here = r.begin_is in
    begins_before x y (p.is.text_is ∙ sym r.text_is) (omega (arith, before, here, low))

pub next_begin : (entries : List Entry) (text room left from at : ℕ) (old mid new : List Row) → from ≤ at → ((row : Row) → IsRowOf entries text row → from ≤ row.span.begin → row.span.begin < at → ⊥)
    → length mid + left ≡ length old + room → Appends (BeginsBelow entries text from) room old mid → Appends (IsRowBelow entries text at (length entries)) left mid new → Appends (BeginsBelow entries text (at + 1)) room old new
next_begin entries text room left from at old mid new low gap count a b =
    let many : length mid ≡ length old + length a.rows = ap length a.appended ∙ length-append old a.rows in
    let longer : length (a.rows ++ b.rows) ≡ length a.rows + length b.rows = length-append a.rows b.rows in
    let fits = b.within in
    record {
      rows = a.rows ++ b.rows;
      are = record {
        ascending = sorted_append row_cmp a.rows b.rows a.are.ascending b.are.ascending (behind entries text from at a.rows b.rows low a.are b.are);
        only = λ x c. elim (Contains-append_cases a.rows b.rows x c) [
          | inl was ↦ let p = a.are.only x was in record { is = p.is; below = let h = p.below in omega (arith, h, low) }
          | inr now ↦ let r = b.are.only x now in record { is = of_text entries text at x r; below = let h = r.begin_is in omega (arith, h) }
        ];
        each = λ x p. elim (cases_lt x.span.begin from) [
          | inl before ↦ Contains-append_left a.rows b.rows x (a.are.each x (record { is = p.is; below = before }))
          | inr on ↦ elim (cases_lt x.span.begin at) [
            | inl skipped ↦ absurd (gap x p.is on skipped)
            | inr here ↦ let h = p.below in Contains-append_right a.rows b.rows x (b.are.each x (of_begin entries text at x (omega (arith, here, h)) p.is))
          ]
        ];
      };
      within = omega (arith, longer, many, count, fits);
      appended = b.appended ∙ ap (λ (k : List Row). k ++ b.rows) a.appended ∙ append_assoc old a.rows b.rows;
    }

pub appended_count : (P : Row → Type 0) (room : ℕ) (old new : List Row) → Appends P room old new → length old ≤ length new
appended_count P room old new a = let many : length new ≡ length old + length a.rows = ap length a.appended ∙ length-append old a.rows in omega (arith, many)

pub appended_within : (P : Row → Type 0) (room : ℕ) (old new : List Row) → Appends P room old new → length new ≤ length old + room
appended_within P room old new a = let many : length new ≡ length old + length a.rows = ap length a.appended ∙ length-append old a.rows in let fits = a.within in omega (arith, many, fits)

pub all_begins : (entries : List Entry) (text room from : ℕ) (old new : List Row) → ((row : Row) → IsRowOf entries text row → from ≤ row.span.begin → ⊥) → Appends (BeginsBelow entries text from) room old new
    → Appends (IsRowOf entries text) room old new
all_begins entries text room from old new none a = record {
  rows = a.rows;
  are = record {
    ascending = a.are.ascending;
    only = λ x c. (a.are.only x c).is;
    each = λ x p. elim (cases_lt x.span.begin from) [ inl before ↦ a.are.each x (record { is = p; below = before }) | inr on ↦ absurd (none x p on) ];
  };
  within = a.within;
  appended = a.appended;
}

pub longer_than_room : (entries : List Entry) (text room left from at : ℕ) (old mid : List Row) → from ≤ at → length mid + left ≡ length old + room → Appends (BeginsBelow entries text from) room old mid
    → HasLonger (IsRowBelow entries text at (length entries)) left → HasLonger (IsRowOf entries text) room
longer_than_room entries text room left from at old mid low count a h =
    let many : length mid ≡ length old + length a.rows = ap length a.appended ∙ length-append old a.rows in
    let longer : length (a.rows ++ h.rows) ≡ length a.rows + length h.rows = length-append a.rows h.rows in
    let more = h.more in
    record {
      rows = a.rows ++ h.rows;
      ascending = sorted_append row_cmp a.rows h.rows a.are.ascending h.ascending (λ x y c d.
          let p = a.are.only x c in
          let r = h.only y d in
          let before = p.below in
          let here = r.begin_is in
          begins_before x y (p.is.text_is ∙ sym r.text_is) (omega (arith, before, here, low)));
      only = λ x c. elim (Contains-append_cases a.rows h.rows x c) [ inl was ↦ (a.are.only x was).is | inr now ↦ of_text entries text at x (h.only x now) ];
      more = omega (arith, longer, many, count, more);
    }

pub begins_on : (P : Row → Type 0) (room : ℕ) (old mid new : List Row) → Appends P room old mid → Begins mid new → Begins old new
begins_on P room old mid new a b = record { rest = a.rows ++ b.rest; appended = b.appended ∙ ap (λ (k : List Row). k ++ b.rest) a.appended ∙ append_assoc old a.rows b.rest }

pub begins_so : (P : Row → Type 0) (room : ℕ) (old new : List Row) → Appends P room old new → Begins old new
begins_so P room old new a = record { rest = a.rows; appended = a.appended }

pub on_err_known : {T E : Type 0} (r : Result T E) (K : Type 0) → K → OnErr r K
on_err_known (Ok x) K k = tt
on_err_known (Err e) K k = k

-- ## The rows of an expression

-- there is no row to append
pub nothing_there : (P : Row → Type 0) (room : ℕ) (old new : List Row) → ((row : Row) → P row → ⊥) → new ≡ old → Appends P room old new
nothing_there P room old new none same = record {
  rows = [];
  are = record { ascending = nothing_sorted row_cmp; only = λ x h. absurd (in_none x h); each = λ x p. absurd (none x p) };
  within = omega arith;
  appended = same ∙ sym (append-nil old);
}

pub row_there : (s : m.Sight) (expr : q.Expr) (text tokens : ℕ) (entries : List Entry) → tokens ≡ s.tokens → Adds tokens (Inside tokens (m.Matches s expr)) [] entries → (row : Row) → IsRowOf entries text row → IsRowOfText s expr text row
row_there s expr text tokens entries is a row r =
    let x = only_of tokens (Inside tokens (m.Matches s expr)) entries a row.span.begin row.span.end row.labels r.is in
    record { text_is = r.text_is; some = r.some; inside = let far = x.ends in omega (arith, far, is); matches = x.matches }

pub row_back : (s : m.Sight) (expr : q.Expr) (text tokens : ℕ) (entries : List Entry) → tokens ≡ s.tokens → Adds tokens (Inside tokens (m.Matches s expr)) [] entries → (row : Row) → IsRowOfText s expr text row → IsRowOf entries text row
row_back s expr text tokens entries is a row r =
    let some = r.some in
    let far = r.inside in
    record { text_is = r.text_is; some = r.some; is = a.complete row.span.begin row.span.end row.labels (record { begins = omega (arith, some, far, is); ends = omega (arith, far, is); matches = r.matches }) }

pub row_same : (s : m.Sight) (one other : q.Expr) (text : ℕ) → ((b f : ℕ) (l : List ℕ) → m.Matches s one b f l → m.Matches s other b f l) → (row : Row) → IsRowOfText s one text row → IsRowOfText s other text row
row_same s one other text to row r = record { text_is = r.text_is; some = r.some; inside = r.inside; matches = to row.span.begin row.span.end row.labels r.matches }

pub appends_renamed : (P Q : Row → Type 0) (room : ℕ) (old new : List Row) → ((row : Row) → P row → Q row) → ((row : Row) → Q row → P row) → Appends P room old new → Appends Q room old new
appends_renamed P Q room old new there back a = record {
  rows = a.rows;
  are = record { ascending = a.are.ascending; only = λ x c. there x (a.are.only x c); each = λ x p. a.are.each x (back x p) };
  within = a.within;
  appended = a.appended;
}

pub longer_renamed : (P Q : Row → Type 0) (room : ℕ) → ((row : Row) → P row → Q row) → HasLonger P room → HasLonger Q room
longer_renamed P Q room to h = record { rows = h.rows; ascending = h.ascending; only = λ x c. to x (h.only x c); more = h.more }

-- ## What a table tells

pub told_rows : (s : m.Sight) (expr : q.Expr) (tokens : ℕ) (entries : List Entry) → tokens ≡ s.tokens → Adds tokens (Inside tokens (m.Matches s expr)) [] entries → TellsRows entries s expr
told_rows s expr tokens entries is a = record { there = λ text. row_there s expr text tokens entries is a; back = λ text. row_back s expr text tokens entries is a }

-- where no row is, an empty table tells it
pub told_nothing : (s : m.Sight) (expr : q.Expr) (entries : List Entry) → entries ≡ [] → ((text : ℕ) (row : Row) → IsRowOfText s expr text row → ⊥) → TellsRows entries s expr
told_nothing s expr entries e never = record {
  there = λ text row r. let low = r.is.below in let none : length entries ≡ 0 = ap (λ (es : List Entry). length es) e in absurd (omega (arith, low, none));
  back = λ text row r. absurd (never text row r);
}

pub told_same : (s : m.Sight) (one other : q.Expr) (entries : List Entry) → ((b f : ℕ) (l : List ℕ) → m.Matches s one b f l → m.Matches s other b f l) → ((b f : ℕ) (l : List ℕ) → m.Matches s other b f l → m.Matches s one b f l)
    → TellsRows entries s one → TellsRows entries s other
told_same s one other entries to from t = record {
  there = λ text row r. row_same s one other text to row (t.there text row r);
  back = λ text row r. t.back text row (row_same s other one text from row r);
}

pub nothing_fine : (tokens : ℕ) (entries : List Entry) → entries ≡ [] → Fine tokens entries
nothing_fine tokens entries e =
    let none : length entries ≡ 0 = ap (λ (es : List Entry). length es) e in
    record { ascending = λ i j l h. absurd (omega (arith, h, none)); suits = λ i l. absurd (omega (arith, l, none)); some = λ i l. absurd (omega (arith, l, none)) }

-- what holds of a table that there may be
pub if_told : {X E : Type 0} (found : Result (Option X) E) (P Q : X → Type 0) → ((x : X) → P x → Q x) → IfOk found (λ some. IfSome some P) → IfOk found (λ some. IfSome some Q)
if_told (Ok None) P Q to h = h
if_told (Ok (Some x)) P Q to h = to x h
if_told (Err e) P Q to h = h
