-- Rows of a part of a text, by their places in the text.
use Rattle.std.proofs.Common.{◌≡◌, ℕ, zero, suc, ◌+◌, ◌-◌, ◌*◌, ◌/◌, ◌<◌, ◌≤◌, List, [], ◌∷◌, ◌++◌, length, length-set, map, set, take, get_or, refl, sym, ◌∙◌, ap, subst, inl, inr, arith, eq-eqb, Bool}
use Rattle.std.specs.Prelude.{◌==◌, if◌then◌else◌}
use Rattle.std.specs.declared.cmp.Ordering.TheVariants.{Less, Equal, Greater}
use Rattle.std.specs.Ordering.{nat_cmp, ordering_then}
use Rattle.std.specs.Cmp.{nat_cmp_is}
use Rattle.std.specs.Cmp.Lexicographic.{slice_cmp}
use Rattle.std.specs.List.{AllByRecursion, Contains}
use Rattle.std.specs.List.Sorted.{IsStrictlySortedBy}
use Rattle.std.proofs.lemmas.Bool.{cases_lt, cases_eq}
use Rattle.std.proofs.lemmas.List.{ext_get_or, get_or-set_same, get_or-set_other, length-map, map-append, append_assoc}
use Rattle.std.proofs.Math.Seq.{take-suc}
use Rattle.mt_text_spec.specs.Texts.{Row, unset}
use Rattle.mt_text_spec.specs.Queries as q
use Rattle.mt_text_spec.specs.Orders.{row_cmp}
use Rattle.mt_match_spec.specs.Matches as m
use Rattle.mt_match_spec.specs.Rows.{ListsAll}
use Rattle.mt_rows.specs.Appends.{Appends, HasMore}
use Rattle.mt_automaton.specs.declared.labelled.Labelled.{Labelled}
use Rattle.mt_automaton.specs.Parts.{Seen, HasAllInside}
use Rattle.mt_automaton.specs.LabelledParts.{labelled_meant, MatchesSomehow}
use Rattle.mt_automaton.specs.Bounds.{EndsBy}
use Rattle.mt_automaton.specs.Windows.{window, moved, moved_row, FitsBehind, RowFits, HasMatchesFrom}
use Rattle.mt_automaton.specs.RowsFrom.{IsRowFrom}
use Rattle.mt_automaton.proofs.Listed.{there, in_none}
use Rattle.mt_automaton.proofs.Windows.{set_moved, labels_fit}
use Rattle.mt_automaton.proofs.Compiled.{labelled_by_numbers}

-- ## The order of rows that are moved

nat_less : (a b : ℕ) → a < b → nat_cmp a b ≡ Less
nat_less a b h = sym (nat_cmp_is a b Less h)

nat_same : (a b : ℕ) → a ≡ b → nat_cmp a b ≡ Equal
nat_same a b h = sym (nat_cmp_is a b Equal h)

nat_more : (a b : ℕ) → b < a → nat_cmp a b ≡ Greater
nat_more a b h = sym (nat_cmp_is a b Greater h)

shifted : (base a b : ℕ) → nat_cmp (base + a) (base + b) ≡ nat_cmp a b
shifted base a b = elim (cases_lt a b) [
  | inl h ↦ nat_less (base + a) (base + b) (omega (arith, h)) ∙ sym (nat_less a b h)
  | inr on ↦ elim (cases_eq a b) [
    | inl e ↦ nat_same (base + a) (base + b) (omega (arith, e)) ∙ sym (nat_same a b e)
    | inr o ↦ nat_more (base + a) (base + b) (omega (arith, on, o)) ∙ sym (nat_more a b (omega (arith, on, o)))
  ]
]

-- a set label has a place, and keeps it as far from the others
set_fits : (base x : ℕ) → base + x < unset → (if x == unset then unset else (base + x)) ≡ base + x
set_fits base x h = set_moved base x (λ e. omega (arith, e, h))

unset_stays : (base x : ℕ) → x ≡ unset → (if x == unset then unset else (base + x)) ≡ unset
unset_stays base x e = ap (λ (c : Bool). if c then unset else (base + x)) (eq-eqb x unset e)

two_numbers : (a b c d : ℕ) → a ≡ c → b ≡ d → nat_cmp a b ≡ nat_cmp c d
two_numbers a b c d e f = ap (λ k. nat_cmp k b) e ∙ ap (nat_cmp c) f

same_place_order : (base x y : ℕ) → FitsBehind base x → FitsBehind base y → nat_cmp (if x == unset then unset else (base + x)) (if y == unset then unset else (base + y)) ≡ nat_cmp x y
same_place_order base x y p r = elim p [
  | inl u ↦ elim r [
    | inl w ↦ two_numbers (if x == unset then unset else (base + x)) (if y == unset then unset else (base + y)) x y (unset_stays base x u ∙ sym u) (unset_stays base y w ∙ sym w)
    | inr k ↦ two_numbers (if x == unset then unset else (base + x)) (if y == unset then unset else (base + y)) unset (base + y) (unset_stays base x u) (set_fits base y k)
        ∙ nat_more unset (base + y) k ∙ sym (nat_more x y (omega (arith, u, k)))
  ]
  | inr h ↦ elim r [
    | inl w ↦ two_numbers (if x == unset then unset else (base + x)) (if y == unset then unset else (base + y)) (base + x) unset (set_fits base x h) (unset_stays base y w)
        ∙ nat_less (base + x) unset h ∙ sym (nat_less x y (omega (arith, w, h)))
    | inr k ↦ two_numbers (if x == unset then unset else (base + x)) (if y == unset then unset else (base + y)) (base + x) (base + y) (set_fits base x h) (set_fits base y k) ∙ shifted base x y
  ]
]

same_label_order : (base : ℕ) (a b : List ℕ) → AllByRecursion (FitsBehind base) a → AllByRecursion (FitsBehind base) b → slice_cmp nat_cmp (moved base a) (moved base b) ≡ slice_cmp nat_cmp a b
same_label_order base [] [] p r = refl
same_label_order base [] (y ∷ b) p r = refl
same_label_order base (x ∷ a) [] p r = refl
same_label_order base (x ∷ a) (y ∷ b) p r =
    ap (λ o. ordering_then o (slice_cmp nat_cmp (moved base a) (moved base b))) (same_place_order base x y p.0 r.0) ∙ ap (ordering_then (nat_cmp x y)) (same_label_order base a b p.1 r.1)

same_row_order : (base : ℕ) (r s : Row) → AllByRecursion (FitsBehind base) r.labels → AllByRecursion (FitsBehind base) s.labels → row_cmp (moved_row base r) (moved_row base s) ≡ row_cmp r s
same_row_order base r s p k =
    let texts = nat_cmp r.span.text s.span.text in
    ap (λ o. ordering_then (ordering_then texts (ordering_then o (nat_cmp (base + r.span.end) (base + s.span.end)))) (slice_cmp nat_cmp (moved base r.labels) (moved base s.labels))) (shifted base r.span.begin s.span.begin)
    ∙ ap (λ o. ordering_then (ordering_then texts (ordering_then (nat_cmp r.span.begin s.span.begin) o)) (slice_cmp nat_cmp (moved base r.labels) (moved base s.labels))) (shifted base r.span.end s.span.end)
    ∙ ap (λ o. ordering_then (ordering_then texts (ordering_then (nat_cmp r.span.begin s.span.begin) (nat_cmp r.span.end s.span.end))) o) (same_label_order base r.labels s.labels p k)

-- ## Lists of rows that are moved

-- an element of a list that was mapped
record WasMapped {X Y : Type 0} (f : X → Y) (xs : List X) (y : Y) : Type 0 where
  pub was : X
  pub is_in : Contains xs was
  pub same : y ≡ f was

in_map : {X Y : Type 0} (f : X → Y) (xs : List X) (y : Y) → Contains (map f xs) y → WasMapped f xs y
in_map f [] y h = absurd (in_none y h)
in_map f (x ∷ xs) y (zero, l, e) = record { was = x; is_in = (0, omega arith, refl); same = sym e }
in_map f (x ∷ xs) y (suc k, l, e) = let r = in_map f xs y (k, omega (arith, l), e) in record { was = r.was; is_in = there x xs r.was r.is_in; same = r.same }

map_in : {X Y : Type 0} (f : X → Y) (xs : List X) (x : X) → Contains xs x → Contains (map f xs) (f x)
map_in f [] x h = absurd (in_none x h)
map_in f (y ∷ xs) x (zero, l, e) = (0, omega arith, ap f e)
map_in f (y ∷ xs) x (suc k, l, e) = there (f y) (map f xs) (f x) (map_in f xs x (k, omega (arith, l), e))

before_all : (base : ℕ) (x : Row) (xs : List Row) → AllByRecursion (FitsBehind base) x.labels → ((y : Row) → Contains xs y → AllByRecursion (FitsBehind base) y.labels) → AllByRecursion (λ y. row_cmp x y ≡ Less) xs
    → AllByRecursion (λ y. row_cmp (moved_row base x) y ≡ Less) (map (moved_row base) xs)
before_all base x [] fits all h = tt
before_all base x (y ∷ xs) fits all h = (same_row_order base x y fits (all y (0, omega arith, refl)) ∙ h.0, before_all base x xs fits (λ z c. all z (there y xs z c)) h.1)

moved_ascending : (base : ℕ) (xs : List Row) → ((y : Row) → Contains xs y → AllByRecursion (FitsBehind base) y.labels) → IsStrictlySortedBy row_cmp xs → IsStrictlySortedBy row_cmp (map (moved_row base) xs)
unfolding IsStrictlySortedBy
moved_ascending base [] all s = tt
moved_ascending base (x ∷ xs) all s = (before_all base x xs (all x (0, omega arith, refl)) (λ z c. all z (there x xs z c)) s.0, moved_ascending base xs (λ z c. all z (there x xs z c)) s.1)

-- ## The rows that begin at a place

meant_in_window : (v : Seen) (base n : ℕ) (part : Labelled) → labelled_meant (window v base n) part ≡ labelled_meant v part
meant_in_window v base n part = sym (labelled_by_numbers (window v base n) part) ∙ labelled_by_numbers v part

-- what is known of a part of a text, in which all lies that begins at a place
pub record Around (v : Seen) (part : Labelled) (base n at : ℕ) : Type 0 where
  pub on : base ≤ at
  pub few : v.text.tokens < unset
  pub inside : HasAllInside v.text
  pub all : EndsBy (MatchesSomehow v part) v.text.tokens at (base + n)
  pub matches : HasMatchesFrom v.text base (window v base n).text

abbrev pub InWindow : (v : Seen) (part : Labelled) (text base n at : ℕ) → Row → Type 0
InWindow v part text base n at = IsRowFrom (window v base n).text (labelled_meant (window v base n) part) text (at - base)

pub row_fits : (v : Seen) (part : Labelled) (text base n at : ℕ) → Around v part base n at → (row : Row) → InWindow v part text base n at row → RowFits base row
row_fits v part text base n at a row r =
    let low : base + n ≤ v.text.tokens = a.all.within in
    let end : row.span.end ≤ n = r.inside in
    record {
      begin = omega (arith, r.begin_is, r.some, end, low, a.few);
      end = omega (arith, end, low, a.few);
      labels = labels_fit v base n low (omega (arith, low, a.few)) a.inside (labelled_meant (window v base n) part) (at - base) row.span.end row.labels (omega (arith, r.some, end)) end r.matches;
    }

out_of_window : (v : Seen) (part : Labelled) (text base n at : ℕ) → Around v part base n at → (row : Row) → InWindow v part text base n at row → IsRowFrom v.text (labelled_meant v part) text at (moved_row base row)
out_of_window v part text base n at a row r =
    let on = a.on in
    let low : base + n ≤ v.text.tokens = a.all.within in
    let end : row.span.end ≤ n = r.inside in
    let here : base + (at - base) ≡ at = omega (arith, on) in
    record {
      text_is = r.text_is;
      begin_is = omega (arith, on, r.begin_is);
      some = omega (arith, on, r.some);
      inside = omega (arith, end, low);
      matches = subst (λ (e : q.Expr). m.Matches v.text e at (base + row.span.end) (moved base row.labels)) (meant_in_window v base n part)
          (subst (λ b. m.Matches v.text (labelled_meant (window v base n) part) b (base + row.span.end) (moved base row.labels)) here
          (a.matches.sound (labelled_meant (window v base n) part) (at - base) row.span.end row.labels (omega (arith, r.some, end)) end r.matches));
    }

-- a row of the text is one of the part, moved
record IsMoved (v : Seen) (part : Labelled) (text base n at : ℕ) (row : Row) : Type 0 where
  pub was : Row
  pub is : InWindow v part text base n at was
  pub same : row ≡ moved_row base was

into_window : (v : Seen) (part : Labelled) (text base n at : ℕ) → Around v part base n at → (row : Row) → IsRowFrom v.text (labelled_meant v part) text at row → IsMoved v part text base n at row
into_window v part text base n at a row r =
    let on = a.on in
    let far : row.span.end ≤ base + n = a.all.all at row.span.end (omega arith) r.inside (row.labels, r.matches) in
    let here : base + (at - base) ≡ at = omega (arith, on) in
    let there : base + (row.span.end - base) ≡ row.span.end = omega (arith, on, r.some) in
    let same = meant_in_window v base n part in
    let c = a.matches.complete (labelled_meant (window v base n) part) (at - base) (row.span.end - base) row.labels (omega (arith, r.some, far)) (omega (arith, far))
    (subst (λ (e : q.Expr). m.Matches v.text e (base + (at - base)) (base + (row.span.end - base)) row.labels) (sym same)
    (subst (λ b. m.Matches v.text (labelled_meant v part) b (base + (row.span.end - base)) row.labels) (sym here)
    (subst (λ f. m.Matches v.text (labelled_meant v part) at f row.labels) (sym there) r.matches))) in
    record {
      was = record { span = record { text = text; begin = at - base; end = row.span.end - base }; labels = c.counted };
      is = record { text_is = refl; begin_is = refl; some = omega (arith, on, r.some); inside = omega (arith, far); matches = c.matches };
      same = λ i. record { span = record { text = r.text_is i; begin = (r.begin_is ∙ sym here) i; end = sym there i }; labels = c.labels_are i };
    }

pub rows_moved : (v : Seen) (part : Labelled) (text base n at : ℕ) (rows : List Row) → Around v part base n at → ListsAll row_cmp (InWindow v part text base n at) rows
    → ListsAll row_cmp (IsRowFrom v.text (labelled_meant v part) text at) (map (moved_row base) rows)
rows_moved v part text base n at rows a h = record {
  ascending = moved_ascending base rows (λ y c. (row_fits v part text base n at a y (h.only y c)).labels) h.ascending;
  only = λ x c. let r = in_map (moved_row base) rows x c in subst (IsRowFrom v.text (labelled_meant v part) text at) (sym r.same) (out_of_window v part text base n at a r.was (h.only r.was r.is_in));
  each = λ x p. let w = into_window v part text base n at a x p in subst (Contains (map (moved_row base) rows)) (sym w.same) (map_in (moved_row base) rows w.was (h.each w.was w.is));
}

-- ## Nine labels

pub fits_at : (base i : ℕ) (xs : List ℕ) → i < length xs → AllByRecursion (FitsBehind base) xs → FitsBehind base (get_or xs i 0)
fits_at base i [] h all = absurd (omega (arith, h))
fits_at base zero (x ∷ xs) h all = all.0
fits_at base (suc i) (x ∷ xs) h all = fits_at base i xs (omega (arith, h)) all.1

moved_at : (base i : ℕ) (xs : List ℕ) → i < length xs → get_or (moved base xs) i 0 ≡ (if get_or xs i 0 == unset then unset else (base + get_or xs i 0))
moved_at base i [] h = absurd (omega (arith, h))
moved_at base zero (x ∷ xs) h = refl
moved_at base (suc i) (x ∷ xs) h = moved_at base i xs (omega (arith, h))

-- the places before number i are moved
pub record MovedSoFar (base : ℕ) (labels places : List ℕ) (i : ℕ) : Type 0 where
  pub nine : length places ≡ 9
  pub moved : (j : ℕ) → j < i → get_or places j 0 ≡ (if get_or labels j 0 == unset then unset else (base + get_or labels j 0))

pub none_moved : (base : ℕ) (labels places : List ℕ) → length places ≡ 9 → MovedSoFar base labels places 0
none_moved base labels places e = record { nine = e; moved = λ j h. absurd (omega (arith, h)) }

pub one_moved : (base : ℕ) (labels places : List ℕ) (i place : ℕ) → i < 9 → place ≡ (if get_or labels i 0 == unset then unset else (base + get_or labels i 0)) → MovedSoFar base labels places i → MovedSoFar base labels (set places i place) (i + 1)
one_moved base labels places i place within e m = record {
  nine = length-set places i place ∙ m.nine;
  moved = λ j h. elim (cases_eq j i) [
    | inl same ↦ ap (λ k. get_or (set places i place) k 0) same ∙ get_or-set_same places i place 0 (omega (arith, within, m.nine)) ∙ e
        ∙ ap (λ k. if get_or labels k 0 == unset then unset else (base + get_or labels k 0)) (sym same)
    | inr other ↦ get_or-set_other places i j place 0 other ∙ m.moved j (omega (arith, h, other))
  ];
}

pub all_moved : (base : ℕ) (labels places : List ℕ) (i : ℕ) → length labels ≡ 9 → 9 ≤ i → MovedSoFar base labels places i → places ≡ moved base labels
all_moved base labels places i nine far m =
    ext_get_or 0 places (moved base labels) (m.nine ∙ sym nine ∙ sym (length-map labels (λ place. if place == unset then unset else (base + place))))
    (λ j low. let e = m.nine in let within : j < length labels = omega (arith, low, e, nine) in m.moved j (omega (arith, low, e, far)) ∙ sym (moved_at base j labels within))

pub next_moved : (base : ℕ) (rows : List Row) (k : ℕ) (row done : Row) (old mid new : List Row) → k < length rows → get_or rows k row ≡ row → done ≡ moved_row base row → mid ≡ old ++ map (moved_row base) (take k rows)
    → new ≡ mid ++ done ∷ [] → new ≡ old ++ map (moved_row base) (take (k + 1) rows)
next_moved base rows k row done old mid new within is moves e d =
    let one : k + 1 ≡ suc k = omega arith in
    let more : take (k + 1) rows ≡ take k rows ++ row ∷ [] = ap (λ n. take n rows) one ∙ take-suc rows k row within ∙ ap (λ (r : Row). take k rows ++ r ∷ []) is in
    let mapped : map (moved_row base) (take (k + 1) rows) ≡ map (moved_row base) (take k rows) ++ moved_row base row ∷ [] = ap (λ (s : List Row). map (moved_row base) s) more ∙ map-append (moved_row base) (take k rows) (row ∷ []) in
    d ∙ ap (λ (r : Row). mid ++ r ∷ []) moves ∙ ap (λ (s : List Row). s ++ moved_row base row ∷ []) e ∙ append_assoc old (map (moved_row base) (take k rows)) (moved_row base row ∷ [])
    ∙ ap (λ (s : List Row). old ++ s) (sym mapped)

-- ## What was found in a part, moved

contains_at : {X : Type 0} (xs : List X) (k : ℕ) (d : X) → k < length xs → Contains xs (get_or xs k d)
contains_at [] k d h = absurd (omega (arith, h))
contains_at (x ∷ xs) zero d h = (0, omega arith, refl)
contains_at (x ∷ xs) (suc k) d h = there x xs (get_or xs k d) (contains_at xs k d (omega (arith, h)))

pub is_around : (v : Seen) (part : Labelled) (base n at : ℕ) → base ≡ 64 * (at / 64) → v.text.tokens < unset → HasAllInside v.text → EndsBy (MatchesSomehow v part) v.text.tokens at (64 * (at / 64) + n)
    → HasMatchesFrom v.text (64 * (at / 64)) (window v (64 * (at / 64)) n).text → Around v part base n at
is_around v part base n at e few inside all matches = subst (λ k. Around v part k n at) (sym e) (record { on = omega arith; few = few; inside = inside; all = all; matches = matches })

-- the rows found in a part of what is seen, which is the text's own
abbrev pub Found : (u : Seen) (part : Labelled) (text base n at : ℕ) → Row → Type 0
Found u part text base n at = IsRowFrom (window u base n).text (labelled_meant (window u base n) part) text at

in_window : (u v : Seen) (part : Labelled) (text base first n at : ℕ) (rows : List Row) → u ≡ v → base ≡ 64 * first → ListsAll row_cmp (Found u part text (64 * first) n (at - base)) rows → ListsAll row_cmp (InWindow v part text base n at) rows
in_window u v part text base first n at rows e b h =
    subst (λ k. ListsAll row_cmp (Found v part text k n (at - base)) rows) (sym b) (subst (λ (x : Seen). ListsAll row_cmp (Found x part text (64 * first) n (at - base)) rows) e h)

pub found_fit : (u v : Seen) (part : Labelled) (text base first n at room : ℕ) (cleared found : List Row) → u ≡ v → base ≡ 64 * first → Around v part base n at → cleared ≡ []
    → Appends (Found u part text (64 * first) n (at - base)) room cleared found → (k : ℕ) (d : Row) → k < length found → RowFits base (get_or found k d)
found_fit u v part text base first n at room cleared found e b a none h k d low =
    let same : found ≡ h.rows = h.appended ∙ ap (λ (s : List Row). s ++ h.rows) none in
    let rows = in_window u v part text base first n at h.rows e b h.are in
    row_fits v part text base n at a (get_or found k d) (rows.only (get_or found k d) (subst (λ (s : List Row). Contains s (get_or found k d)) same (contains_at found k d low)))

pub found_moved : (u v : Seen) (part : Labelled) (text base first n at room : ℕ) (cleared found old new : List Row) → u ≡ v → base ≡ 64 * first → Around v part base n at → cleared ≡ []
    → Appends (Found u part text (64 * first) n (at - base)) room cleared found → new ≡ old ++ map (moved_row base) found → Appends (IsRowFrom v.text (labelled_meant v part) text at) room old new
found_moved u v part text base first n at room cleared found old new e b a none h moves =
    let same : found ≡ h.rows = h.appended ∙ ap (λ (s : List Row). s ++ h.rows) none in
    let many : length (map (moved_row base) h.rows) ≡ length h.rows = length-map h.rows (moved_row base) in
    record {
      rows = map (moved_row base) h.rows;
      are = rows_moved v part text base n at h.rows a (in_window u v part text base first n at h.rows e b h.are);
      within = omega (arith, many, h.within);
      appended = moves ∙ ap (λ (s : List Row). old ++ map (moved_row base) s) same;
    }

pub more_moved : (u v : Seen) (part : Labelled) (text base first n at room : ℕ) → u ≡ v → base ≡ 64 * first → Around v part base n at → HasMore (Found u part text (64 * first) n (at - base)) room
    → HasMore (IsRowFrom v.text (labelled_meant v part) text at) room
more_moved u v part text base first n at room e b a h =
    let many : length (map (moved_row base) h.rows) ≡ length h.rows = length-map h.rows (moved_row base) in
    record {
      rows = map (moved_row base) h.rows;
      are = rows_moved v part text base n at h.rows a (in_window u v part text base first n at h.rows e b h.are);
      more = omega (arith, many, h.more);
    }
