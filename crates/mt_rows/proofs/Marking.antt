-- Marks that a sweep has made so far, and that all of them tell of rows.
use Rattle.std.proofs.Common.{◌≡◌, ℕ, suc, ◌+◌, ◌≤◌, ◌<◌, Bool, true, false, not, List, [], ◌∷◌, ◌++◌, length, take, drop, set, get_or, map, slice_get, Option, Some, None, Decides, refl, ap, ap₂, sym, ◌∙◌, subst, length-set, arith}
use Rattle.std.specs.List.{Contains}
use Rattle.std.specs.List.Sorted.{IsStrictlySortedBy}
use Rattle.std.proofs.lemmas.List.{take_more, drop_more, take-set, take_all, drop_all, drop-set-lt, get_or-set_same}
use Rattle.std.proofs.lemmas.Slice.Zip.{all_zipped_more}
use Rattle.std.proofs.lemmas.Option.{slice_get_within, slice_get_read}
use Rattle.mt_text_spec.specs.Texts.{Span, Row}
use Rattle.mt_text_spec.specs.Orders.{row_cmp}
use Rattle.mt_match_spec.specs.Kept.{Passes}
use Rattle.mt_match_spec.specs.Rows.{ListsAll}
use Rattle.mt_rows.specs.Marks.{kept, Tell}
use Rattle.mt_rows.specs.Laws.{kept_lists}
use Rattle.mt_rows.specs.Filters.{BeginsBy, InOrder, Front, Reaches, Back, EndsBy, within_kind, containing_kind}
use Rattle.mt_rows.proofs.Sweeps.{by_both, within_told, containing_told}

-- ---- one mark more, from the front or from the back

tell_more : {X : Type 0} (Q : X → Type 0) (xs : List X) (marks : List Bool) (i : ℕ) (x : X) (m : Bool) → i < length xs → length marks ≡ length xs → x ≡ get_or xs i x → Decides m (Q x) →
    Tell Q (take i xs) (take i marks) → Tell Q (take (i + 1) xs) (take (i + 1) (set marks i m))
tell_more Q xs marks i x m l long is d t =
    let same : length (set marks i m) ≡ length marks = length-set marks i m in
    let room : i < length marks = omega (arith, l, long) in
    let front : take (i + 1) xs ≡ take i xs ++ x ∷ [] = take_more xs i x l ∙ ap (λ y. take i xs ++ y ∷ []) (sym is) in
    let marked : take (i + 1) (set marks i m) ≡ take i marks ++ m ∷ [] =
    take_more (set marks i m) i m (omega (arith, room, same)) ∙ ap₂ (λ a n. a ++ n ∷ []) (take-set marks i m) (get_or-set_same marks i m m room) in
    rw (front, marked) (all_zipped_more (λ y n. Decides n (Q y)) (take i xs) (take i marks) x m t d)

tell_less : {X : Type 0} (Q : X → Type 0) (xs : List X) (marks : List Bool) (i : ℕ) (x : X) (m : Bool) → i < length xs → length marks ≡ length xs → x ≡ get_or xs i x → Decides m (Q x) →
    Tell Q (drop (i + 1) xs) (drop (i + 1) marks) → Tell Q (drop i xs) (drop i (set marks i m))
tell_less Q xs marks i x m l long is d t =
    let same : length (set marks i m) ≡ length marks = length-set marks i m in
    let room : i < length marks = omega (arith, l, long) in
    let front : drop i xs ≡ x ∷ drop (i + 1) xs = drop_more xs i x l ∙ ap (λ y. y ∷ drop (i + 1) xs) (sym is) in
    let marked : drop i (set marks i m) ≡ m ∷ drop (i + 1) marks =
    drop_more (set marks i m) i m (omega (arith, room, same)) ∙ ap₂ ◌∷◌ (get_or-set_same marks i m m room) (drop-set-lt (i + 1) marks i m (omega arith)) in
    rw (front, marked) (d, t)

-- ---- the sweep from the front

pub record MarkingWithin (spans operand : List Span) (negated : Bool) (n : ℕ) (best : Option Span) (marks : List Bool) (i : ℕ) : Type 0 where
  pub ahead : (j : ℕ) (to : Span) → i ≤ j → slice_get spans j ≡ Some to → Front operand n best to
  pub long : length marks ≡ length spans
  pub told : Tell (Passes (within_kind negated) (Contains operand)) (take i spans) (take i marks)

pub within_none : (spans operand : List Span) (negated : Bool) (marks : List Bool) → length marks ≡ length spans → MarkingWithin spans operand negated 0 None marks 0
within_none spans operand negated marks long = record {
  ahead = λ j to l e. record { within = omega arith; early = λ k s l e. absurd (omega (arith, l)); farthest = refl };
  long = long;
  told = tt;
}

pub within_more : (spans operand : List Span) (negated : Bool) (n m : ℕ) (best next : Option Span) (marks : List Bool) (i : ℕ) (to : Span) (fact mark : Bool) → InOrder spans → MarkingWithin spans operand negated n best marks i →
    i < length spans → to ≡ get_or spans i to → Front operand m next to → ((k : ℕ) (s : Span) → m ≤ k → slice_get operand k ≡ Some s → ¬ BeginsBy s to) → Decides fact (Reaches next to) → (negated ≡ false → mark ≡ fact) → (negated ≡ true → mark ≡ not fact) →
    MarkingWithin spans operand negated m next (set marks i mark) (i + 1)
within_more spans operand negated n m best next marks i to fact mark order h l is front late d plain turned = record {
  ahead = λ j later above e. record {
    within = front.within;
    early = λ k s below f. by_both s to later (front.early k s below f) (order i j to later (omega (arith, above)) (slice_get_read spans (length spans) i to refl l is) e);
    farthest = front.farthest;
  };
  long = length-set marks i mark ∙ h.long;
  told = tell_more (Passes (within_kind negated) (Contains operand)) spans marks i to mark l h.long is (within_told operand m next to negated fact mark front late d plain turned) h.told;
}

pub within_all : (spans operand : List Span) (negated : Bool) (n : ℕ) (best : Option Span) (marks : List Bool) (i : ℕ) → MarkingWithin spans operand negated n best marks i → length spans ≤ i → Tell (Passes (within_kind negated) (Contains operand)) spans marks
within_all spans operand negated n best marks i h l =
    rw (← take_all i spans l, ← take_all i marks (omega (arith, l, h.long))) h.told

-- ---- the sweep from the back

pub record MarkingContaining (spans operand : List Span) (negated : Bool) (n : ℕ) (best : Option Span) (marks : List Bool) (i : ℕ) : Type 0 where
  pub within : i ≤ length spans
  pub ahead : (j : ℕ) (to : Span) → j < i → slice_get spans j ≡ Some to → Back operand n best to
  pub long : length marks ≡ length spans
  pub told : Tell (Passes (containing_kind negated) (Contains operand)) (drop i spans) (drop i marks)

pub containing_none : (spans operand : List Span) (negated : Bool) (marks : List Bool) (n i : ℕ) → length marks ≡ length spans → n ≡ length operand → i ≡ length spans → MarkingContaining spans operand negated n None marks i
containing_none spans operand negated marks n i long all end = record {
  within = omega (arith, end);
  ahead = λ j to l e. record {
    within = omega (arith, all);
    late = λ k s l e. absurd (let inside = slice_get_within operand k s e in omega (arith, inside, l, all));
    nearest = omega (arith, all);
  };
  long = long;
  told = rw (drop_all i spans (omega (arith, end)), drop_all i marks (omega (arith, end, long))) tt;
}

pub containing_more : (spans operand : List Span) (negated : Bool) (n m : ℕ) (best next : Option Span) (marks : List Bool) (i before : ℕ) (to : Span) (fact mark : Bool) → InOrder spans → MarkingContaining spans operand negated n best marks i →
    i ≡ before + 1 → to ≡ get_or spans before to → Back operand m next to → ((k : ℕ) (s : Span) → k < m → slice_get operand k ≡ Some s → ¬ BeginsBy to s) → Decides fact (EndsBy next to) → (negated ≡ false → mark ≡ fact) → (negated ≡ true → mark ≡ not fact) →
    MarkingContaining spans operand negated m next (set marks before mark) before
containing_more spans operand negated n m best next marks i before to fact mark order h one is back early d plain turned =
    let l : before < length spans = let w = h.within in omega (arith, one, w) in
    record {
      within = omega (arith, l);
      ahead = λ j sooner below e. record {
        within = back.within;
        late = λ k s above f. by_both sooner to s (order j before sooner to below e (slice_get_read spans (length spans) before to refl l is)) (back.late k s above f);
        nearest = back.nearest;
      };
      long = length-set marks before mark ∙ h.long;
      told = tell_less (Passes (containing_kind negated) (Contains operand)) spans marks before to mark l h.long is (containing_told operand m next to negated fact mark back early d plain turned)
          (subst (λ k. Tell (Passes (containing_kind negated) (Contains operand)) (drop k spans) (drop k marks)) one h.told);
    }

pub containing_all : (spans operand : List Span) (negated : Bool) (n : ℕ) (best : Option Span) (marks : List Bool) (i : ℕ) → MarkingContaining spans operand negated n best marks i → i ≡ 0 → Tell (Passes (containing_kind negated) (Contains operand)) spans marks
containing_all spans operand negated n best marks i h e = subst (λ k. Tell (Passes (containing_kind negated) (Contains operand)) (drop k spans) (drop k marks)) e h.told

-- ---- from the spans to the rows

tell_rows : (Q : Span → Type 0) (rows : List Row) (marks : List Bool) → Tell Q (map (λ (row : Row). row.span) rows) marks → Tell (λ (row : Row). Q row.span) rows marks
tell_rows Q [] [] t = tt
tell_rows Q [] (m ∷ marks) t = absurd t
tell_rows Q (r ∷ rows) [] t = absurd t
tell_rows Q (r ∷ rows) (m ∷ marks) t = (t.0, tell_rows Q rows marks t.1)

pub told_length : {X : Type 0} (Q : X → Type 0) (xs : List X) (marks : List Bool) → Tell Q xs marks → length marks ≡ length xs
told_length Q [] [] t = refl
told_length Q [] (m ∷ marks) t = absurd t
told_length Q (x ∷ xs) [] t = absurd t
told_length Q (x ∷ xs) (m ∷ marks) t = ap suc (told_length Q xs marks t.1)

pub rows_length : (Q : Span → Type 0) (rows : List Row) (marks : List Bool) → Tell Q (map (λ (row : Row). row.span) rows) marks → length marks ≡ length rows
rows_length Q rows marks t = told_length (λ (row : Row). Q row.span) rows marks (tell_rows Q rows marks t)

pub rows_kept : (Q : Span → Type 0) (rows : List Row) (marks : List Bool) → IsStrictlySortedBy row_cmp rows → Tell Q (map (λ (row : Row). row.span) rows) marks → ListsAll row_cmp (λ row. Contains rows row × Q row.span) (kept marks rows)
rows_kept Q rows marks s t = kept_lists row_cmp (λ (row : Row). Q row.span) rows marks s (tell_rows Q rows marks t)
