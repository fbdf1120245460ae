-- The rows of tests of tokens with one gap among them, one begin after another, and of each begin one length of the gap after another.
use Rattle.std.proofs.Common.{◌≡◌, ℕ, zero, suc, ◌+◌, ◌<◌, ◌≤◌, ◌⊎◌, inl, inr, List, [], ◌∷◌, ◌++◌, length, refl, sym, ◌∙◌, ap, subst, arith}
use Rattle.std.specs.List.{Contains}
use Rattle.std.specs.List.Sorted.{IsStrictlySortedBy}
use Rattle.std.specs.Ordering.{nat_cmp, ordering_then}
use Rattle.std.specs.Cmp.{nat_cmp_is}
use Rattle.std.specs.Cmp.Lexicographic.{slice_cmp}
use Rattle.std.specs.declared.cmp.Ordering.TheVariants.{Less, Equal}
use Rattle.std.proofs.lemmas.Bool.{cases_lt}
use Rattle.std.proofs.lemmas.List.{length-append, append-nil}
use Rattle.std.proofs.lemmas.List.Elements.{Contains-append_left, Contains-append_right, Contains-append_cases}
use Rattle.mt_text_spec.specs.Texts.{Row, Span}
use Rattle.mt_text_spec.specs.Queries as q
use Rattle.mt_text_spec.specs.Orders.{row_cmp}
use Rattle.mt_match_spec.specs.Labels.{no_labels, united}
use Rattle.mt_match_spec.specs.Matches as m
use Rattle.mt_match_spec.specs.Rows.{ListsAll}
use Rattle.mt_segment_spec.specs.Tables.{Tables, first_place, token_count}
use Rattle.mt_eval_spec.specs.Told.{HoldsAt, told, told_tokens}
use Rattle.mt_automaton.specs.RowsFrom.{BeginsBelow, HasLonger, IsRowFrom, IsRowOfText}
use Rattle.mt_rows.specs.Appends.{Appends}
use Rattle.mt_rows.specs.Laws.{from_member}
use Rattle.mt_prepare.specs.Resolved.{Resolves}
use Rattle.mt_prepare.specs.declared.resolved.Resolved.{Resolved}
use Rattle.mt_eval.specs.Gapped.{AreMet, AreTestsAround, IsMetOver, IsReach, IsRowLong, IsRowShort, labels_over, row_over, width_over}
use Rattle.mt_eval.proofs.Behind.{one_behind}
use Rattle.mt_eval.proofs.Exprs.{same_count}
use Rattle.mt_eval.proofs.OverGaps.{HoldOver, matched_over, matches_over, nine_over, wide}
use Rattle.mt_eval.proofs.Rowed.{begins_before, in_segment, next_first, nothing_ascends, one_ascends}
use Rattle.mt_eval.proofs.Sequenced.{HoldFrom, hold_say, say_hold}
use Rattle.mt_eval.proofs.Unions.{only_these}
use Rattle.mt_eval.proofs.Walked.{none_in}

-- ---- two lists of rows, one behind the other

in_order : (A B : Row → Type 0) (rows some : List Row) → ((x y : Row) → A x → B y → row_cmp x y ≡ Less) → IsStrictlySortedBy row_cmp rows → IsStrictlySortedBy row_cmp some → ((x : Row) → Contains rows x → A x) → ((y : Row) → Contains some y → B y) →
    IsStrictlySortedBy row_cmp (rows ++ some)
in_order A B rows some less up above a b = one_behind rows some up above (λ x y c d. less x y (a x (from_member rows x c)) (b y (from_member some y d)))

both_listed : (A B C : Row → Type 0) (rows some : List Row) → ((x y : Row) → A x → B y → row_cmp x y ≡ Less) → ((x : Row) → A x → C x) → ((x : Row) → B x → C x) → ((x : Row) → C x → A x ⊎ B x) → ListsAll row_cmp A rows → ListsAll row_cmp B some →
    ListsAll row_cmp C (rows ++ some)
both_listed A B C rows some less fst snd either a b = record {
  ascending = in_order A B rows some less a.ascending b.ascending a.only b.only;
  only = λ x c. elim (Contains-append_cases rows some x c) [ inl was ↦ fst x (a.only x was) | inr new ↦ snd x (b.only x new) ];
  each = λ x h. elim (either x h) [ inl is ↦ Contains-append_left rows some x (a.each x is) | inr is ↦ Contains-append_right rows some x (b.each x is) ];
}

more_listed : (A B C : Row → Type 0) (rows : List Row) (left room : ℕ) → ((x y : Row) → A x → B y → row_cmp x y ≡ Less) → ((x : Row) → A x → C x) → ((x : Row) → B x → C x) → ListsAll row_cmp A rows → HasLonger B left → room ≤ length rows + left → HasLonger C room
more_listed A B C rows left room less fst snd a b full =
    let long = length-append rows b.rows in
    let more = b.more in
    record {
      rows = rows ++ b.rows;
      ascending = in_order A B rows b.rows less a.ascending b.ascending a.only b.only;
      only = λ x c. elim (Contains-append_cases rows b.rows x c) [ inl was ↦ fst x (a.only x was) | inr new ↦ snd x (b.only x new) ];
      more = omega (arith, long, more, full);
    }

ends_before : (r s : Row) → r.span.text ≡ s.span.text → r.span.begin ≡ s.span.begin → r.span.end < s.span.end → row_cmp r s ≡ Less
ends_before r s e b h =
    let rest = slice_cmp nat_cmp r.labels s.labels in
    let begins = nat_cmp r.span.begin s.span.begin in
    let ends = nat_cmp r.span.end s.span.end in
    let texts : nat_cmp r.span.text s.span.text ≡ Equal = sym (nat_cmp_is r.span.text s.span.text Equal e) in
    ap (λ o. ordering_then (ordering_then o (ordering_then begins ends)) rest) texts
    ∙ ap (λ o. ordering_then (ordering_then o ends) rest) (sym (nat_cmp_is r.span.begin s.span.begin Equal b))
    ∙ ap (λ o. ordering_then o rest) (sym (nat_cmp_is r.span.end s.span.end Less h))

-- a row by its parts
pub made_over : (expr : q.Expr) (turns text begin end : ℕ) (row : Row) (span : Span) (labels : List ℕ) → row ≡ record { span = span; labels = labels } → span ≡ record { text = text; begin = begin; end = end } → end ≡ begin + width_over expr turns →
    labels ≡ united no_labels (labels_over expr turns begin) → row ≡ row_over expr turns text begin
made_over expr turns text begin end row span labels is at to set =
    let these : labels ≡ labels_over expr turns begin = set ∙ only_these (labels_over expr turns begin) (nine_over expr turns begin) in
    is ∙ (λ i. record { span = (at ∙ ap (λ (n : ℕ). record { text = text; begin = begin; end = n }) to) i; labels = these i })

module _ (tables : Tables) (expr : q.Expr) (before : List Resolved) (gap : Resolved) (after : List Resolved) (least most text : ℕ) (are : AreTestsAround tables expr before gap after least most) (here : text < length tables.texts) where
  low : first_place tables text + told_tokens tables text ≤ token_count tables
  low = let next = next_first tables text here in let in_it = in_segment tables (text + 1) in omega (arith, next, in_it)

  heads_count : length before ≡ length are.heads
  heads_count = same_count (Resolves tables) are.heads before are.heads_are

  tails_count : length after ≡ length are.tails
  tails_count = same_count (Resolves tables) are.tails after are.tails_are

  pub width_is : (turns : ℕ) → width_over expr turns ≡ length before + turns + length after
  width_is turns = let w = wide expr are.heads are.test are.tails least most turns are.is in let a = heads_count in let b = tails_count in omega (arith, w, a, b)

  -- ---- what is met

  record IsMet (begin turns : ℕ) : Type 0 where
    head : AreMet tables text before begin
    middle : IsMetOver tables text gap (begin + length before) turns
    tail : AreMet tables text after (begin + length before + turns)

  to_hold : (begin turns : ℕ) → IsMet begin turns → HoldOver (told tables text) are.heads are.test are.tails begin turns
  to_hold begin turns met =
      let next = next_first tables text here in
      let heads = heads_count in
      let a = met.head.inside in
      let b = met.middle.inside in
      let c = met.tail.inside in
      let l = low in
      let to : begin + length before + turns ≡ begin + length are.heads + turns = omega (arith, heads) in
      let at : first_place tables text + begin + length before + turns ≡ first_place tables text + (begin + length before + turns) = omega arith in
      record {
        head = say_hold (told tables text) tables (first_place tables text) (λ test p h. h) low are.heads before begin are.heads_are (omega (arith, a, next)) met.head.say;
        middle = λ n h.
            let e : first_place tables text + (begin + length before) + n ≡ first_place tables text + (begin + length are.heads + n) = omega (arith, heads) in (
              omega (arith, heads, b, next, h),
              subst (λ (p : ℕ). HoldsAt tables are.test p) e ((are.test_is (first_place tables text + (begin + length before) + n) (omega (arith, heads, b, next, h, l))).0 (met.middle.say n h)),
            );
        tail = subst (HoldFrom (told tables text) are.tails) to (say_hold (told tables text) tables (first_place tables text) (λ test p h. h) low are.tails after (begin + length before + turns) are.tails_are (omega (arith, c, next)) met.tail.say);
      }

  of_hold : (begin turns : ℕ) → begin + (length are.heads + turns + length are.tails) ≤ told_tokens tables text → HoldOver (told tables text) are.heads are.test are.tails begin turns → IsMet begin turns
  of_hold begin turns inside h =
      let next = next_first tables text here in
      let heads = heads_count in
      let tails = tails_count in
      let l = low in
      let to : begin + length are.heads + turns ≡ begin + length before + turns = omega (arith, heads) in
      record {
        head = record { inside = omega (arith, next, heads, inside); say = hold_say (told tables text) tables (first_place tables text) (λ test p h. h) low are.heads before begin are.heads_are h.head };
        middle = record {
          inside = omega (arith, next, heads, inside);
          say = λ n k.
              let e : first_place tables text + (begin + length are.heads + n) ≡ first_place tables text + (begin + length before) + n = omega (arith, heads) in
              let x = h.middle n k in
              (are.test_is (first_place tables text + (begin + length before) + n) (omega (arith, heads, inside, next, k, l))).1 (subst (λ (p : ℕ). HoldsAt tables are.test p) e x.1);
        };
        tail = record {
          inside = omega (arith, next, heads, tails, inside);
          say = hold_say (told tables text) tables (first_place tables text) (λ test p h. h) low are.tails after (begin + length before + turns) are.tails_are (subst (HoldFrom (told tables text) are.tails) to h.tail);
        };
      }

  -- ---- a row, and how many tokens its gap has

  record HasTurns (begin : ℕ) (row : Row) : Type 0 where
    turns : ℕ
    least_is : least ≤ turns
    most_is : turns ≤ most
    met : IsMet begin turns
    end_is : row.span.end ≡ begin + (length before + turns + length after)
    row_is : row ≡ row_over expr turns text begin

  has_turns : (begin : ℕ) (row : Row) → IsRowFrom (told tables text) expr text begin row → HasTurns begin row
  has_turns begin row is =
      let x = matched_over (told tables text) expr are.heads are.test are.tails least most are.is begin row.span.end row.labels is.matches in
      let heads = heads_count in
      let tails = tails_count in
      let end = x.end_is in
      let inside = is.inside in
      let w = width_is x.turns in
      let to : row.span.end ≡ begin + width_over expr x.turns = omega (arith, heads, tails, end, w) in
      record {
        turns = x.turns;
        least_is = x.low;
        most_is = x.high;
        met = of_hold begin x.turns (omega (arith, end, inside)) x.hold;
        end_is = omega (arith, heads, tails, end);
        row_is = λ i. record { span = record { text = is.text_is i; begin = is.begin_is i; end = to i }; labels = x.labels_are i };
      }

  pub as_row : (begin turns : ℕ) → least ≤ turns → turns ≤ most → AreMet tables text before begin → IsMetOver tables text gap (begin + length before) turns → AreMet tables text after (begin + length before + turns) → 0 < length before + turns + length after →
      IsRowLong tables expr text begin (length before + turns + length after) (row_over expr turns text begin)
  as_row begin turns from to head middle tail some =
      let next = next_first tables text here in
      let inside = tail.inside in
      let w = width_is turns in
      record {
        is = record {
          text_is = refl;
          begin_is = refl;
          some = omega (arith, w, some);
          inside = omega (arith, w, next, inside);
          matches = matches_over (told tables text) expr are.heads are.test are.tails least most are.is begin turns from to (to_hold begin turns (record { head = head; middle = middle; tail = tail }));
        };
        long = omega (arith, w);
      }

  -- ---- the rows with so many tokens in the gap

  module _ (begin turns : ℕ) where
    abbrev Long : Row → Type 0
    Long row = IsRowLong tables expr text begin (length before + turns + length after) row

    same_turns : (row : Row) → Long row → (h : HasTurns begin row) → h.turns ≡ turns
    same_turns row r h = let a = r.long in let b = h.end_is in omega (arith, a, b)

    pub no_row_over : (room : ℕ) (old : List Row) → (AreMet tables text after (begin + length before + turns) → 0 < length before + turns + length after → ⊥) →
        Appends (λ row. IsRowLong tables expr text begin (length before + turns + length after) row) room old old
    no_row_over room old none = record {
      rows = [];
      are = record {
        ascending = nothing_ascends;
        only = λ row c. absurd (none_in row c);
        each = λ row r.
            let h = has_turns begin row r.is in
            let same = same_turns row r h in
            let some = r.is.some in
            let long = r.long in
            absurd (none (subst (λ (n : ℕ). AreMet tables text after (begin + length before + n)) same h.met.tail) (omega (arith, some, long)));
      };
      within = omega arith;
      appended = sym (append-nil old);
    }

    pub one_row_over : (room : ℕ) (old new : List Row) → IsRowLong tables expr text begin (length before + turns + length after) (row_over expr turns text begin) → 0 < room → new ≡ old ++ row_over expr turns text begin ∷ [] →
        Appends (λ row. IsRowLong tables expr text begin (length before + turns + length after) row) room old new
    one_row_over room old new is some e = record {
      rows = row_over expr turns text begin ∷ [];
      are = record {
        ascending = one_ascends (row_over expr turns text begin);
        only = λ row c. subst Long (the_one row c) is;
        each = λ row r. let h = has_turns begin row r.is in (0, omega arith, sym (h.row_is ∙ ap (λ (n : ℕ). row_over expr n text begin) (same_turns row r h)));
      };
      within = omega (arith, some);
      appended = e;
    }
      where
        the_one : (row : Row) → Contains (row_over expr turns text begin ∷ []) row → row_over expr turns text begin ≡ row
        the_one row (zero, l, e) = e
        the_one row (suc k, l, e) = absurd (omega (arith, l))

  -- ---- the rows from one place on

  module _ (begin : ℕ) where
    abbrev Short : ℕ → Row → Type 0
    Short turns row = IsRowShort tables expr text begin (length before + turns + length after) row

    pub none_short : ListsAll row_cmp (λ row. IsRowShort tables expr text begin (length before + least + length after) row) []
    none_short = record {
      ascending = nothing_ascends;
      only = λ row c. absurd (none_in row c);
      each = λ row r. let h = has_turns begin row r.is in let a = r.short in let b = h.end_is in let c = h.least_is in absurd (omega (arith, a, b, c));
    }

    longer_last : (turns : ℕ) (x y : Row) → Short turns x → IsRowLong tables expr text begin (length before + turns + length after) y → row_cmp x y ≡ Less
    longer_last turns x y a b =
        let short = a.short in
        let long = b.long in
        ends_before x y (a.is.text_is ∙ sym b.is.text_is) (a.is.begin_is ∙ sym b.is.begin_is) (omega (arith, short, long))

    pub next_over : (turns : ℕ) (rows some : List Row) → ListsAll row_cmp (λ row. IsRowShort tables expr text begin (length before + turns + length after) row) rows →
        ListsAll row_cmp (λ row. IsRowLong tables expr text begin (length before + turns + length after) row) some → ListsAll row_cmp (λ row. IsRowShort tables expr text begin (length before + (turns + 1) + length after) row) (rows ++ some)
    next_over turns rows some a b =
        both_listed (Short turns) (λ row. IsRowLong tables expr text begin (length before + turns + length after) row) (Short (turns + 1)) rows some (longer_last turns)
        (λ x h. let short = h.short in record { is = h.is; short = omega (arith, short) }) (λ x h. let long = h.long in record { is = h.is; short = omega (arith, long) })
        (λ x h. let short = h.short in elim (cases_lt x.span.end (begin + (length before + turns + length after))) [
          | inl less ↦ inl (record { is = h.is; short = less })
          | inr more ↦ inr (record { is = h.is; long = omega (arith, short, more) })
        ]) a b

    pub all_over : (reach turns : ℕ) (rows : List Row) → IsReach tables text gap (begin + length before) most reach → reach + 1 ≤ turns → ListsAll row_cmp (λ row. IsRowShort tables expr text begin (length before + turns + length after) row) rows →
        ListsAll row_cmp (λ row. IsRowFrom (told tables text) expr text begin row) rows
    all_over reach turns rows r last a = record {
      ascending = a.ascending;
      only = λ row c. (a.only row c).is;
      each = λ row is.
          let h = has_turns begin row is in
          let high = h.most_is in
          let end = h.end_is in
          let inside = h.met.middle.inside in
          elim (cases_lt reach h.turns) [
            | inl more ↦ absurd (r.last (omega (arith, more, high)) (omega (arith, more, inside)) (h.met.middle.say reach more))
            | inr few ↦ a.each row (record { is = is; short = omega (arith, end, few, last) })
          ];
    }

    pub longer_over : (turns left room : ℕ) (rows : List Row) (row : Row) → ListsAll row_cmp (λ row. IsRowShort tables expr text begin (length before + turns + length after) row) rows →
        IsRowLong tables expr text begin (length before + turns + length after) row → left ≡ 0 → room ≤ length rows + left → HasLonger (λ row. IsRowFrom (told tables text) expr text begin row) room
    longer_over turns left room rows row a b none full =
        more_listed (Short turns) (λ row. IsRowLong tables expr text begin (length before + turns + length after) row) (λ row. IsRowFrom (told tables text) expr text begin row) rows left room (longer_last turns) (λ x h. h.is) (λ x h. h.is) a
        (record { rows = row ∷ []; ascending = one_ascends row; only = λ x c. subst (λ y. IsRowLong tables expr text begin (length before + turns + length after) y) (the_one x c) b; more = omega (arith, none) }) full
      where
        the_one : (x : Row) → Contains (row ∷ []) x → row ≡ x
        the_one x (zero, l, e) = e
        the_one x (suc k, l, e) = absurd (omega (arith, l))

    pub no_row_from : (room : ℕ) (old : List Row) → (AreMet tables text before begin → ⊥) → Appends (λ row. IsRowFrom (told tables text) expr text begin row) room old old
    no_row_from room old none = record {
      rows = [];
      are = record { ascending = nothing_ascends; only = λ row c. absurd (none_in row c); each = λ row is. absurd (none (has_turns begin row is).met.head) };
      within = omega arith;
      appended = sym (append-nil old);
    }

-- ---- one begin after another

module _ (tables : Tables) (expr : q.Expr) (text : ℕ) where
  pub none_begun : ListsAll row_cmp (λ row. BeginsBelow (told tables text) expr text 0 row) []
  none_begun = record { ascending = nothing_ascends; only = λ row c. absurd (none_in row c); each = λ row r. let l = r.below in absurd (omega (arith, l)) }

  of_text : (begin : ℕ) (row : Row) → IsRowFrom (told tables text) expr text begin row → IsRowOfText (told tables text) expr text row
  of_text begin row r =
      let some = r.some in
      let at = r.begin_is in
      record { text_is = r.text_is; some = omega (arith, some, at); inside = r.inside; matches = subst (λ (b : ℕ). m.Matches (told tables text) expr b row.span.end row.labels) (sym at) r.matches }

  of_begin : (begin : ℕ) (row : Row) → row.span.begin ≡ begin → IsRowOfText (told tables text) expr text row → IsRowFrom (told tables text) expr text begin row
  of_begin begin row at r =
      let some = r.some in
      record { text_is = r.text_is; begin_is = at; some = omega (arith, some, at); inside = r.inside; matches = subst (λ (b : ℕ). m.Matches (told tables text) expr b row.span.end row.labels) at r.matches }

  later_last : (begin : ℕ) (x y : Row) → BeginsBelow (told tables text) expr text begin x → IsRowFrom (told tables text) expr text begin y → row_cmp x y ≡ Less
  later_last begin x y a b = let below = a.below in let at = b.begin_is in begins_before x y (a.is.text_is ∙ sym b.text_is) (omega (arith, below, at))

  pub next_begin : (begin : ℕ) (rows some : List Row) → ListsAll row_cmp (λ row. BeginsBelow (told tables text) expr text begin row) rows → ListsAll row_cmp (λ row. IsRowFrom (told tables text) expr text begin row) some →
      ListsAll row_cmp (λ row. BeginsBelow (told tables text) expr text (begin + 1) row) (rows ++ some)
  next_begin begin rows some a b =
      both_listed (λ row. BeginsBelow (told tables text) expr text begin row) (λ row. IsRowFrom (told tables text) expr text begin row) (λ row. BeginsBelow (told tables text) expr text (begin + 1) row) rows some (later_last begin)
      (λ x h. let below = h.below in record { is = h.is; below = omega (arith, below) }) (λ x h. let at = h.begin_is in record { is = of_text begin x h; below = omega (arith, at) })
      (λ x h. let below = h.below in elim (cases_lt x.span.begin begin) [
        | inl less ↦ inl (record { is = h.is; below = less })
        | inr more ↦ inr (of_begin begin x (omega (arith, below, more)) h.is)
      ]) a b

  pub all_begins : (begin : ℕ) (rows : List Row) → told_tokens tables text ≤ begin → ListsAll row_cmp (λ row. BeginsBelow (told tables text) expr text begin row) rows → ListsAll row_cmp (λ row. IsRowOfText (told tables text) expr text row) rows
  all_begins begin rows last a = record {
    ascending = a.ascending;
    only = λ row c. (a.only row c).is;
    each = λ row is. let some = is.some in let inside = is.inside in a.each row (record { is = is; below = omega (arith, some, inside, last) });
  }

  pub longer_from : (begin left room : ℕ) (rows : List Row) → ListsAll row_cmp (λ row. BeginsBelow (told tables text) expr text begin row) rows → HasLonger (λ row. IsRowFrom (told tables text) expr text begin row) left → room ≤ length rows + left →
      HasLonger (λ row. IsRowOfText (told tables text) expr text row) room
  longer_from begin left room rows a b full =
      more_listed (λ row. BeginsBelow (told tables text) expr text begin row) (λ row. IsRowFrom (told tables text) expr text begin row) (λ row. IsRowOfText (told tables text) expr text row) rows left room (later_last begin) (λ x h. h.is) (of_text begin) a b full
