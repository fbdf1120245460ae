-- How many rows entries have.
use Rattle.std.proofs.Common.{◌≡◌, ℕ, ◌+◌, ◌<◌, ◌≤◌, ◌⊎◌, inl, inr, List, length, refl, sym, ◌∙◌, ap, subst, arith}
use Rattle.std.specs.declared.cmp.Ordering.TheVariants.{Less}
use Rattle.std.specs.List.{AllByRecursion}
use Rattle.std.proofs.lemmas.Bool.{cases_eq}
use Rattle.mt_text_spec.specs.Texts.{Row, unset}
use Rattle.mt_text_spec.specs.Orders.{row_cmp, row_cmp_total}
use Rattle.mt_places.specs.Places.{In, room}
use Rattle.mt_automaton.specs.Windows.{FitsBehind}
use Rattle.mt_shapes.specs.declared.table.Entry.{Entry}
use Rattle.mt_shapes.specs.Shapes.{row_of}
use Rattle.mt_shapes.specs.Tables.{entry, Fine, IsRowOf}
use Rattle.mt_shapes.proofs.Bits.{in_room}
use Rattle.mt_shapes.proofs.Labels.{all_fit, same_row_order}
use Rattle.mt_tally.specs.Counts.{CountsBelow, HasCount, HasMore}
use Rattle.mt_tally.specs.Tallies.{IsRowOfEntry, IsRowUpto}
use Rattle.mt_tally.proofs.Counting.{alike, either, image, more_than, none_of, numbers, IsImage}
use Rattle.mt_tally.proofs.Pairing.{not_itself}

-- ## One entry

pub entry_rows : (e : Entry) (text count : ℕ) → 0 < e.shape.length → CountsBelow (room e.begins) (In e.begins) count → HasCount (IsRowOfEntry e text) count
entry_rows e text count some c =
    alike (IsImage (λ (b : ℕ). row_of e.shape text b) (λ k. (k < room e.begins) × In e.begins k)) (IsRowOfEntry e text) count
    (λ row r. record { some = some; begin = r.of; is_in = r.is.1; row_is = r.same })
    (λ row r. record { of = r.begin; is = (in_room e.begins r.begin r.is_in, r.is_in); same = r.row_is })
    (image (λ (b : ℕ). row_of e.shape text b) (λ k. (k < room e.begins) × In e.begins k) count (λ x z p q same. ap (λ (row : Row). row.span.begin) same) (numbers (room e.begins) (In e.begins) count c))

pub no_entry_rows : (e : Entry) (text : ℕ) → e.shape.length ≡ 0 → HasCount (IsRowOfEntry e text) 0
no_entry_rows e text none = none_of (IsRowOfEntry e text) (λ row r. let some = r.some in omega (arith, some, none))

-- ## One entry more

pub no_rows : (entries : List Entry) (text : ℕ) → HasCount (IsRowUpto entries text 0) 0
no_rows entries text = none_of (IsRowUpto entries text 0) (λ row r. let low = r.below in omega (arith, low))

fits : (tokens : ℕ) (entries : List Entry) (i begin : ℕ) → tokens < unset → Fine tokens entries → i < length entries → In (entry entries i).begins begin → AllByRecursion (FitsBehind begin) (entry entries i).shape.labels
fits tokens entries i begin few fine low is =
    let s = fine.suits i low in
    let far = s.inside begin is in
    all_fit begin (entry entries i).shape.length (entry entries i).shape.labels (omega (arith, far, few)) s.labels

-- entries have no row together
apart : (tokens : ℕ) (entries : List Entry) (text n : ℕ) (row : Row) → tokens < unset → Fine tokens entries → n < length entries → IsRowUpto entries text n row → IsRowOfEntry (entry entries n) text row → ⊥
apart tokens entries text n row few fine low r s =
    let one = entry entries r.at in
    let other = entry entries n in
    let below = r.below in
    let here : r.is.begin ≡ s.begin = ap (λ (x : Row). x.span.begin) (sym r.is.row_is ∙ s.row_is) in
    let in_other : In other.begins r.is.begin = subst (In other.begins) (sym here) s.is_in in
    let less : row_cmp (row_of one.shape text r.is.begin) (row_of other.shape text r.is.begin) ≡ Less =
    same_row_order one.shape other.shape text r.is.begin (fits tokens entries r.at r.is.begin few fine (omega (arith, below, low)) r.is.is_in) (fits tokens entries n r.is.begin few fine low in_other)
    ∙ fine.ascending r.at n below low in
    not_itself row_cmp row_cmp_total (row_of one.shape text r.is.begin) (row_of other.shape text r.is.begin) less (ap (λ (b : ℕ). row_of other.shape text b) here ∙ sym s.row_is ∙ r.is.row_is)

pub more_rows : (tokens : ℕ) (entries : List Entry) (e : Entry) (text n count more all : ℕ) → tokens < unset → Fine tokens entries → n < length entries → e ≡ entry entries n → all ≡ count + more → HasCount (IsRowUpto entries text n) count →
    HasCount (IsRowOfEntry e text) more → HasCount (IsRowUpto entries text (n + 1)) all
more_rows tokens entries e text n count more all few fine low item sum c d =
    subst (HasCount (IsRowUpto entries text (n + 1))) (sym sum)
    (alike (λ row. IsRowUpto entries text n row ⊎ IsRowOfEntry (entry entries n) text row) (IsRowUpto entries text (n + 1)) (count + more)
    (λ row h. elim h [
      | inl r ↦ let below = r.below in record { at = r.at; below = omega (arith, below); is = r.is }
      | inr s ↦ record { at = n; below = omega arith; is = s }
    ])
    (λ row r. elim (cases_eq r.at n) [
      | inl here ↦ inr (subst (λ (k : ℕ). IsRowOfEntry (entry entries k) text row) here r.is)
      | inr other ↦ let below = r.below in inl (record { at = r.at; below = omega (arith, below, other); is = r.is })
    ])
    (either (IsRowUpto entries text n) (IsRowOfEntry (entry entries n) text) count more (λ row r s. apart tokens entries text n row few fine low r s) c
    (subst (λ (x : Entry). HasCount (IsRowOfEntry x text) more) item d)))

-- ## All entries

pub of_entry : (entries : List Entry) (text i : ℕ) (row : Row) → i < length entries → IsRowOfEntry (entry entries i) text row → IsRowOf entries text row
of_entry entries text i row low r =
    let some = r.some in
    subst (IsRowOf entries text) (sym r.row_is)
    (record { text_is = refl; some = omega (arith, some); is = record { at = i; below = low; is = record { is_in = r.is_in; end_is = refl; labels_are = refl } } })

of_all : (entries : List Entry) (text n : ℕ) (row : Row) → n ≤ length entries → IsRowUpto entries text n row → IsRowOf entries text row
of_all entries text n row within r = let below = r.below in of_entry entries text r.at row (omega (arith, below, within)) r.is

pub to_all : (entries : List Entry) (text n : ℕ) (row : Row) → length entries ≤ n → IsRowOf entries text row → IsRowUpto entries text n row
to_all entries text n row end r =
    let some = r.some in
    let low = r.is.below in
    let far = r.is.is.end_is in
    record {
      at = r.is.at;
      below = omega (arith, low, end);
      is = record {
        some = omega (arith, some, far);
        begin = row.span.begin;
        is_in = r.is.is.is_in;
        row_is = λ i. record { span = record { text = r.text_is i; begin = row.span.begin; end = r.is.is.end_is i }; labels = r.is.is.labels_are i };
      };
    }

pub all_rows : (entries : List Entry) (text n count : ℕ) → n ≡ length entries → HasCount (IsRowUpto entries text n) count → HasCount (IsRowOf entries text) count
all_rows entries text n count end c =
    alike (IsRowUpto entries text n) (IsRowOf entries text) count (λ row r. of_all entries text n row (omega (arith, end)) r) (λ row r. to_all entries text n row (omega (arith, end)) r) c

pub too_many : (entries : List Entry) (text n count room : ℕ) → n ≤ length entries → room < count → HasCount (IsRowUpto entries text n) count → HasMore (IsRowOf entries text) room
too_many entries text n count room within l c = more_than (IsRowUpto entries text n) (IsRowOf entries text) count room (λ row r. of_all entries text n row within r) l c
