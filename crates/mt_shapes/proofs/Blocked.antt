-- Rows whose spans are put into a block.
use Rattle.std.proofs.Common.{◌≡◌, ℕ, ◌+◌, ◌-◌, ◌%◌, ◌<◌, ◌≤◌, Bool, true, false, List, [], ◌∷◌, ◌++◌, length, take, set, refl, sym, ◌∙◌, ap, subst, arith}
use Rattle.std.proofs.lemmas.List.{length-append, length-map, length-take-le, append-nil, append_assoc, map_push, take_more_set, take-set}
use mir.Val.{bool_byte}
use Rattle.mt_text_spec.specs.Texts.{Span, Row, unset}
use Rattle.mt_match_spec.specs.Labels.{no_labels}
use Rattle.mt_places.specs.Places.{In}
use Rattle.mt_rows.specs.Appends.{Appends, Begins}
use Rattle.mt_automaton.specs.RowsFrom.{HasLonger}
use Rattle.mt_automaton.specs.Windows.{moved}
use Rattle.mt_shapes.specs.declared.table.Entry.{Entry}
use Rattle.mt_shapes.specs.Blocks.{AreUnlabelled, bare, bare_rows}
use Rattle.mt_shapes.specs.Shapes.{row_of}
use Rattle.mt_shapes.specs.Tables.{entry, Fine, IsRowBelow}
use Rattle.mt_shapes.proofs.Listed.{next_row, no_row, row_fits}

-- ## Rows of spans

pub bare_push : (spans : List Span) (span : Span) → bare_rows (spans ++ span ∷ []) ≡ bare_rows spans ++ bare span ∷ []
bare_push spans span = map_push (λ (s : Span). bare s) spans span

pub bare_count : (spans : List Span) (n : ℕ) → n ≤ length spans → length (bare_rows (take n spans)) ≡ n
bare_count spans n l = length-map (take n spans) (λ (s : Span). bare s) ∙ length-take-le n spans l

-- one more of the spans is appended
pub next_span : (all : List Row) (spans : List Span) (span : Span) (old new : List Row) → old ≡ all ++ bare_rows spans → new ≡ old ++ bare span ∷ [] → new ≡ all ++ bare_rows (spans ++ span ∷ [])
next_span all spans span old new is more = more ∙ ap (λ (rs : List Row). rs ++ bare span ∷ []) is ∙ append_assoc all (bare_rows spans) (bare span ∷ []) ∙ ap (λ (rs : List Row). all ++ rs) (sym (bare_push spans span))

pub bit_low : (b : Bool) → bool_byte b ≤ 1
bit_low true = omega arith
bit_low false = omega arith

-- what ends at a place that is short enough ends there
pub at_end : (span : Span) (text begin many : ℕ) → span ≡ record { text = text; begin = begin; end = (begin + many) % 4294967296 } → begin + many < unset → span ≡ record { text = text; begin = begin; end = begin + many }
at_end span text begin many is fits = let e : (begin + many) % 4294967296 ≡ begin + many = omega (arith, fits) in is ∙ ap (λ (n : ℕ). record { text = text; begin = begin; end = n }) e

-- ## One entry after another

module _ (tokens : ℕ) (entries : List Entry) (text begin n : ℕ) (span : Span) (count : ℕ) (old : List Row) (block : List Span) (few : tokens < unset) (fine : Fine tokens entries) (low : n < length entries) (unlabelled : AreUnlabelled entries)
    (within : count < length block) (near : length old ≤ count) (far : count ≤ length old + n) (a : Appends (IsRowBelow entries text begin n) (length entries) old (bare_rows (take count block))) where
  -- the entry has a row
  pub put_row : 0 < (entry entries n).shape.length → In (entry entries n).begins begin → span ≡ record { text = text; begin = begin; end = begin + (entry entries n).shape.length }
      → Appends (IsRowBelow entries text begin (n + 1)) (length entries) old (bare_rows (take (count + 1) (set block count span)))
  put_row some is at =
      let many = bare_count block count (omega (arith, within)) in
      let labels : no_labels ≡ moved begin (entry entries n).shape.labels = sym (ap (moved begin) (unlabelled n low)) in
      let row : bare span ≡ row_of (entry entries n).shape text begin = λ i. record { span = at i; labels = labels i } in
      next_row tokens entries text begin n (length entries) (length old + length entries - count) (bare span) old (bare_rows (take count block)) (bare_rows (take (count + 1) (set block count span))) few fine low some is
      (omega (arith, many, far, low)) (omega (arith, far, low)) row (ap bare_rows (take_more_set block count span within) ∙ bare_push (take count block) span) a

  -- the entry has none
  pub leave_row : (0 < (entry entries n).shape.length → In (entry entries n).begins begin → ⊥) → Appends (IsRowBelow entries text begin (n + 1)) (length entries) old (bare_rows (take count (set block count span)))
  leave_row none =
      subst (Appends (IsRowBelow entries text begin (n + 1)) (length entries) old) (ap bare_rows (sym (take-set block count span)))
      (no_row entries text begin n (length entries) old (bare_rows (take count block)) none a)

  -- what the test of the entry says
  pub put_entry : (has : Bool) (item : Entry) → item ≡ entry entries n → (has ≡ true → (0 < item.shape.length) × In item.begins begin) → (has ≡ false → 0 < item.shape.length → In item.begins begin → ⊥)
      → (begin + item.shape.length < unset → span ≡ record { text = text; begin = begin; end = begin + item.shape.length })
      → Appends (IsRowBelow entries text begin (n + 1)) (length entries) old (bare_rows (take (count + bool_byte has) (set block count span)))
  put_entry true item is holds fails at =
      let has = holds refl in
      let fits = row_fits tokens entries n begin item few fine low is has.1 in
      put_row (subst (λ (x : Entry). 0 < x.shape.length) is has.0) (subst (λ (x : Entry). In x.begins begin) is has.1) (at fits.0 ∙ ap (λ (x : Entry). record { text = text; begin = begin; end = begin + x.shape.length }) is)
  put_entry false item is holds fails at =
      let e : count ≡ count + bool_byte false = omega arith in
      subst (λ (k : ℕ). Appends (IsRowBelow entries text begin (n + 1)) (length entries) old (bare_rows (take k (set block count span)))) e
      (leave_row (λ some is_in. fails refl (subst (λ (x : Entry). 0 < x.shape.length) (sym is) some) (subst (λ (x : Entry). In x.begins begin) (sym is) is_in)))

-- ## One begin after another

-- what was put into the block for a begin is appended behind what comes before the block, where there is room for it
pub put_behind : (P : Row → Type 0) (bound left before next : ℕ) (out : List Row) (was is : List Span) → before ≤ length was → next ≤ length is → next ≤ before + left → Appends P bound (bare_rows (take before was)) (bare_rows (take next is))
    → Appends P left (out ++ bare_rows (take before was)) (out ++ bare_rows (take next is))
put_behind P bound left before next out was is low high fits a =
    let first = bare_count was before low in
    let both = bare_count is next high in
    let long : length (bare_rows (take next is)) ≡ length (bare_rows (take before was)) + length a.rows = ap length a.appended ∙ length-append (bare_rows (take before was)) a.rows in
    record {
      rows = a.rows;
      are = a.are;
      within = omega (arith, first, both, long, fits);
      appended = ap (λ (rs : List Row). out ++ rs) a.appended ∙ sym (append_assoc out (bare_rows (take before was)) a.rows);
    }

pub put_too_many : (P : Row → Type 0) (bound left before next : ℕ) (was is : List Span) → before ≤ length was → next ≤ length is → left < next - before → Appends P bound (bare_rows (take before was)) (bare_rows (take next is)) → HasLonger P left
put_too_many P bound left before next was is low high over a =
    let first = bare_count was before low in
    let both = bare_count is next high in
    let long : length (bare_rows (take next is)) ≡ length (bare_rows (take before was)) + length a.rows = ap length a.appended ∙ length-append (bare_rows (take before was)) a.rows in
    record { rows = a.rows; ascending = a.are.ascending; only = a.are.only; more = omega (arith, first, both, long, over) }

-- how many rows there are, with those of the block
pub with_block : (out : List Row) (spans : List Span) (n : ℕ) → n ≤ length spans → length (out ++ bare_rows (take n spans)) ≡ length out + n
with_block out spans n l = let many = bare_count spans n l in let long = length-append out (bare_rows (take n spans)) in omega (arith, many, long)

pub begins_more : (first mid last : List Row) → Begins first mid → Begins mid last → Begins first last
begins_more first mid last a b = record { rest = a.rest ++ b.rest; appended = b.appended ∙ ap (λ (k : List Row). k ++ b.rest) a.appended ∙ append_assoc first a.rest b.rest }

pub begins_itself : (rows : List Row) → Begins rows rows
begins_itself rows = record { rest = []; appended = sym (append-nil rows) }
