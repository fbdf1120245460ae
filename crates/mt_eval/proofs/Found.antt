-- The rows of an expression in texts, one text after another.
use Rattle.std.proofs.Common.{◌≡◌, ℕ, ◌+◌, ◌≤◌, List, [], ◌++◌, length, take, drop, inl, inr, slice_get, Some, refl, sym, ap, subst, arith}
use Rattle.std.specs.List.{Contains}
use Rattle.std.proofs.lemmas.List.{length-append, take_all, take-append-drop}
use Rattle.std.proofs.lemmas.Option.{slice_get_within, get_or_from_slice_get}
use Rattle.std.proofs.lemmas.List.Elements.{Contains-append_cases, Contains-append_left}
use Rattle.mt_text_spec.specs.Registries.{Registry}
use Rattle.mt_text_spec.specs.Texts.{Row}
use Rattle.mt_text_spec.specs.Queries.{Expr}
use Rattle.mt_text_spec.specs.Orders.{row_cmp}
use Rattle.mt_query_spec.specs.Valid.{ValidExpr}
use Rattle.mt_match_spec.specs.Rows.{ListsAll}
use Rattle.mt_segment_spec.specs.Tables.{Tables, AreTablesUnder}
use Rattle.mt_automaton.specs.RowsFrom.{IsRowOfText, HasLonger}
use Rattle.mt_rows.specs.Appends.{Appends}
use Rattle.mt_rows.specs.Laws.{lists_alike}
use Rattle.mt_eval_spec.specs.Told.{told}
use Rattle.mt_eval_spec.specs.RowsIn.{IsRowIn, PassesRoom, RowsIn}
use Rattle.mt_eval_laws.specs.Laws.{HaveRowsIn, NoMoreThanAll}
use Rattle.mt_eval.specs.Runs.{AreTexts}
use Rattle.mt_eval.proofs.Behind.{Of, joined, next_text, no_text}

module _ (tables : Tables) (expr : Expr) where
  abbrev InText : ℕ → Row → Type 0
  InText text row = IsRowOfText (told tables text) expr text row

  its_text : (text : ℕ) (row : Row) → IsRowOfText (told tables text) expr text row → row.span.text ≡ text
  its_text text row h = h.text_is

  -- a row in some texts is a row of its text, which is one of them
  to_listed : (texts : List ℕ) (row : Row) → IsRowIn tables texts expr row → Of (λ text row. IsRowOfText (told tables text) expr text row) its_text texts row
  to_listed texts row h = record { listed = h.listed; is = record { text_is = refl; some = h.some; inside = h.inside; matches = h.matches } }

  from_listed : (texts : List ℕ) (row : Row) → Of (λ text row. IsRowOfText (told tables text) expr text row) its_text texts row → IsRowIn tables texts expr row
  from_listed texts row o = record { listed = o.listed; some = o.is.some; inside = o.is.inside; matches = o.is.matches }

  as_listed : (texts : List ℕ) (rows : List Row) → RowsIn tables texts expr rows → ListsAll row_cmp (Of (λ text row. IsRowOfText (told tables text) expr text row) its_text texts) rows
  as_listed texts rows all = lists_alike row_cmp _ _ rows (to_listed texts) (from_listed texts) all

  as_rows : (texts : List ℕ) (rows : List Row) → ListsAll row_cmp (Of (λ text row. IsRowOfText (told tables text) expr text row) its_text texts) rows → RowsIn tables texts expr rows
  as_rows texts rows all = lists_alike row_cmp _ _ rows (from_listed texts) (to_listed texts) all

  pub none_yet : (texts : List ℕ) → RowsIn tables (take 0 texts) expr []
  none_yet texts = as_rows (take 0 texts) [] (no_text (λ text row. IsRowOfText (told tables text) expr text row) its_text texts)

  pub next : (texts : List ℕ) (k text room : ℕ) (old new : List Row) → AreTexts tables texts → slice_get texts k ≡ Some text → RowsIn tables (take k texts) expr old →
      Appends (IsRowOfText (told tables text) expr text) room old new → RowsIn tables (take (k + 1) texts) expr new
  next texts k text room old new are at before a =
      subst (RowsIn tables (take (k + 1) texts) expr) (sym a.appended)
      (as_rows (take (k + 1) texts) (old ++ a.rows) (next_text (λ text row. IsRowOfText (told tables text) expr text row) its_text texts k text old a.rows are.ascending at (as_listed (take k texts) old before) a.are))

  pub within_room : (room whole : ℕ) (old new : List Row) (P : Row → Type 0) → length old + room ≡ whole → Appends P room old new → length new ≤ whole
  within_room room whole old new P e a = let long = length-append old a.rows in let same = ap length a.appended in let within = a.within in omega (arith, e, long, same, within)

  pub all_texts : (texts : List ℕ) (k : ℕ) (rows : List Row) → length texts ≤ k → RowsIn tables (take k texts) expr rows → RowsIn tables texts expr rows
  all_texts texts k rows end are = subst (λ (ts : List ℕ). RowsIn tables ts expr rows) (take_all k texts end) are

  pub too_many : HaveRowsIn → NoMoreThanAll → (registry : Registry) → AreTablesUnder registry tables → ValidExpr registry expr → (texts : List ℕ) (k text room whole : ℕ) (old : List Row) → AreTexts tables texts →
      slice_get texts k ≡ Some text → length old + room ≡ whole → RowsIn tables (take k texts) expr old → HasLonger (IsRowOfText (told tables text) expr text) room → PassesRoom tables texts expr whole
  too_many have no_more registry under valid texts k text room whole old are at e before longer =
      let all = have registry tables texts expr under valid in
      let some = old ++ longer.rows in
      let up = joined (λ text row. IsRowOfText (told tables text) expr text row) its_text texts k text old longer.rows are.ascending at (as_listed (take k texts) old before) longer.ascending longer.only in
      let in_all : (row : Row) → Contains some row → Contains all.0 row = λ row c. all.1.each row (elim (Contains-append_cases old longer.rows row c) [
        | inl was ↦ let h = before.only row was in record { listed = of_front texts k row.span.text h.listed; some = h.some; inside = h.inside; matches = h.matches }
        | inr new ↦ let h = longer.only row new in
            from_listed texts row (record { listed = subst (Contains texts) (sym h.text_is) (at_place texts k text at); is = subst (λ (t : ℕ). IsRowOfText (told tables t) expr t row) (sym h.text_is) h })
      ]) in
      let low = no_more some all.0 up all.1.ascending in_all in
      let long = length-append old longer.rows in
      let more = longer.more in
      record { rows = all.0; are = all.1; more = omega (arith, e, low, long, more) }
    where
      of_front : (texts : List ℕ) (k n : ℕ) → Contains (take k texts) n → Contains texts n
      of_front texts k n c = subst (λ (ts : List ℕ). Contains ts n) (take-append-drop k texts) (Contains-append_left (take k texts) (drop k texts) n c)

      at_place : (texts : List ℕ) (k text : ℕ) → slice_get texts k ≡ Some text → Contains texts text
      at_place texts k text at = (k, slice_get_within texts k text at, get_or_from_slice_get texts k text text at)
