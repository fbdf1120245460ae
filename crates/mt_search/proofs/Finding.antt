-- What is found in some texts, and then in those of one segment more.
use Rattle.std.proofs.Common.{◌≡◌, ℕ, ◌+◌, ◌<◌, List, [], ◌++◌, length, length-append, map, get_or, replicate, sym, ◌∙◌, ap, ap₂, subst, arith}
use Rattle.std.specs.List.{All, Contains}
use Rattle.std.specs.List.Sorted.{IsStrictlySortedBy}
use Rattle.std.proofs.lemmas.List.{get_or-replicate, length-map}
use Rattle.std.proofs.lemmas.List.Elements.{All-nil, All-cons, All-append, All-contains_itself}
use Rattle.std.proofs.lemmas.Option.{slice_get_within}
use Rattle.mt_text_spec.specs.Registries.{Registry}
use Rattle.mt_text_spec.specs.Texts.{Text, Row}
use Rattle.mt_text_spec.specs.Queries.{Expr, Filters, NoMore, More, Query}
use Rattle.mt_text_spec.specs.Orders.{row_cmp}
use Rattle.mt_query_spec.specs.Valid.{ValidExpr, ValidFilters}
use Rattle.mt_eval_spec.specs.Fits.{Fits}
use Rattle.mt_match_spec.specs.Values.{Images}
use Rattle.mt_match_spec.specs.Rows.{Rows}
use Rattle.mt_match_spec.specs.Kept.{Kept, Over, operand_rows_limit}
use Rattle.mt_match_laws.specs.Laws.{HaveRows, RowsAreOne}
use Rattle.mt_segment_spec.specs.Tables.{Tables}
use Rattle.mt_eval_spec.specs.RowsIn.{EachLeaves, KeptIn, RowsIn, SomePasses, expr_at, heads, operands}
use Rattle.mt_corpus_spec.specs.Groups.{Group, live_texts}
use Rattle.mt_corpus_spec.specs.Segments.{live_numbers}
use Rattle.mt_decode_laws.specs.Laws.{LiveTextsAreNumbered}
use Rattle.mt_corpus_laws.specs.Joined.{KeptAreJoined, OverIsSome, RowsAreJoined, RowsGoOn, SomeHasTooMany, placed}
use Rattle.mt_search.specs.Finds.{AreInOrder, Finds, IsNext}

-- ---- nothing

nothing_ascends : IsStrictlySortedBy row_cmp []
unfolding IsStrictlySortedBy
nothing_ascends = tt

nothing_there : (row : Row) → Contains [] row → ⊥
nothing_there row (k, l, e) = omega (arith, l)

pub none_in_order : AreInOrder [] 0
none_in_order = record { ascending = nothing_ascends; within = All-nil (λ row. row.span.text < 0) }

module _ (images : Images) (registry : Registry) where
  no_rows : (expr : Expr) → Rows images registry [] expr []
  no_rows expr = record { ascending = nothing_ascends; only = λ row c. absurd (nothing_there row c); each = λ row is. let l = slice_get_within [] row.span.text is.text is.there in absurd (omega (arith, l)) }

  none_kept : (query : Query) → Kept images registry [] query []
  none_kept query = record { ascending = nothing_ascends; only = λ row c. absurd (nothing_there row c); each = λ row k. absurd (nothing_there row ((no_rows query.head).each row k.is_row)) }

  pub found_nothing : (query : Query) → Finds images registry [] query [] (replicate (length (heads query)) operand_rows_limit) 0
  found_nothing query = record {
    kept = none_kept query;
    leaves = λ number l. record { rows = []; are = no_rows (expr_at (heads query) number); split = let at = get_or-replicate (length (heads query)) number operand_rows_limit 0 l in omega (arith, at) };
    count = omega arith;
  }

  pub found_none : (query : Query) (rows : List Row) (rooms : List ℕ) → rows ≡ [] → rooms ≡ replicate (length (heads query)) operand_rows_limit → Finds images registry [] query rows rooms 0
  found_none query rows rooms e f =
      subst (λ (rs : List Row). Finds images registry [] query rs rooms 0) (sym e) (subst (λ (ns : List ℕ). Finds images registry [] query [] ns 0) (sym f) (found_nothing query))

-- ---- the rows of a segment

pub listed_in : (tables : Tables) (live : List ℕ) (query : Query) (rows : List Row) → KeptIn tables live query rows → All (λ row. Contains live row.span.text) rows
listed_in tables live query rows kept k d l = (kept.only (get_or rows k d) (All-contains_itself rows k d l)).is_row.listed

-- ---- the expressions of a query that fits

valid_operands : (registry : Registry) (filters : Filters) → ValidFilters registry filters → All (ValidExpr registry) (operands filters)
valid_operands registry NoMore v = All-nil (ValidExpr registry)
valid_operands registry (More kind head filters others) v =
    All-cons (ValidExpr registry) head _ v.0 (All-append (ValidExpr registry) (operands filters) (operands others) (valid_operands registry filters v.2) (valid_operands registry others v.3))

valid_at : (registry : Registry) (query : Query) → Fits registry query → (number : ℕ) → number < length (heads query) → ValidExpr registry (expr_at (heads query) number)
valid_at registry query v number l = All-cons (ValidExpr registry) query.head (operands query.filters) v.head (valid_operands registry query.filters v.filters) number _ l

-- ---- one segment more

module _ (images : Images) (registry : Registry) (corpus : List Text) (query : Query) (group : Group) (tables : Tables) (live : List ℕ) (next : IsNext images registry query group tables live)
    (rows : List Row) (rooms : List ℕ) (texts : ℕ) (finds : Finds images registry corpus query rows rooms texts) where
  same_placed : (found : List Row) → rows ++ map (placed (length corpus) (live_numbers 0 group)) found ≡ rows ++ map (placed texts live) found
  same_placed found = ap₂ (λ (before : ℕ) (numbers : List ℕ). rows ++ map (placed before numbers) found) (sym finds.count) (sym next.numbers)

  -- the rows of an expression in the texts so far and in those of the segment
  joined_rows : RowsAreJoined → (number : ℕ) → number < length (heads query) → (old found : List Row) → Rows images registry corpus (expr_at (heads query) number) old → RowsIn tables live (expr_at (heads query) number) found →
      Rows images registry (corpus ++ live_texts group) (expr_at (heads query) number) (old ++ map (placed (length corpus) (live_numbers 0 group)) found)
  joined_rows law number l old found was are =
      law images registry corpus group tables (expr_at (heads query) number) old found (valid_at registry query next.fits number l) next.tell was
      (subst (λ (ns : List ℕ). RowsIn tables ns (expr_at (heads query) number) found) next.numbers are)

  joined_count : (old found : List Row) → length (old ++ map (placed (length corpus) (live_numbers 0 group)) found) ≡ length old + length found
  joined_count old found =
      let both = length-append old (map (placed (length corpus) (live_numbers 0 group)) found) in
      let same = length-map found (placed (length corpus) (live_numbers 0 group)) in
      omega (arith, both, same)

  room_at : (left : List ℕ) (number : ℕ) → get_or left (0 + number) 0 ≡ get_or left number 0
  room_at left number = ap (λ (n : ℕ). get_or left n 0) (let none : 0 + number ≡ number = omega arith in none)

  pub found_more : KeptAreJoined → RowsAreJoined → LiveTextsAreNumbered → (found all : List Row) (left : List ℕ) (count : ℕ) → KeptIn tables live query found → EachLeaves tables live (heads query) 0 rooms left →
      all ≡ rows ++ map (placed texts live) found → count ≡ texts + length live → Finds images registry (corpus ++ live_texts group) query all left count
  found_more kept_law rows_law numbered found all left count kept leaves is counted = record {
    kept = subst (Kept images registry (corpus ++ live_texts group) query) (same_placed found ∙ sym is)
        (kept_law images registry corpus group tables query rows found next.fits next.tell finds.kept (subst (λ (ns : List ℕ). KeptIn tables ns query found) next.numbers kept));
    leaves = λ number l.
        let old = finds.leaves number l in
        let new = leaves.each number l in
        let split = old.split in
        let within = new.within in
        let long = joined_count old.rows new.rows in
        let before = room_at rooms number in
        let after = room_at left number in
        record {
          rows = old.rows ++ map (placed (length corpus) (live_numbers 0 group)) new.rows;
          are = joined_rows rows_law number l old.rows new.rows old.are new.are;
          split = omega (arith, split, within, long, before, after);
        };
    count =
        let both = length-append corpus (live_texts group) in
        let long = (numbered group).count in
        let same = ap length next.numbers in
        let was = finds.count in
        omega (arith, counted, was, both, long, same);
  }

  pub passes_limit : RowsAreJoined → SomePasses tables live (heads query) 0 rooms → SomeHasTooMany images registry (corpus ++ live_texts group) (heads query)
  passes_limit law some =
      let old = finds.leaves some.number some.within in
      let split = old.split in
      let more = some.passes.more in
      let long = joined_count old.rows some.passes.rows in
      let before = room_at rooms some.number in
      record {
        number = some.number;
        within = some.within;
        has = record {
          rows = old.rows ++ map (placed (length corpus) (live_numbers 0 group)) some.passes.rows;
          are = joined_rows law some.number some.within old.rows some.passes.rows old.are some.passes.are;
          more = omega (arith, split, more, long, before);
        };
      }

-- ---- all texts

module _ (images : Images) (registry : Registry) where
  -- what has too many rows in the first texts has too many in all
  pub too_many_go_on : HaveRows → RowsGoOn → (first more : List Text) (exprs : List Expr) → SomeHasTooMany images registry first exprs → SomeHasTooMany images registry (first ++ more) exprs
  too_many_go_on have law first more exprs some =
      let expr = expr_at exprs some.number in
      let all = have images registry (first ++ more) expr in
      let low = law images registry first more expr some.has.rows all.0 some.has.are all.1 in
      let above = some.has.more in
      record { number = some.number; within = some.within; has = record { rows = all.0; are = all.1; more = omega (arith, low, above) } }

  -- where the limit was enough for each expression, none has too many rows
  pub not_over : OverIsSome → RowsAreOne → (corpus : List Text) (query : Query) (rows : List Row) (rooms : List ℕ) (texts : ℕ) → Finds images registry corpus query rows rooms texts → Over images registry corpus query → ⊥
  not_over law one corpus query rows rooms texts finds over =
      let some = (law images registry corpus query).on over in
      let leaves = finds.leaves some.number some.within in
      let same = ap length (one images registry corpus (expr_at (heads query) some.number) some.has.rows leaves.rows some.has.are leaves.are) in
      let more = some.has.more in
      let split = leaves.split in
      omega (arith, same, more, split)
