-- A text of a segment by itself: its rows, as those that tables tell of it.
use Rattle.std.proofs.Common.{◌≡◌, ℕ, zero, suc, ◌+◌, ◌<◌, List, [], ◌∷◌, length, map, get_or, slice_get, slice_index, replicate, Some, refl, sym, ◌∙◌, ap, ap₂, subst, arith}
use Rattle.std.specs.List.{All, Contains}
use Rattle.std.specs.List.Sorted.{IsStrictlySortedBy}
use Rattle.std.proofs.lemmas.List.{get_or-map, get_or-replicate, length-map}
use Rattle.std.proofs.lemmas.List.Elements.{All-nil, All-cons, All-append, All-contains_itself}
use Rattle.std.proofs.lemmas.Option.{same_Some, slice_get_within}
use Rattle.mt_text_spec.specs.Registries.{Registry}
use Rattle.mt_text_spec.specs.Texts.{Text, Row}
use Rattle.mt_text_spec.specs.Queries.{Expr, Filters, NoMore, More, Query}
use Rattle.mt_text_spec.specs.Orders.{row_cmp}
use Rattle.mt_query_spec.specs.Valid.{ValidExpr, ValidFilters}
use Rattle.mt_match_spec.specs.Values.{Images}
use Rattle.mt_match_spec.specs.Rows.{Rows}
use Rattle.mt_match_spec.specs.Kept.{Kept, Keeps, Over, operand_rows_limit}
use Rattle.mt_match_laws.specs.Laws.{RowsAreOne}
use Rattle.mt_segment_spec.specs.Tables.{Tables}
use Rattle.mt_corpus_spec.specs.Groups.{Group, all_texts, live_texts}
use Rattle.mt_corpus_spec.specs.Segments.{live_numbers}
use Rattle.mt_corpus_spec.specs.Decoded.{marked}
use Rattle.mt_decode_laws.specs.Laws.{IsMarked, LiveTextsAreNumbered, NumbersAreLive}
use Rattle.mt_eval_spec.specs.Fits.{Fits}
use Rattle.mt_eval_spec.specs.RowsIn.{EachLeaves, KeptIn, RowsIn, SomePasses, expr_at, heads, operands}
use Rattle.mt_eval_laws.specs.Laws.{Tell}
use Rattle.mt_eval.specs.Runs.{AreTexts}
use Rattle.mt_prepare.specs.Prepared.{IsPrepared, IsReady}
use Rattle.mt_prepare.specs.declared.prepared.Prepared.{Prepared}
use Rattle.mt_corpus_laws.specs.Joined.{KeptAreJoined, OverIsSome, RowsAreJoined, placed}
use Rattle.mt_instances.specs.Laws.{HaveLabels}
use Rattle.mt_grammar_counts.specs.Told.{Tells}
use Rattle.mt_grammar_counts.proofs.Parts.{as_long}

-- ---- lists

pub contains_map : {X Y : Type 0} (f : X → Y) (xs : List X) (x : X) → Contains xs x → Contains (map f xs) (f x)
contains_map f xs x (k, l, e) = (k, omega (arith, l, length-map xs f), get_or-map f xs k x (f x) l ∙ ap f e)

-- an item of a list that is mapped is that of some item
pub record IsMappedFrom {X : Type 0} (f : X → X) (xs : List X) (y : X) : Type 0 where
  pub x : X
  pub there : Contains xs x
  pub is : f x ≡ y

pub mapped_from : {X : Type 0} (f : X → X) (xs : List X) (y : X) → Contains (map f xs) y → IsMappedFrom f xs y
mapped_from f xs y (k, l, e) =
    let low : k < length xs = omega (arith, l, length-map xs f) in
    record { x = get_or xs k y; there = All-contains_itself xs k y low; is = sym (get_or-map f xs k y y low) ∙ e }

one_item : {X : Type 0} (xs : List X) (x : X) → length xs ≡ 1 → slice_get xs 0 ≡ Some x → xs ≡ x ∷ []
one_item [] x l e = cc
one_item (y ∷ []) x l e = ap (λ z. z ∷ []) (same_Some y x e)
one_item (y ∷ z ∷ xs) x l e = absurd (omega (arith, l))

pub alone_listed : (number other : ℕ) → Contains (number ∷ []) other → other ≡ number
alone_listed number other (zero, l, e) = sym e
alone_listed number other (suc k, l, e) = absurd (omega (arith, l))

-- a text by itself is a list of texts of its segment
pub alone_texts : (tables : Tables) (number : ℕ) (listed : List ℕ) → number < length tables.texts → listed ≡ number ∷ [] → AreTexts tables listed
alone_texts tables number listed within alone =
    subst (AreTexts tables) (sym alone) (record { ascending = λ i j d l m. absurd (omega (arith, l, m)); within = at })
  where
    at : (k d : ℕ) → k < 1 → get_or (number ∷ []) k d < length tables.texts
    at zero d l = within
    at (suc k) d l = absurd (omega arith)

-- so many rooms as there are expressions
pub whole_rooms : (tables : Tables) (query : Query) (prepared : Prepared) (count : ℕ) (rooms : List ℕ) → IsPrepared tables query prepared → count ≡ length prepared.exprs → rooms ≡ replicate count operand_rows_limit →
    rooms ≡ replicate (length (heads query)) operand_rows_limit
whole_rooms tables query prepared count rooms ready long whole = whole ∙ ap (λ n. replicate n operand_rows_limit) (long ∙ as_long (IsReady tables) (heads query) prepared.exprs ready)

-- ---- no texts

nothing_ascends : IsStrictlySortedBy row_cmp []
unfolding IsStrictlySortedBy
nothing_ascends = tt

nothing_there : (row : Row) → Contains [] row → ⊥
nothing_there row (k, l, e) = omega (arith, l)

module _ (images : Images) (registry : Registry) where
  no_rows : (expr : Expr) → Rows images registry [] expr []
  no_rows expr = record { ascending = nothing_ascends; only = λ row c. absurd (nothing_there row c); each = λ row is. let l = slice_get_within [] row.span.text is.text is.there in absurd (omega (arith, l)) }

  none_kept : (query : Query) → Kept images registry [] query []
  none_kept query = record { ascending = nothing_ascends; only = λ row c. absurd (nothing_there row c); each = λ row k. absurd (nothing_there row ((no_rows query.head).each row k.is_row)) }

-- ---- the expressions of a query that fits

valid_operands : (registry : Registry) (filters : Filters) → ValidFilters registry filters → All (ValidExpr registry) (operands filters)
valid_operands registry NoMore v = All-nil (ValidExpr registry)
valid_operands registry (More kind head filters others) v =
    All-cons (ValidExpr registry) head _ v.0 (All-append (ValidExpr registry) (operands filters) (operands others) (valid_operands registry filters v.2) (valid_operands registry others v.3))

valid_at : (registry : Registry) (query : Query) → Fits registry query → (number : ℕ) → number < length (heads query) → ValidExpr registry (expr_at (heads query) number)
valid_at registry query v number l = All-cons (ValidExpr registry) query.head (operands query.filters) v.head (valid_operands registry query.filters v.filters) number _ l

-- ---- one text

module _ (marks_law : NumbersAreLive) (numbered : LiveTextsAreNumbered) (images : Images) (registry : Registry) (tables : Tables) (number : ℕ) (text : Text) (tells : Tells images registry tables number text) where
  -- the texts of the segment, of which this one alone is live
  group : Group
  group = marked 0 tells.corpus (number ∷ [])

  marks : IsMarked tells.corpus (number ∷ [])
  marks = marks_law tells.corpus (number ∷ []) (λ i j d l m. absurd (omega (arith, l, m))) within
    where
      low : number < length tells.corpus
      low = slice_get_within tells.corpus number text tells.there

      within : (k d : ℕ) → k < 1 → get_or (number ∷ []) k d < length tells.corpus
      within zero d l = low
      within (suc k) d l = absurd (omega arith)

  texts_are : all_texts group ≡ tells.corpus
  unfolding group
  texts_are = marks.texts_are

  numbers_are : live_numbers 0 group ≡ number ∷ []
  unfolding group
  numbers_are = marks.live_are

  live_are : live_texts group ≡ text ∷ []
  live_are =
      let n = numbered group in
      let one : length (live_numbers 0 group) ≡ 1 = ap length numbers_are in
      one_item (live_texts group) text (n.count ∙ one)
      (n.each 0 (omega (arith, one)) ∙ ap₂ (λ (ts : List Text) (ns : List ℕ). slice_get ts (slice_index ns 0)) texts_are numbers_are ∙ tells.there)

  tell : Tell images registry (all_texts group) tables
  tell = subst (λ (ts : List Text). Tell images registry ts tables) (sym texts_are) tells.tell

  renamed : Row → Row
  renamed = placed 0 (live_numbers 0 group)

  kept_alone : KeptAreJoined → (query : Query) (rows : List Row) → Fits registry query → KeptIn tables (number ∷ []) query rows → Kept images registry (text ∷ []) query (map renamed rows)
  unfolding renamed
  kept_alone law query rows fits kept =
      subst (λ (ts : List Text). Kept images registry ts query (map (placed 0 (live_numbers 0 group)) rows)) live_are
      (law images registry [] group tables query [] rows fits tell (none_kept images registry query) (subst (λ (ns : List ℕ). KeptIn tables ns query rows) (sym numbers_are) kept))

  rows_alone : RowsAreJoined → (expr : Expr) (rows : List Row) → ValidExpr registry expr → RowsIn tables (number ∷ []) expr rows → Rows images registry (text ∷ []) expr (map renamed rows)
  unfolding renamed
  rows_alone law expr rows valid are =
      subst (λ (ts : List Text). Rows images registry ts expr (map (placed 0 (live_numbers 0 group)) rows)) live_are
      (law images registry [] group tables expr [] rows valid tell (no_rows images registry expr) (subst (λ (ns : List ℕ). RowsIn tables ns expr rows) (sym numbers_are) are))

  same_labels : (row : Row) → (renamed row).labels ≡ row.labels
  unfolding renamed
  same_labels row = refl

  -- the rows that tables tell have the labels of those that the query keeps
  pub have_labels : KeptAreJoined → (query : Query) (rows : List Row) → Fits registry query → KeptIn tables (number ∷ []) query rows → HaveLabels images registry text query rows
  have_labels law query rows fits kept =
      let all = kept_alone law query rows fits kept in
      record {
        only = λ row c. record {
          span = (renamed row).span;
          is =
              let keeps = all.only (renamed row) (contains_map renamed rows row c) in
              subst (λ (labels : List ℕ). Keeps images registry (text ∷ []) query (record { span = (renamed row).span; labels = labels })) (same_labels row) keeps;
        };
        each = λ row keeps.
            let from = mapped_from renamed rows row (all.each row keeps) in
            let labels : from.x.labels ≡ row.labels = sym (same_labels from.x) ∙ ap (λ (r : Row). r.labels) from.is in
            record { span = from.x.span; is = subst (λ (ls : List ℕ). Contains rows (record { span = from.x.span; labels = ls })) labels from.there };
      }

  -- where the whole rooms were enough, the query has not too many rows
  pub not_over : RowsAreJoined → OverIsSome → RowsAreOne → (query : Query) (rooms left : List ℕ) → Fits registry query → rooms ≡ replicate (length (heads query)) operand_rows_limit → EachLeaves tables (number ∷ []) (heads query) 0 rooms left →
      Over images registry (text ∷ []) query → ⊥
  not_over law over_law one query rooms left fits whole leaves over =
      let some = (over_law images registry (text ∷ []) query).on over in
      let leaves_of = leaves.each some.number some.within in
      let rows = rows_alone law (expr_at (heads query) some.number) leaves_of.rows (valid_at registry query fits some.number some.within) leaves_of.are in
      let same = ap length (one images registry (text ∷ []) (expr_at (heads query) some.number) some.has.rows (map renamed leaves_of.rows) some.has.are rows) in
      let long = length-map leaves_of.rows renamed in
      let room = room_at query rooms some.number whole some.within in
      let within = leaves_of.within in
      let more = some.has.more in
      omega (arith, same, long, room, within, more)
    where
      room_at : (query : Query) (rooms : List ℕ) (n : ℕ) → rooms ≡ replicate (length (heads query)) operand_rows_limit → n < length (heads query) → get_or rooms (0 + n) 0 ≡ operand_rows_limit
      room_at query rooms n whole l = let none : 0 + n ≡ n = omega arith in ap₂ (λ (ns : List ℕ) (k : ℕ). get_or ns k 0) whole none ∙ get_or-replicate (length (heads query)) n operand_rows_limit 0 l

  -- and where one was not, it has
  pub is_over : RowsAreJoined → OverIsSome → (query : Query) (rooms : List ℕ) → Fits registry query → rooms ≡ replicate (length (heads query)) operand_rows_limit → SomePasses tables (number ∷ []) (heads query) 0 rooms → Over images registry (text ∷ []) query
  is_over law over_law query rooms fits whole some =
      let rows = rows_alone law (expr_at (heads query) some.number) some.passes.rows (valid_at registry query fits some.number some.within) some.passes.are in
      let long = length-map some.passes.rows renamed in
      let room = room_at query rooms some.number whole some.within in
      let more = some.passes.more in
      (over_law images registry (text ∷ []) query).back (record {
        number = some.number;
        within = some.within;
        has = record { rows = map renamed some.passes.rows; are = rows; more = omega (arith, long, room, more) };
      })
    where
      room_at : (query : Query) (rooms : List ℕ) (n : ℕ) → rooms ≡ replicate (length (heads query)) operand_rows_limit → n < length (heads query) → get_or rooms (0 + n) 0 ≡ operand_rows_limit
      room_at query rooms n whole l = let none : 0 + n ≡ n = omega arith in ap₂ (λ (ns : List ℕ) (k : ℕ). get_or ns k 0) whole none ∙ get_or-replicate (length (heads query)) n operand_rows_limit 0 l
