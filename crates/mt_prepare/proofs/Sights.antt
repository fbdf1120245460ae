-- Rows of tests and kinds of tags, in the order of an expression, and what an expression sees of a text.
use Rattle.std.proofs.Common.{◌≡◌, ℕ, zero, suc, ◌+◌, ◌<◌, List, [], ◌∷◌, ◌++◌, length, take, get_or, refl, sym, ◌∙◌, ap, subst, inl, inr, set, Result, Ok, Err, OnOk, arith}
use Rattle.std.specs.List.{All, AllZip}
use Rattle.std.proofs.Math.Seq.{take-suc}
use Rattle.std.proofs.lemmas.Bool.{cases_lt}
use Rattle.std.proofs.lemmas.List.{map-append, get_or-map, length-map, get_or-set_same, get_or-set_other}
use Rattle.std.proofs.lemmas.List.Elements.{All-append}
use Rattle.std.proofs.lemmas.Slice.Zip.{AllZip-long, all_zipped_more}
use Rattle.mt_text_spec.specs.Queries as q
use Rattle.mt_text_spec.specs.Texts.{Span}
use Rattle.mt_query_spec.specs.Contents.{token_tests}
use Rattle.mt_query_spec.specs.Contents as contents
use Rattle.mt_segment_spec.specs.Tables.{Tables, AreTables, first_place}
use Rattle.mt_eval_spec.specs.Told.{told_tokens}
use Rattle.mt_prepare.specs.Asks.{HasAttr, HasKind, Names}
use Rattle.mt_prepare.specs.Resolved.{AreSpansOf, Resolves}
use Rattle.mt_prepare.specs.Prepared.{IsReady, TagSpans}
use Rattle.mt_prepare.specs.TagRows.{AreRowsOf}
use Rattle.mt_prepare.specs.Viewed.{Shows, no_tag, tag_at}
use Rattle.mt_prepare.specs.Sighted.{tag_kinds, IsRowOfResolved, IsRowOfTest, IsSighted, HasEntered}
use Rattle.mt_prepare.specs.declared.resolved.Resolved.{Resolved}
use Rattle.mt_prepare.specs.declared.tag_rows.TagRows.{TagRows}
use Rattle.mt_prepare.specs.declared.prepared.PreparedExpr.{PreparedExpr}
use Rattle.mt_prepare.specs.declared.sighted.Sighted.{Sighted}
use Rattle.mt_prepare.proofs.Spans.{same_item}

-- ## Rows of tests

one_on : (k : ℕ) → k + 1 ≡ suc k
one_on k = omega arith

pub next_zipped : {A X : Type 0} (R : A → X → Type 0) (items : List A) (k : ℕ) (item : A) (done new : List X) (x : X) → k < length items → item ≡ get_or items k item → AllZip R (take k items) done → R item x → new ≡ done ++ x ∷ []
    → AllZip R (take (k + 1) items) new
next_zipped R items k item done new x l is z here e =
    rw e
    (subst (λ (front : List _). AllZip R front (done ++ x ∷ [])) (sym (ap (λ (n : ℕ). take n items) (one_on k) ∙ take-suc items k item l))
    (all_zipped_more R (take k items) done (get_or items k item) x z (subst (λ (a : _). R a x) is here)))

one_row : (tables : Tables) (test : q.Test) (resolved : Resolved) (row : List ℕ) → Resolves tables test resolved → IsRowOfResolved tables resolved row → IsRowOfTest tables test row
one_row tables test resolved row means is =
    record {
      width = is.width;
      places = record {
        sound = λ k i. let p = is.places.sound k i in (p.0, (means k p.0).0 p.1);
        complete = λ k p r. is.places.complete k (p.0, (means k p.0).1 p.1) r;
      };
    }

pub rows_of_tests : (tables : Tables) (tests : List q.Test) (resolved : List Resolved) (rows : List (List ℕ)) → AllZip (Resolves tables) tests resolved → AllZip (IsRowOfResolved tables) resolved rows
    → AllZip (IsRowOfTest tables) tests rows
rows_of_tests tables [] [] [] means are = tt
rows_of_tests tables [] [] (row ∷ rows) means are = absurd are
rows_of_tests tables [] (r ∷ rs) rows means are = absurd means
rows_of_tests tables (test ∷ tests) [] rows means are = absurd means
rows_of_tests tables (test ∷ tests) (r ∷ rs) [] means are = absurd are
rows_of_tests tables (test ∷ tests) (r ∷ rs) (row ∷ rows) means are = (one_row tables test r row means.0 are.0, rows_of_tests tables tests rs rows means.1 are.1)

-- ## Kinds of tags

abbrev kind_of : contents.Tag → ℕ
kind_of tag = tag.kind

none_low : (K : ℕ → Type 0) → All K []
none_low K k d l = absurd (omega (arith, l))

one_low : (K : ℕ → Type 0) (kind : ℕ) → K kind → All K (kind ∷ [])
one_low K kind h zero d l = h
one_low K kind h (suc k) d l = absurd (omega (arith, l))

pub kinds_low : (A K : ℕ → Type 0) (expr : q.Expr) → Names A K expr → All K (tag_kinds expr)
kinds_low A K (q.TokenTest label test) n = none_low K
kinds_low A K (q.Begin kind test) n = one_low K kind n
kinds_low A K (q.End kind) n = one_low K kind n
kinds_low A K (q.Whole kind test) n = one_low K kind n
kinds_low A K (q.Seq left right) n = rw (map-append kind_of (contents.tags left) (contents.tags right)) (All-append K (tag_kinds left) (tag_kinds right) (kinds_low A K left n.0) (kinds_low A K right n.1))
kinds_low A K (q.Choice left right) n = rw (map-append kind_of (contents.tags left) (contents.tags right)) (All-append K (tag_kinds left) (tag_kinds right) (kinds_low A K left n.0) (kinds_low A K right n.1))
kinds_low A K (q.Repeat inner least most) n = kinds_low A K inner n

-- ## What an expression sees

zip_at : {A X : Type 0} (R : A → X → Type 0) (xs : List A) (ys : List X) (n : ℕ) (d : A) (e : X) → AllZip R xs ys → n < length xs → R (get_or xs n d) (get_or ys n e)
zip_at R [] ys n d e z l = absurd (omega (arith, l))
zip_at R (x ∷ xs) [] n d e z l = absurd z
zip_at R (x ∷ xs) (y ∷ ys) zero d e z l = z.0
zip_at R (x ∷ xs) (y ∷ ys) (suc n) d e z l = zip_at R xs ys n d e z.1 (omega (arith, l))

length_kinds : (expr : q.Expr) → length (tag_kinds expr) ≡ length (contents.tags expr)
length_kinds expr = length-map (contents.tags expr) kind_of

kind_at : (tables : Tables) (expr : q.Expr) (kinds : List ℕ) (n : ℕ) → kinds ≡ tag_kinds expr → n < length kinds → get_or kinds n 0 ≡ (tag_at tables expr n).kind
kind_at tables expr kinds n e l = rw e (get_or-map kind_of (contents.tags expr) n (no_tag tables) 0 (omega (arith, l, ap length e, length_kinds expr)))

module _ (tables : Tables) (expr : q.Expr) (ready : PreparedExpr) (is : IsReady tables expr ready) where
  spans_of : (n : ℕ) → n < length (contents.tags expr) → AreSpansOf tables (tag_at tables expr n) (get_or ready.tags n [])
  spans_of n l = zip_at (TagSpans tables) (contents.tags expr) ready.tags n (no_tag tables) [] is.tags_are l

  spans_count : length ready.tags ≡ length (contents.tags expr)
  spans_count = AllZip-long (TagSpans tables) (contents.tags expr) ready.tags is.tags_are

  module _ (sighted : Sighted) (sees : IsSighted tables expr sighted) where
    tag_count : length sighted.kinds.items ≡ length (contents.tags expr)
    tag_count = ap length sees.kinds_are ∙ length_kinds expr

    pub spans_long : length ready.tags ≡ length sighted.kinds.items
    spans_long = spans_count ∙ sym tag_count

    spans_at : (n : ℕ) → n < length sighted.kinds.items → AreSpansOf tables (record { kind = get_or sighted.kinds.items n 0; test = (tag_at tables expr n).test }) (get_or ready.tags n [])
    spans_at n l =
        let test = (tag_at tables expr n).test in
        subst (λ (kind : ℕ). AreSpansOf tables (record { kind = kind; test = test }) (get_or ready.tags n [])) (sym (kind_at tables expr sighted.kinds.items n sees.kinds_are l)) (spans_of n (omega (arith, l, tag_count)))

    pub some_spans : (n : ℕ) → n < length sighted.kinds.items → (test : q.Test) × AreSpansOf tables (record { kind = get_or sighted.kinds.items n 0; test = test }) (get_or ready.tags n [])
    some_spans n l = ((tag_at tables expr n).test, spans_at n l)

    pub rows_at : (text n : ℕ) (row : TagRows) → n < length sighted.kinds.items
        → ((test : q.Test) → AreSpansOf tables (record { kind = get_or sighted.kinds.items n 0; test = test }) (get_or ready.tags n []) → AreRowsOf tables text (record { kind = get_or sighted.kinds.items n 0; test = test }) (get_or ready.tags n []) row)
        → AreRowsOf tables text (tag_at tables expr n) (get_or ready.tags n []) row
    rows_at text n row l made =
        let test = (tag_at tables expr n).test in
        let e = kind_at tables expr sighted.kinds.items n sees.kinds_are l in
        subst (λ (kind : ℕ). AreRowsOf tables text (record { kind = kind; test = test }) (get_or ready.tags n []) row) e (made test (spans_at n l))

  pub shows : (sighted : Sighted) (text : ℕ) → AreTables tables → text < length tables.texts → HasEntered tables text expr ready sighted
      → Shows tables text (first_place tables text) (told_tokens tables text) expr sighted.rows.items ready.tags sighted.tags.items
  shows sighted text valid there entered =
      let count = AllZip-long (IsRowOfTest tables) (token_tests expr) sighted.rows.items entered.sees.tests_are in
      record {
        valid = valid;
        there = there;
        first_is = refl;
        tokens_is = refl;
        tests_count = count;
        tests_are = λ n l. zip_at (IsRowOfTest tables) (token_tests expr) sighted.rows.items n (q.Not q.Any) [] entered.sees.tests_are (omega (arith, l, count));
        spans_count = spans_count;
        spans_are = λ n l. spans_of n (omega (arith, l, spans_count));
        rows_count = entered.sees.tags_count ∙ tag_count sighted entered.sees;
        rows_are = entered.rows_are;
      }

-- ## A text for each tag

-- the text is entered for the tags before a place
abbrev pub EnteredBefore : Tables → (text : ℕ) → (kinds : List ℕ) → (spans : List (List Span)) → (tags : List TagRows) → (at : ℕ) → Type 0
EnteredBefore tables text kinds spans tags at = (n : ℕ) (d : TagRows) (test : q.Test) → n < at → AreSpansOf tables (record { kind = get_or kinds n 0; test = test }) (get_or spans n [])
    → AreRowsOf tables text (record { kind = get_or kinds n 0; test = test }) (get_or spans n []) (get_or tags n d)

pub one_more : (tables : Tables) (text at : ℕ) (kinds : List ℕ) (spans : List (List Span)) (tags : List TagRows) (row : TagRows) → at < length tags → EnteredBefore tables text kinds spans tags at
    → ((test : q.Test) → AreSpansOf tables (record { kind = get_or kinds at 0; test = test }) (get_or spans at []) → AreRowsOf tables text (record { kind = get_or kinds at 0; test = test }) (get_or spans at []) row)
    → EnteredBefore tables text kinds spans (set tags at row) (at + 1)
one_more tables text at kinds spans tags row l before made n d test h are = elim (cases_lt n at) [
  | inl low ↦
      subst (λ (found : TagRows). AreRowsOf tables text (record { kind = get_or kinds n 0; test = test }) (get_or spans n []) found)
      (sym (get_or-set_other tags at n row d (λ e. omega (arith, e, low)))) (before n d test low are)
  | inr past ↦
      let same : at ≡ n = omega (arith, h, past) in
      let here : AreRowsOf tables text (record { kind = get_or kinds at 0; test = test }) (get_or spans at []) (get_or (set tags at row) at d) =
      subst (λ (found : TagRows). AreRowsOf tables text (record { kind = get_or kinds at 0; test = test }) (get_or spans at []) found) (sym (get_or-set_same tags at row d l))
      (made test (subst (λ (k : ℕ). AreSpansOf tables (record { kind = get_or kinds k 0; test = test }) (get_or spans k [])) (sym same) are)) in
      subst (λ (k : ℕ). AreRowsOf tables text (record { kind = get_or kinds k 0; test = test }) (get_or spans k []) (get_or (set tags at row) k d)) same here
]

pub list_is : (spans : List (List Span)) (at : ℕ) (item list : List Span) → at < length spans → list ≡ item → item ≡ get_or spans at item → list ≡ get_or spans at []
list_is spans at item list l e is = e ∙ is ∙ same_item spans at item [] l

pub sights_made : (tables : Tables) (expr : q.Expr) (ready : PreparedExpr) (sighted : Sighted) → IsReady tables expr ready → Names (HasAttr tables) (HasKind tables) expr → AllZip (IsRowOfResolved tables) ready.tests sighted.rows.items
    → sighted.kinds.items ≡ tag_kinds expr → length sighted.tags.items ≡ length sighted.kinds.items → IsSighted tables expr sighted
sights_made tables expr ready sighted is names rows kinds count =
    record {
      tests_are = rows_of_tests tables (token_tests expr) ready.tests sighted.rows.items is.tests_are rows;
      kinds_are = kinds;
      kinds_low = subst (All (HasKind tables)) (sym kinds) (kinds_low (HasAttr tables) (HasKind tables) expr names);
      tags_count = count;
    }

pub has_entered : {A E : Type 0} (r : Result A E) (tables : Tables) (text : ℕ) (ready : PreparedExpr) (old new : Sighted) (tags : List TagRows) → new.rows.items ≡ old.rows.items → new.kinds.items ≡ old.kinds.items → new.tags.items ≡ tags
    → length tags ≡ length old.tags.items
    → OnOk r (EnteredBefore tables text old.kinds.items ready.tags tags (length old.kinds.items))
    → OnOk r ((expr : q.Expr) → IsSighted tables expr old → IsReady tables expr ready → HasEntered tables text expr ready new)
has_entered (Err x) tables text ready old new tags rows kinds same count h = tt
has_entered (Ok x) tables text ready old new tags rows kinds same count h = λ expr sees is.
    record {
      sees = record {
        tests_are = subst (AllZip (IsRowOfTest tables) (token_tests expr)) (sym rows) sees.tests_are;
        kinds_are = kinds ∙ sees.kinds_are;
        kinds_low = subst (All (HasKind tables)) (sym kinds) sees.kinds_low;
        tags_count = ap length same ∙ count ∙ sees.tags_count ∙ ap length (sym kinds);
      };
      rows_are = λ n d l.
          let low : n < length old.kinds.items = omega (arith, l, ap length same, count, sees.tags_count) in
          subst (λ (items : List TagRows). AreRowsOf tables text (tag_at tables expr n) (get_or ready.tags n []) (get_or items n d)) (sym same)
          (rows_at tables expr ready is old sees text n (get_or tags n d) low (λ test. h n d test low));
    }
