-- Expressions that are made ready part by part.
use Rattle.std.proofs.Common.{ℕ, ◌≡◌, ◌<◌, ◌+◌, List, [], ◌∷◌, ◌++◌, length, take, set, sym, subst, append_assoc, Result, Ok, Err, OnOk}
use Rattle.std.specs.List.{AllZip}
use Rattle.std.proofs.lemmas.List.{append-nil, take_more_set}
use Rattle.std.proofs.lemmas.List.Elements.{All-push, All-nil}
use Rattle.std.proofs.lemmas.Slice.Zip.{all_zipped_more}
use Rattle.mt_text_spec.specs.Texts.{Span}
use Rattle.mt_text_spec.specs.Queries as q
use Rattle.mt_query_spec.specs.Contents.{token_tests, tags}
use Rattle.mt_query_spec.specs.Contents as contents
use Rattle.mt_segment_spec.specs.Tables.{Tables}
use Rattle.mt_eval_spec.specs.RowsIn.{heads, operands}
use Rattle.mt_prepare.specs.declared.prepared.PreparedExpr.{PreparedExpr}
use Rattle.mt_prepare.specs.declared.resolved.Resolved.{Resolved}
use Rattle.mt_prepare.specs.Prepared.{AddsExprs, AddsReady, HasReady, IsByNumber, IsReady, TagSpans}
use Rattle.mt_prepare.specs.Resolved.{AreSpansOf, Resolves}
use Rattle.mt_prepare.specs.TestRows.{HasAttrs}

pub adds_then : {Y E : Type 0} (r : Result Y E) (tables : Tables) (a b : List q.Test) (s t : List contents.Tag) (old middle new : PreparedExpr) → AddsReady tables a s old middle → OnOk r (AddsReady tables b t middle new) → OnOk r (AddsReady tables (a ++ b) (s ++ t) old new)
adds_then (Ok y) tables a b s t old middle new g h = λ before earlier z.
    subst (λ (l : List contents.Tag). HasReady tables (before ++ (a ++ b)) l new) (append_assoc earlier s t)
    (subst (λ (l : List q.Test). HasReady tables l ((earlier ++ s) ++ t) new) (append_assoc before a b) (h (before ++ a) (earlier ++ s) (g before earlier z)))
adds_then (Err e) tables a b s t old middle new g h = tt

pub adds_nothing : (tables : Tables) (old : PreparedExpr) → AddsReady tables [] [] old old
adds_nothing tables old = λ before earlier z.
    subst (λ (l : List contents.Tag). HasReady tables (before ++ []) l old) (sym (append-nil earlier)) (subst (λ (l : List q.Test). HasReady tables l earlier old) (sym (append-nil before)) z)

pub adds_test : {Y E : Type 0} (r : Result Y E) (tables : Tables) (test : q.Test) (resolved : Resolved) (old new : PreparedExpr) → Resolves tables test resolved → IsByNumber test resolved → HasAttrs tables resolved → OnOk r (new.tests ≡ old.tests ++ resolved ∷ []) → new.tags ≡ old.tags →
    OnOk r (AddsReady tables (test ∷ []) [] old new)
adds_test (Ok y) tables test resolved old new means number attrs e same = λ before earlier z. record {
  tests_are = rw e (all_zipped_more (Resolves tables) before old.tests test resolved z.tests_are means);
  numbers = rw e (all_zipped_more IsByNumber before old.tests test resolved z.numbers number);
  attrs = rw e (All-push (HasAttrs tables) old.tests resolved z.attrs attrs);
  tags_are = rw (append-nil earlier, same) z.tags_are;
}
adds_test (Err e) tables test resolved old new means number attrs h same = tt

pub adds_tag : {Y E : Type 0} (r : Result Y E) (tables : Tables) (kind : ℕ) (test : q.Test) (spans : List Span) (old new : PreparedExpr) → AreSpansOf tables (record { kind = kind; test = test }) spans → OnOk r (new.tags ≡ old.tags ++ spans ∷ []) → new.tests ≡ old.tests →
    OnOk r ((place : contents.TagPlace) → AddsReady tables [] (record { place = place; kind = kind; test = test } ∷ []) old new)
adds_tag (Ok y) tables kind test spans old new are e same = λ place before earlier z. record {
  tests_are = rw (append-nil before, same) z.tests_are;
  numbers = rw (append-nil before, same) z.numbers;
  attrs = rw same z.attrs;
  tags_are = rw e (all_zipped_more (TagSpans tables) earlier old.tags (record { place = place; kind = kind; test = test }) spans z.tags_are are);
}
adds_tag (Err e) tables kind test spans old new are h same = tt

pub at_place : {Y E : Type 0} (r : Result Y E) (P : contents.TagPlace → Type 0) (place : contents.TagPlace) → OnOk r ((place : contents.TagPlace) → P place) → OnOk r (P place)
at_place (Ok y) P place h = h place
at_place (Err e) P place h = tt

pub all_ready : (tables : Tables) (expr : q.Expr) (old new : PreparedExpr) → old.tests ≡ [] → old.tags ≡ [] → AddsReady tables (token_tests expr) (tags expr) old new → IsReady tables expr new
all_ready tables expr old new no_tests no_tags h = record { tests_are = has.tests_are; numbers = has.numbers; attrs = has.attrs; tags_are = has.tags_are }
  where
    none : HasReady tables [] [] old
    none = record { tests_are = rw no_tests tt; numbers = rw no_tests tt; attrs = rw no_tests (All-nil (HasAttrs tables)); tags_are = rw no_tags tt }

    has : HasReady tables (token_tests expr) (tags expr) new
    has = h [] [] none

pub all_added : {Y E : Type 0} (r : Result Y E) (tables : Tables) (expr : q.Expr) (old new : PreparedExpr) → old.tests ≡ [] → old.tags ≡ [] → OnOk r (AddsReady tables (token_tests expr) (tags expr) old new) → OnOk r (IsReady tables expr new)
all_added (Ok y) tables expr old new no_tests no_tags h = all_ready tables expr old new no_tests no_tags h
all_added (Err e) tables expr old new no_tests no_tags h = tt

-- ## Expressions one after another

pub one_added : (tables : Tables) (expr : q.Expr) (here : List PreparedExpr) (count : ℕ) (ready : PreparedExpr) → count < length here → IsReady tables expr ready → AddsExprs tables (expr ∷ []) (take count here) (take (count + 1) (set here count ready))
one_added tables expr here count ready within is = λ before z. rw (take_more_set here count ready within) (all_zipped_more (IsReady tables) before (take count here) expr ready z is)

pub operands_on : {Y E : Type 0} (r : Result Y E) (tables : Tables) (head : q.Expr) (own others : List q.Expr) (old pushed middle new : List PreparedExpr) → AddsExprs tables (head ∷ []) old pushed → AddsExprs tables own pushed middle → OnOk r (AddsExprs tables others middle new) →
    OnOk r (AddsExprs tables (head ∷ own ++ others) old new)
operands_on (Ok y) tables head own others old pushed middle new e g h = λ before z.
    subst (λ (l : List q.Expr). AllZip (IsReady tables) l new) (append_assoc before (head ∷ []) (own ++ others))
    (subst (λ (l : List q.Expr). AllZip (IsReady tables) l new) (append_assoc (before ++ head ∷ []) own others) (h ((before ++ head ∷ []) ++ own) (g (before ++ head ∷ []) (e before z))))
operands_on (Err e) tables head own others old pushed middle new is g h = tt

pub all_prepared : (tables : Tables) (query : q.Query) (none pushed all : List PreparedExpr) → none ≡ [] → AddsExprs tables (query.head ∷ []) none pushed → AddsExprs tables (operands query.filters) pushed all → AllZip (IsReady tables) (heads query) all
all_prepared tables query none pushed all n g h = h (query.head ∷ []) (g [] (rw n tt))
