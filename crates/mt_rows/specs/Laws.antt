-- What is left of a list of everything that P holds of, where some are kept, and the spans of what is left.
use Rattle.std.proofs.Common.{◌≡◌, zero, suc, inl, inr, ◌⊎◌, Bool, true, false, List, [], ◌∷◌, refl, sym, subst, arith}
use Rattle.std.specs.List.{Contains, AllByRecursion}
use Rattle.std.specs.List.Sorted.{IsStrictlySortedBy}
use Rattle.std.specs.declared.cmp.Ordering.{Ordering}
use Rattle.std.specs.declared.cmp.Ordering.TheVariants.{Less}
use Rattle.mt_text_spec.specs.Texts.{Span, Row}
use Rattle.mt_text_spec.specs.Queries.{FilterKind, Within, NotWithin, Containing, NotContaining}
use Rattle.mt_text_spec.specs.Orders.{span_cmp, row_cmp}
use Rattle.mt_match_spec.specs.Rows.{ListsAll}
use Rattle.mt_match_spec.specs.Kept.{Passes, IsSpanOf}
use Rattle.mt_rows.specs.Rows.{IsSpanIn}
use Rattle.mt_rows.specs.Marks.{kept, Tell}

-- ---- members by cases on the list

abbrev pub Member : {X : Type 0} → X → List X → Type 0
Member x [] = ⊥
Member x (y ∷ ys) = (x ≡ y) ⊎ Member x ys

pub to_member : {X : Type 0} (xs : List X) (x : X) → Contains xs x → Member x xs
to_member [] x (k, l, e) = absurd (omega (arith, l))
to_member (y ∷ ys) x (zero, l, e) = inl (sym e)
to_member (y ∷ ys) x (suc k, l, e) = inr (to_member ys x (k, omega (arith, l), e))

pub from_member : {X : Type 0} (xs : List X) (x : X) → Member x xs → Contains xs x
from_member [] x m = absurd m
from_member (y ∷ ys) x (inl e) = (0, omega arith, sym e)
from_member (y ∷ ys) x (inr m) = let (k, l, e) = from_member ys x m in (suc k, omega (arith, l), e)

-- ---- what marks keep

pub kept_only : {X : Type 0} (Q : X → Type 0) (items : List X) (marks : List Bool) (x : X) → Tell Q items marks → Member x (kept marks items) → Member x items × Q x
kept_only Q [] [] x t m = absurd m
kept_only Q [] (mark ∷ marks) x t m = absurd m
kept_only Q (y ∷ ys) [] x t m = absurd m
kept_only Q (y ∷ ys) (true ∷ marks) x t (inl e) = (inl e, subst Q (sym e) (t.0.0 refl))
kept_only Q (y ∷ ys) (true ∷ marks) x t (inr m) = let h = kept_only Q ys marks x t.1 m in (inr h.0, h.1)
kept_only Q (y ∷ ys) (false ∷ marks) x t m = let h = kept_only Q ys marks x t.1 m in (inr h.0, h.1)

pub kept_each : {X : Type 0} (Q : X → Type 0) (items : List X) (marks : List Bool) (x : X) → Tell Q items marks → Member x items → Q x → Member x (kept marks items)
kept_each Q [] marks x t m q = absurd m
kept_each Q (y ∷ ys) [] x t m q = absurd t
kept_each Q (y ∷ ys) (true ∷ marks) x t (inl e) q = inl e
kept_each Q (y ∷ ys) (true ∷ marks) x t (inr m) q = inr (kept_each Q ys marks x t.1 m q)
kept_each Q (y ∷ ys) (false ∷ marks) x t (inl e) q = let so = t.0.1 (subst Q e q) in cc
kept_each Q (y ∷ ys) (false ∷ marks) x t (inr m) q = kept_each Q ys marks x t.1 m q

pub kept_all : {X : Type 0} (P : X → Type 0) (items : List X) (marks : List Bool) → AllByRecursion P items → AllByRecursion P (kept marks items)
kept_all P items [] all = tt
kept_all P [] (mark ∷ marks) all = tt
kept_all P (y ∷ ys) (true ∷ marks) all = (all.0, kept_all P ys marks all.1)
kept_all P (y ∷ ys) (false ∷ marks) all = kept_all P ys marks all.1

pub kept_ascending : {X : Type 0} (order : X → X → Ordering) (items : List X) (marks : List Bool) → IsStrictlySortedBy order items → IsStrictlySortedBy order (kept marks items)
unfolding IsStrictlySortedBy
kept_ascending order items [] s = tt
kept_ascending order [] (mark ∷ marks) s = tt
kept_ascending order (y ∷ ys) (true ∷ marks) s = (kept_all (λ z. order y z ≡ Less) ys marks s.0, kept_ascending order ys marks s.1)
kept_ascending order (y ∷ ys) (false ∷ marks) s = kept_ascending order ys marks s.1

-- ---- the laws

-- of an ascending list the marks leave just those items of which Q holds
pub kept_lists : {X : Type 0} (order : X → X → Ordering) (Q : X → Type 0) (items : List X) (marks : List Bool) → IsStrictlySortedBy order items → Tell Q items marks →
    ListsAll order (λ x. Contains items x × Q x) (kept marks items)
kept_lists order Q items marks s t = record {
  ascending = kept_ascending order items marks s;
  only = λ x c. let h = kept_only Q items marks x t (to_member (kept marks items) x c) in (from_member items x h.0, h.1);
  each = λ x h. from_member (kept marks items) x (kept_each Q items marks x t (to_member items x h.0) h.1);
}

-- where old lists all of P, and new lists those of them of which Q holds, new lists all of both
pub still_lists : {X : Type 0} (order : X → X → Ordering) (P Q : X → Type 0) (old new : List X) → ListsAll order P old → ListsAll order (λ x. Contains old x × Q x) new → ListsAll order (λ x. P x × Q x) new
still_lists order P Q old new a b = record {
  ascending = b.ascending;
  only = λ x c. let h = b.only x c in (a.only x h.0, h.1);
  each = λ x h. b.each x (a.each x h.0, h.1);
}

-- the same from a list of all of P at once
pub kept_of_all : {X : Type 0} (order : X → X → Ordering) (P Q : X → Type 0) (items : List X) (marks : List Bool) → ListsAll order P items → Tell Q items marks → ListsAll order (λ x. P x × Q x) (kept marks items)
kept_of_all order P Q items marks a t = still_lists order P Q items (kept marks items) a (kept_lists order Q items marks a.ascending t)

-- a list of all of P lists all of what is the same
pub lists_alike : {X : Type 0} (order : X → X → Ordering) (P Q : X → Type 0) (items : List X) → ((x : X) → P x → Q x) → ((x : X) → Q x → P x) → ListsAll order P items → ListsAll order Q items
lists_alike order P Q items to from a = record { ascending = a.ascending; only = λ x c. to x (a.only x c); each = λ x q. a.each x (from x q) }

-- ---- operands

-- a filter asks of an operand only which spans it has
pub passes_alike : (kind : FilterKind) (A B : Span → Type 0) → ((s : Span) → A s → B s) → ((s : Span) → B s → A s) → (span : Span) → Passes kind A span → Passes kind B span
passes_alike Within A B to from span w = record { around = w.around; is_operands = to w.around w.is_operands; lies = w.lies }
passes_alike NotWithin A B to from span n = λ w. n (record { around = w.around; is_operands = from w.around w.is_operands; lies = w.lies })
passes_alike Containing A B to from span w = record { held = w.held; is_operands = to w.held w.is_operands; lies = w.lies }
passes_alike NotContaining A B to from span n = λ w. n (record { held = w.held; is_operands = from w.held w.is_operands; lies = w.lies })

-- the spans of the rows that a filter lets pass
pub spans_let : (Is : Row → Type 0) (Let : Span → Type 0) (rows : List Row) (spans : List Span) → ListsAll row_cmp (λ row. Is row × Let row.span) rows → ListsAll span_cmp (IsSpanIn rows) spans → ListsAll span_cmp (IsSpanOf Is Let) spans
spans_let Is Let rows spans a b = lists_alike span_cmp (IsSpanIn rows) (IsSpanOf Is Let) spans
    (λ span h. let so = a.only (record { span = span; labels = h.labels }) h.contains in record { labels = h.labels; is_row = so.0; passes = so.1 })
    (λ span h. record { labels = h.labels; contains = a.each (record { span = span; labels = h.labels }) (h.is_row, h.passes) }) b
