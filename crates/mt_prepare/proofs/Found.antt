-- Instances that are found, and values that are added.
use Rattle.std.proofs.Common.{ℕ, zero, suc, ◌≡◌, ◌<◌, ◌≤◌, ◌+◌, ◌↔◌, ◌⊎◌, inl, inr, Bool, true, false, IsTrue, List, [], ◌∷◌, ◌++◌, length, take, slice_get, slice_index_or, Some, refl, sym, ◌∙◌, ap, subst, arith, get_or, Result, Ok, Err, IfOk}
use Rattle.std.specs.Bool.{Decides}
use Rattle.std.specs.List.{Contains, All, flat_map, dedup}
use Rattle.std.specs.List.Sorted.{IsSorted, IsPermutation}
use Rattle.std.specs.declared.cmp.Ordering.{Ordering}
use Rattle.std.specs.declared.cmp.Ordering.TheVariants.{Less, Equal, Greater}
use Rattle.std.specs.Ordering.{is_eq, eq_by_cmp}
use Rattle.std.specs.Cmp.{eq_by_cmp_equiv}
use Rattle.std.proofs.lemmas.Bool.{cases_lt}
use Rattle.std.proofs.lemmas.List.{take_more}
use Rattle.std.proofs.lemmas.List.Sorted.{Contains-permutation, IsPermutation-sym}
use Rattle.std.proofs.lemmas.List.Kept.{Contains-dedup, Contains-from_dedup, IsStrictlySortedBy-dedup}
use Rattle.std.proofs.lemmas.Option.{slice_get-get_or, get_or_from_slice_get, slice_get_within}
use Rattle.std.proofs.lemmas.List.Elements.{All-contains, All-more, All-weaker, Contains-get_or, Contains-push, Contains-push_cases, Contains-append_left, Contains-append_right}
use Rattle.mt_text_spec.specs.Texts.{Span, StructSpan}
use Rattle.mt_text_spec.specs.Orders.{span_cmp, span_cmp_total, same_span}
use Rattle.mt_text_spec.specs.Queries as q
use Rattle.mt_pattern_spec.specs.Patterns.{MarksAccepted, Accepts}
use Rattle.mt_match_spec.specs.Rows.{ListsAll}
use Rattle.mt_store_spec.specs.Lexicons.{IsAscending}
use Rattle.mt_segment_spec.specs.Tables.{Tables}
use Rattle.mt_eval_spec.specs.Told.{told_spans}
use Rattle.mt_automaton.specs.Parts.{Tag}
use Rattle.mt_prepare.specs.declared.judges.Judge.{Judge}
use Rattle.mt_prepare.specs.declared.judges.Judge.TheVariants as judges_by
use Rattle.mt_prepare.specs.Judges.{IsFoundIn, Finds, IsFound, IsFoundBelow, AddsFound, AddsValues, HaveValuesOf, JudgesIn, all_instances, value_in}
use Rattle.mt_prepare.specs.Resolved.{AreSpansOf}
use Rattle.mt_prepare.proofs.Resolving.{one_number, unless_alike}

-- the values that are found are those that the pattern accepts, where all values are there
pub found_accepts : (text value : List ℕ) (values : List (List ℕ)) (ids : List Bool) → MarksAccepted text values ids → Contains values value → (IsFoundIn values ids value ↔ Accepts text value)
found_accepts text value values ids marks (k, l, e) = (
  λ f. (marks.exactly f.id value f.there).0 f.marked,
  λ a. record { id = k; there = there; marked = (marks.exactly k value there).1 a },
)
  where
    there : slice_get values k ≡ Some value
    there = slice_get-get_or values k value l ∙ ap Some e

-- a number that is found tells whether the value is
pub told_by_number : (values : List (List ℕ)) (ids : List Bool) (value : List ℕ) (id : ℕ) → slice_get values id ≡ Some value → ((other : ℕ) → slice_get values other ≡ Some value → other ≡ id) → IsFoundIn values ids value → slice_get ids id ≡ Some true
told_by_number values ids value id there one f = let same : f.id ≡ id = one f.id f.there in rw same at f.marked

pub values_none : (attr : ℕ) (spans : List StructSpan) (old : List (List ℕ)) → AddsValues attr (take 0 spans) old old
values_none attr spans old = record { kept = λ v h. h; has = λ k d l. absurd (omega arith) }

pub values_more : (attr i : ℕ) (spans : List StructSpan) (span : StructSpan) (old middle new : List (List ℕ)) → i < length spans → span ≡ get_or spans i span → AddsValues attr (take i spans) old middle →
    ((v : List ℕ) → Contains middle v → Contains new v) → Contains new (value_in attr span) → AddsValues attr (take (i + 1) spans) old new
values_more attr i spans span old middle new l e h kept has = record {
  kept = λ v c. kept v (h.kept v c);
  has = All-more (λ span. Contains new (value_in attr span)) spans i span l
      (All-weaker (λ span. Contains middle (value_in attr span)) (λ span. Contains new (value_in attr span)) (λ s c. kept (value_in attr s) c) (take i spans) h.has)
      (rw e at has);
}

-- ## Instances of all texts

pub in_flat : {X : Type 0} (lists : List (List X)) (text : ℕ) (x : X) → Contains (slice_index_or lists text []) x → Contains (flat_map (λ l. l) lists) x
in_flat [] text x h = h
in_flat (list ∷ lists) zero x h = Contains-append_left list (flat_map (λ l. l) lists) x h
in_flat (list ∷ lists) (suc text) x h = Contains-append_right list (flat_map (λ l. l) lists) x (in_flat lists text x h)

-- ## Spans that are found

pub found_none : (judge : Judge) (instances : List StructSpan) (text : ℕ) (old : List Span) → AddsFound (IsFound (take 0 instances) text judge) old old
found_none judge instances text old = record { kept = λ s h. h; has = λ s f. absurd (none f.there); only = λ s h. inl h }
  where
    none : {x : StructSpan} → Contains (take 0 instances) x → ⊥
    none (k, l, e) = omega arith

next_instance : (instances : List StructSpan) (i : ℕ) (instance x : StructSpan) → i < length instances → instance ≡ get_or instances i instance → Contains (take (i + 1) instances) x → Contains (take i instances) x ⊎ (instance ≡ x)
next_instance instances i instance x l e h = Contains-push_cases (take i instances) instance x (rw (take_more instances i instance l, ← e) at h)

was_instance : (instances : List StructSpan) (i : ℕ) (instance x : StructSpan) → i < length instances → instance ≡ get_or instances i instance → Contains (take i instances) x → Contains (take (i + 1) instances) x
was_instance instances i instance x l e h = rw (take_more instances i instance l) (Contains-append_left (take i instances) (get_or instances i instance ∷ []) x h)

is_instance : (instances : List StructSpan) (i : ℕ) (instance : StructSpan) → i < length instances → instance ≡ get_or instances i instance → Contains (take (i + 1) instances) instance
is_instance instances i instance l e = rw (take_more instances i instance l, ← e) (Contains-push (take i instances) instance)

earlier : (judge : Judge) (instances : List StructSpan) (text i : ℕ) (instance : StructSpan) (span : Span) → i < length instances → instance ≡ get_or instances i instance →
    IsFound (take i instances) text judge span → IsFound (take (i + 1) instances) text judge span
earlier judge instances text i instance span l e f = record { instance = f.instance; there = was_instance instances i instance f.instance l e f.there; text_is = f.text_is; begins = f.begins; ends = f.ends; finds = f.finds }

pub found_no : (judge : Judge) (instances : List StructSpan) (text i : ℕ) (instance : StructSpan) (old new : List Span) → i < length instances → instance ≡ get_or instances i instance →
    ¬ Finds judge instance → AddsFound (IsFound (take i instances) text judge) old new → AddsFound (IsFound (take (i + 1) instances) text judge) old new
found_no judge instances text i instance old new l e failed h = record {
  kept = h.kept;
  has = λ s f. elim (next_instance instances i instance f.instance l e f.there) as (λ _. Contains new s) [
    | inl there ↦ h.has s (record { instance = f.instance; there = there; text_is = f.text_is; begins = f.begins; ends = f.ends; finds = f.finds })
    | inr same ↦ absurd (failed (rw (sym same) at f.finds))
  ];
  only = λ s c. elim (h.only s c) as (λ _. Contains old s ⊎ IsFound (take (i + 1) instances) text judge s) [ inl was ↦ inl was | inr f ↦ inr (earlier judge instances text i instance s l e f) ];
}

pub found_yes : (judge : Judge) (instances : List StructSpan) (text i : ℕ) (instance : StructSpan) (old middle new : List Span) → i < length instances → instance ≡ get_or instances i instance →
    Finds judge instance → new ≡ middle ++ record { text = text; begin = instance.begin; end = instance.end } ∷ [] → AddsFound (IsFound (take i instances) text judge) old middle → AddsFound (IsFound (take (i + 1) instances) text judge) old new
found_yes judge instances text i instance old middle new l e meets is h = record {
  kept = λ s c. grown s (h.kept s c);
  has = λ s f. elim (next_instance instances i instance f.instance l e f.there) as (λ _. Contains new s) [
    | inl there ↦ grown s (h.has s (record { instance = f.instance; there = there; text_is = f.text_is; begins = f.begins; ends = f.ends; finds = f.finds }))
    | inr same ↦ let here : span ≡ s = the_span s f.instance same f.text_is f.begins f.ends in rw (is, ← here) (Contains-push middle span)
  ];
  only = λ s c. elim (Contains-push_cases middle span s (rw is at c)) as (λ _. Contains old s ⊎ IsFound (take (i + 1) instances) text judge s) [
    | inl was ↦ elim (h.only s was) as (λ _. Contains old s ⊎ IsFound (take (i + 1) instances) text judge s) [ inl old_one ↦ inl old_one | inr f ↦ inr (earlier judge instances text i instance s l e f) ]
    | inr same ↦ inr (rw (← same) (record { instance = instance; there = is_instance instances i instance l e; text_is = refl; begins = refl; ends = refl; finds = meets }))
  ];
}
  where
    span : Span
    span = record { text = text; begin = instance.begin; end = instance.end }

    grown : (s : Span) → Contains middle s → Contains new s
    grown s c = rw is (Contains-append_left middle (span ∷ []) s c)

    the_span : (s : Span) (x : StructSpan) → instance ≡ x → s.text ≡ text → x.begin ≡ s.begin → x.end ≡ s.end → span ≡ s
    the_span s x same t b n = λ j. record { text = sym t j; begin = (ap (λ (y : StructSpan). y.begin) same ∙ b) j; end = (ap (λ (y : StructSpan). y.end) same ∙ n) j }

-- ## Whether a value is accepted

pub accepted_some : (values : List (List ℕ)) (ids : List Bool) (value : List ℕ) (id : ℕ) (b : Bool) → IsAscending values → slice_get values id ≡ Some value → (IsTrue b ↔ slice_get ids id ≡ Some true) → Decides b (IsFoundIn values ids value)
accepted_some values ids value id true up there h = (λ _. record { id = id; there = there; marked = h.0 refl }, λ _. refl)
accepted_some values ids value id false up there h = (
  λ e. cc,
  λ f. h.1 (told_by_number values ids value id there (λ other e. one_number values value other id up e there) f),
)

pub accepted_none : (values : List (List ℕ)) (ids : List Bool) (value : List ℕ) → (¬ Contains values value) → Decides false (IsFoundIn values ids value)
accepted_none values ids value none = (λ e. cc, λ f. absurd (none (got (slice_get_within values f.id value f.there) f.there)))
  where
    got : {id : ℕ} → id < length values → slice_get values id ≡ Some value → Contains values value
    got {id} l e = rw (get_or_from_slice_get values id value [] e) at (Contains-get_or values id [] l)

-- ## What is found in the first texts

pub texts_none : (tables : Tables) (kind : ℕ) (judge : Judge) → AddsFound (IsFoundBelow tables kind judge 0) [] []
texts_none tables kind judge = record { kept = λ s h. h; has = λ s f. absurd (omega (arith, f.below)); only = λ s h. inl h }

one_text : (tables : Tables) (kind text : ℕ) (judge : Judge) (span : Span) → IsFoundBelow tables kind judge (text + 1) span → text ≤ span.text → IsFound (told_spans tables kind text) text judge span
one_text tables kind text judge span f out = let same : span.text ≡ text = omega (arith, f.below, out) in
    subst (λ t. IsFound (told_spans tables kind t) t judge span) same f.found

pub texts_more : (tables : Tables) (kind text : ℕ) (judge : Judge) (middle new : List Span) → AddsFound (IsFoundBelow tables kind judge text) [] middle → AddsFound (IsFound (told_spans tables kind text) text judge) middle new →
    AddsFound (IsFoundBelow tables kind judge (text + 1)) [] new
texts_more tables kind text judge middle new h more = record {
  kept = λ s c. more.kept s (h.kept s c);
  has = λ s f. elim (cases_lt s.text text) as (λ _. Contains new s) [
    | inl l ↦ more.kept s (h.has s (record { below = l; found = f.found }))
    | inr out ↦ more.has s (one_text tables kind text judge s f out)
  ];
  only = λ s c. elim (more.only s c) as (λ _. Contains [] s ⊎ IsFoundBelow tables kind judge (text + 1) s) [
    | inl was ↦ elim (h.only s was) as (λ _. Contains [] s ⊎ IsFoundBelow tables kind judge (text + 1) s) [ inl none ↦ inl none | inr f ↦ inr (record { below = omega (arith, f.below); found = f.found }) ]
    | inr f ↦ inr (record { below = omega (arith, f.text_is); found = subst (λ t. IsFound (told_spans tables kind t) t judge s) (sym f.text_is) f })
  ];
}

-- ## The list of what is found

nothing : {X : Type 0} {x : X} → Contains [] x → ⊥
nothing (k, l, e) = omega arith

pub lists_found : (P : Span → Type 0) (all sorted distinct : List Span) → AddsFound P [] all → IsPermutation all sorted → IsSorted span_cmp sorted → distinct ≡ dedup (eq_by_cmp span_cmp) sorted → ListsAll span_cmp P distinct
lists_found P all sorted distinct h p s is = rw is (record {
  ascending = IsStrictlySortedBy-dedup span_cmp_total (λ x y. refl) sorted s;
  only = λ span c. elim (h.only span (Contains-permutation sorted all span (IsPermutation-sym all sorted p) (Contains-from_dedup (eq_by_cmp span_cmp) sorted span c))) as (λ _. P span) [ inl none ↦ absurd (nothing none) | inr f ↦ f ];
  each = λ span f. Contains-dedup (eq_by_cmp_equiv span_cmp_total) (λ x y e. same_span x y (tied (span_cmp x y) e)) sorted span (Contains-permutation all sorted span p (h.has span f));
})
  where
    tied : (o : Ordering) → is_eq o ≡ true → o ≡ Equal
    tied Less e = cc
    tied Equal e = refl
    tied Greater e = cc

-- and of what a tag has
pub lists_tag : (tables : Tables) (tag : Tag) (judge : Judge) (spans : List Span) → JudgesIn tables tag.kind tag.test judge → ListsAll span_cmp (IsFoundBelow tables tag.kind judge (length tables.texts)) spans → AreSpansOf tables tag spans
lists_tag tables tag judge spans judges h = record {
  ascending = h.ascending;
  only = λ span c. let f = h.only span c in (f.below, record { span = f.found.instance; there = f.found.there; begins = f.found.begins; ends = f.found.ends; holds = (judges f.found.instance (among span f.found.instance f.found.there)).0 f.found.finds });
  each = λ span told. h.each span (record { below = told.0; found = record { instance = told.1.span; there = told.1.there; text_is = refl; begins = told.1.begins; ends = told.1.ends; finds = (judges told.1.span (among span told.1.span told.1.there)).1 told.1.holds } });
}
  where
    among : (span : Span) (x : StructSpan) → Contains (told_spans tables tag.kind span.text) x → Contains (all_instances tables tag.kind) x
    among span x c = in_flat (slice_index_or tables.structs tag.kind []) span.text x c

pub tag_listed : {E : Type 0} (r : Result (List Span) E) (tables : Tables) (tag : Tag) (judge : Judge) → JudgesIn tables tag.kind tag.test judge → IfOk r (ListsAll span_cmp (IsFoundBelow tables tag.kind judge (length tables.texts))) → IfOk r (AreSpansOf tables tag)
tag_listed (Ok spans) tables tag judge judges h = lists_tag tables tag judge spans judges h
tag_listed (Err e) tables tag judge judges h = tt

pub as_span : (all middle : List Span) (s : Span) (text : ℕ) (instance : StructSpan) → all ≡ middle ++ s ∷ [] → s ≡ record { text = text; begin = instance.begin; end = instance.end } → all ≡ middle ++ record { text = text; begin = instance.begin; end = instance.end } ∷ []
as_span all middle s text instance e same = e ∙ ap (λ (x : Span). middle ++ x ∷ []) same

-- ## Values of all instances

pub have_values : {E : Type 0} (r : Result (List (List ℕ)) E) (tables : Tables) (kind attr : ℕ) (old new : List (List ℕ)) → AddsValues attr (all_instances tables kind) old new → IfOk r (λ lexicon. All (Contains lexicon) new) → IfOk r (HaveValuesOf tables kind attr)
have_values (Ok lexicon) tables kind attr old new h all =
    All-weaker (λ span. Contains new (value_in attr span)) (λ span. Contains lexicon (value_in attr span)) (λ span c. All-contains (Contains lexicon) new (value_in attr span) all c) (all_instances tables kind) h.has
have_values (Err e) tables kind attr old new h all = tt

pub pattern_judges : (tables : Tables) (kind attr : ℕ) (text : List ℕ) (negated : Bool) (values : List (List ℕ)) (ids : List Bool) → HaveValuesOf tables kind attr values → MarksAccepted text values ids →
    JudgesIn tables kind (q.Pattern attr text negated) (judges_by.Accepted attr values ids negated)
pattern_judges tables kind attr text negated values ids have marks = λ span there.
    unless_alike negated (found_accepts text (value_in attr span) values ids marks (All-contains (λ span. Contains values (value_in attr span)) (all_instances tables kind) span have there))
