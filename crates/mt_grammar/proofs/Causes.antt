-- The causes of a line, by its form.
use Rattle.std.proofs.Common.{◌≡◌, ◌≢◌, ℕ, ◌≤◌, ◌<◌, List, Option, None, Some, Result, Ok, Err, refl, sym, subst, arith}
use Rattle.std.specs.List.{Contains}
use Rattle.std.specs.Str.{IsUtf8}
use Rattle.mt_text_spec.specs.Registries.{Registry, attr_names, kind_names}
use Rattle.mt_text_spec.specs.Queries.{Query, RelationKind}
use Rattle.mt_query_spec.specs.Verdicts.{Means, Refusal}
use Rattle.mt_grammar_spec.specs.GrammarLines.{OfKind, DefaultAttr, StructLimit, Unknown, Form, Skipped, Directs, Heads, Asks, form_of}
use Rattle.mt_grammar_spec.specs.GrammarFile.{Before, Line, kind_waiting, IsNoHeading, LacksLabel, headings_limit, grammar_queries_limit, GrammarCause, NotUtf8, NoDirective, SecondKind, NoName, NoGoodHeading, NoHeading, TooMany, NoQuery, NoLabel, rank, FormCause, IsUnknown, IsSecond, NoAttr, NoKind, IsNone, IsAbove, ManyHeadings, ManyQueries, Refused, Unlabelled, HasCause}
use Rattle.mt_grammar.specs.Reading.{IsClean, IsFirstCause, IsFormClean, IsFormFirst}

abbrev pub OneMeaning : Type 0
OneMeaning = (registry : Registry) (default : ℕ) (text : List ℕ) (said other : Result Query Refusal) → Means registry default text said → Means registry default text other → said ≡ other

-- ## Lines and forms

-- a line that is UTF-8 has the causes of its form
form_cause : (registry : Registry) (line : Line) (form : Form) → form_of line.text ≡ form → IsUtf8 line.text → (cause : GrammarCause) → HasCause registry line cause → FormCause registry line.before form cause
form_cause registry line form e u NotUtf8 h = absurd (h.1 u)
form_cause registry line form e u NoDirective h = subst (λ (f : Form). FormCause registry line.before f NoDirective) e h
form_cause registry line form e u SecondKind h = subst (λ (f : Form). FormCause registry line.before f SecondKind) e h
form_cause registry line form e u NoName h = subst (λ (f : Form). FormCause registry line.before f NoName) e h
form_cause registry line form e u NoGoodHeading h = subst (λ (f : Form). FormCause registry line.before f NoGoodHeading) e h
form_cause registry line form e u NoHeading h = subst (λ (f : Form). FormCause registry line.before f NoHeading) e h
form_cause registry line form e u TooMany h = subst (λ (f : Form). FormCause registry line.before f TooMany) e h
form_cause registry line form e u (NoQuery refusal) h = subst (λ (f : Form). FormCause registry line.before f (NoQuery refusal)) e h
form_cause registry line form e u NoLabel h = subst (λ (f : Form). FormCause registry line.before f NoLabel) e h

line_cause : (registry : Registry) (line : Line) (form : Form) → form_of line.text ≡ form → (cause : GrammarCause) → FormCause registry line.before form cause → HasCause registry line cause
line_cause registry line form e NotUtf8 h = elim h [ ]
line_cause registry line form e NoDirective h = subst (λ (f : Form). FormCause registry line.before f NoDirective) (sym e) h
line_cause registry line form e SecondKind h = subst (λ (f : Form). FormCause registry line.before f SecondKind) (sym e) h
line_cause registry line form e NoName h = subst (λ (f : Form). FormCause registry line.before f NoName) (sym e) h
line_cause registry line form e NoGoodHeading h = subst (λ (f : Form). FormCause registry line.before f NoGoodHeading) (sym e) h
line_cause registry line form e NoHeading h = subst (λ (f : Form). FormCause registry line.before f NoHeading) (sym e) h
line_cause registry line form e TooMany h = subst (λ (f : Form). FormCause registry line.before f TooMany) (sym e) h
line_cause registry line form e (NoQuery refusal) h = subst (λ (f : Form). FormCause registry line.before f (NoQuery refusal)) (sym e) h
line_cause registry line form e NoLabel h = subst (λ (f : Form). FormCause registry line.before f NoLabel) (sym e) h

pub line_clean : (registry : Registry) (line : Line) (form : Form) → form_of line.text ≡ form → IsUtf8 line.text → IsFormClean registry line.before form → IsClean registry line
line_clean registry line form e u h cause c = h cause (form_cause registry line form e u cause c)

pub line_first : (registry : Registry) (line : Line) (form : Form) (cause : GrammarCause) → form_of line.text ≡ form → IsUtf8 line.text → IsFormFirst registry line.before form cause → IsFirstCause registry line cause
line_first registry line form cause e u h = record {
  here = line_cause registry line form e cause h.here;
  first = λ other c. h.first other (form_cause registry line form e u other c);
}

pub not_utf8 : (registry : Registry) (line : Line) → form_of line.text ≢ Skipped → (IsUtf8 line.text → ⊥) → IsFirstCause registry line NotUtf8
not_utf8 registry line s u = record { here = (s, u); first = λ other c. omega arith }

skipped_clean : (registry : Registry) (line : Line) → form_of line.text ≡ Skipped → (cause : GrammarCause) → FormCause registry line.before (form_of line.text) cause → ⊥
skipped_clean registry line e cause h = by cause (subst (λ (f : Form). FormCause registry line.before f cause) e h)
  where
    by : (cause : GrammarCause) → FormCause registry line.before Skipped cause → ⊥
    by cause h = elim h [ ]

pub line_skipped : (registry : Registry) (line : Line) → form_of line.text ≡ Skipped → IsClean registry line
line_skipped registry line e NotUtf8 h = h.0 e
line_skipped registry line e NoDirective h = skipped_clean registry line e _ h
line_skipped registry line e SecondKind h = skipped_clean registry line e _ h
line_skipped registry line e NoName h = skipped_clean registry line e _ h
line_skipped registry line e NoGoodHeading h = skipped_clean registry line e _ h
line_skipped registry line e NoHeading h = skipped_clean registry line e _ h
line_skipped registry line e TooMany h = skipped_clean registry line e _ h
line_skipped registry line e (NoQuery refusal) h = skipped_clean registry line e _ h
line_skipped registry line e NoLabel h = skipped_clean registry line e _ h

-- ## Directives

pub unknown_first : (registry : Registry) (before : Before) → IsFormFirst registry before (Directs Unknown) NoDirective
unknown_first registry before = record { here = IsUnknown; first = λ other h. by other h }
  where
    by : (other : GrammarCause) → FormCause registry before (Directs Unknown) other → 1 ≤ rank other
    by _ IsUnknown = omega arith

pub kind_first : (registry : Registry) (before : Before) (kind : RelationKind) → before.pending ≢ None → IsFormFirst registry before (Directs (OfKind kind)) SecondKind
kind_first registry before kind s = record { here = IsSecond kind s; first = λ other h. by other h }
  where
    by : (other : GrammarCause) → FormCause registry before (Directs (OfKind kind)) other → 2 ≤ rank other
    by _ (IsSecond k h) = omega arith

pub kind_clean : (registry : Registry) (before : Before) (kind : RelationKind) → before.pending ≡ None → IsFormClean registry before (Directs (OfKind kind))
kind_clean registry before kind none _ (IsSecond k h) = h none

pub attr_first : (registry : Registry) (before : Before) (name : List ℕ) → (Contains (attr_names registry.attrs) name → ⊥) → IsFormFirst registry before (Directs (DefaultAttr name)) NoName
attr_first registry before name lacks = record { here = NoAttr name lacks; first = λ other h. by other h }
  where
    by : (other : GrammarCause) → FormCause registry before (Directs (DefaultAttr name)) other → 3 ≤ rank other
    by _ (NoAttr n h) = omega arith

pub attr_clean : (registry : Registry) (before : Before) (name : List ℕ) → Contains (attr_names registry.attrs) name → IsFormClean registry before (Directs (DefaultAttr name))
attr_clean registry before name there _ (NoAttr n h) = h there

pub limit_first : (registry : Registry) (before : Before) (name : List ℕ) → (Contains (kind_names registry.kinds) name → ⊥) → IsFormFirst registry before (Directs (StructLimit name)) NoName
limit_first registry before name lacks = record { here = NoKind name lacks; first = λ other h. by other h }
  where
    by : (other : GrammarCause) → FormCause registry before (Directs (StructLimit name)) other → 3 ≤ rank other
    by _ (NoKind n h) = omega arith

pub limit_clean : (registry : Registry) (before : Before) (name : List ℕ) → Contains (kind_names registry.kinds) name → IsFormClean registry before (Directs (StructLimit name))
limit_clean registry before name there _ (NoKind n h) = h there

-- ## Headings

pub heading_first : (registry : Registry) (before : Before) (heading : List ℕ) → IsNoHeading (kind_waiting before.pending) heading → IsFormFirst registry before (Heads heading) NoGoodHeading
heading_first registry before heading bad = record { here = IsNone heading bad; first = λ other h. by other h }
  where
    by : (other : GrammarCause) → FormCause registry before (Heads heading) other → 4 ≤ rank other
    by _ (IsNone t h) = omega arith
    by _ (ManyHeadings t h) = omega arith

pub many_headings_first : (registry : Registry) (before : Before) (heading : List ℕ) → (IsNoHeading (kind_waiting before.pending) heading → ⊥) → headings_limit ≤ before.headings →
    IsFormFirst registry before (Heads heading) TooMany
many_headings_first registry before heading good many = record { here = ManyHeadings heading many; first = λ other h. by other h }
  where
    by : (other : GrammarCause) → FormCause registry before (Heads heading) other → 6 ≤ rank other
    by _ (IsNone t h) = absurd (good h)
    by _ (ManyHeadings t h) = omega arith

pub heading_clean : (registry : Registry) (before : Before) (heading : List ℕ) → (IsNoHeading (kind_waiting before.pending) heading → ⊥) → before.headings < headings_limit →
    IsFormClean registry before (Heads heading)
heading_clean registry before heading good few _ (IsNone t h) = good h
heading_clean registry before heading good few _ (ManyHeadings t h) = omega (arith, few, h)

-- ## Queries

pub above_first : (registry : Registry) (before : Before) (text : List ℕ) → before.under ≡ None → IsFormFirst registry before (Asks text) NoHeading
above_first registry before text above = record { here = IsAbove text above; first = λ other h. by other h }
  where
    by : (other : GrammarCause) → FormCause registry before (Asks text) other → 5 ≤ rank other
    by _ (IsAbove t h) = omega arith
    by _ (ManyQueries t h) = omega arith
    by _ (Refused t r h) = omega arith
    by _ (Unlabelled t q k m u l) = omega arith

none_or_some : {X : Type 0} (o : Option X) (x : X) → o ≡ Some x → o ≡ None → ⊥
none_or_some o x e f = cc

pub many_queries_first : (registry : Registry) (before : Before) (text : List ℕ) (kind : RelationKind) → before.under ≡ Some kind → grammar_queries_limit ≤ before.queries →
    IsFormFirst registry before (Asks text) TooMany
many_queries_first registry before text kind under many = record { here = ManyQueries text many; first = λ other h. by other h }
  where
    by : (other : GrammarCause) → FormCause registry before (Asks text) other → 6 ≤ rank other
    by _ (IsAbove t h) = absurd (none_or_some before.under kind under h)
    by _ (ManyQueries t h) = omega arith
    by _ (Refused t r h) = omega arith
    by _ (Unlabelled t q k m u l) = omega arith

pub refused_first : (registry : Registry) (before : Before) (text : List ℕ) (kind : RelationKind) (refusal : Refusal) → before.under ≡ Some kind → before.queries < grammar_queries_limit →
    Means registry before.default text (Err refusal) → IsFormFirst registry before (Asks text) (NoQuery refusal)
refused_first registry before text kind refusal under few means = record { here = Refused text refusal means; first = λ other h. by other h }
  where
    by : (other : GrammarCause) → FormCause registry before (Asks text) other → 7 ≤ rank other
    by _ (IsAbove t h) = absurd (none_or_some before.under kind under h)
    by _ (ManyQueries t h) = absurd (omega (arith, few, h))
    by _ (Refused t r h) = omega arith
    by _ (Unlabelled t q k m u l) = omega arith

ok_or_err : (query : Query) (refusal : Refusal) (a b : Result Query Refusal) → a ≡ Ok query → b ≡ Err refusal → a ≡ b → ⊥
ok_or_err query refusal a b e f s = cc

pub unlabelled_first : OneMeaning → (registry : Registry) (before : Before) (text : List ℕ) (kind : RelationKind) (query : Query) → before.under ≡ Some kind → before.queries < grammar_queries_limit →
    Means registry before.default text (Ok query) → LacksLabel kind query → IsFormFirst registry before (Asks text) NoLabel
unlabelled_first one registry before text kind query under few means lacks = record { here = Unlabelled text query kind means under lacks; first = λ other h. by other h }
  where
    by : (other : GrammarCause) → FormCause registry before (Asks text) other → 8 ≤ rank other
    by _ (IsAbove t h) = absurd (none_or_some before.under kind under h)
    by _ (ManyQueries t h) = absurd (omega (arith, few, h))
    by _ (Refused t r h) = absurd (ok_or_err query r _ _ refl refl (one registry before.default text (Ok query) (Err r) means h))
    by _ (Unlabelled t q k m u l) = omega arith

same_kind : (o : Option RelationKind) (a b : RelationKind) → o ≡ Some a → o ≡ Some b → b ≡ a
same_kind o a b e f = cc

same_query : (a b : Query) (s t : Result Query Refusal) → s ≡ Ok a → t ≡ Ok b → s ≡ t → b ≡ a
same_query a b s t e f h = cc

pub query_clean : OneMeaning → (registry : Registry) (before : Before) (text : List ℕ) (kind : RelationKind) (query : Query) → before.under ≡ Some kind → before.queries < grammar_queries_limit →
    Means registry before.default text (Ok query) → (LacksLabel kind query → ⊥) → IsFormClean registry before (Asks text)
query_clean one registry before text kind query under few means has _ (IsAbove t h) = none_or_some before.under kind under h
query_clean one registry before text kind query under few means has _ (ManyQueries t h) = omega (arith, few, h)
query_clean one registry before text kind query under few means has _ (Refused t r h) = ok_or_err query r _ _ refl refl (one registry before.default text (Ok query) (Err r) means h)
query_clean one registry before text kind query under few means has _ (Unlabelled t q k m u l) =
    let ks = same_kind before.under kind k under u in
    let qs = same_query query q _ _ refl refl (one registry before.default text (Ok query) (Ok q) means m) in
    has (subst (λ (x : RelationKind). LacksLabel x query) ks (subst (λ (x : Query). LacksLabel k x) qs l))
