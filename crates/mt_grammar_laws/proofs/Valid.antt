-- A grammar that is read is valid.
use Rattle.std.proofs.Common.{◌≡◌, ◌≢◌, ℕ, ◌+◌, ◌<◌, ◌≤◌, inl, inr, zero, suc, Bool, true, false, cond, nat_eq, nat_lt, Some, List, [], ◌∷◌, length, Ok, arith, refl, sym, ◌∙◌, ap, subst}
use Rattle.std.specs.Prelude.{◌==◌, ◌&&◌}
use Rattle.std.specs.List.{All, Contains, filter}
use Rattle.std.specs.Str.Lines.{lines}
use Rattle.std.specs.Cmp.Lexicographic.{pointwise}
use Rattle.std.proofs.lemmas.Bool.{cases_lt, eqb-true}
use Rattle.std.proofs.lemmas.Bool.Decides.{nat_tests}
use Rattle.std.proofs.lemmas.List.{length-map}
use Rattle.std.proofs.lemmas.List.Elements.{All-nil, All-cons}
use Rattle.std.proofs.lemmas.Slice.Eq.{bytes_eq-Decides}
use Rattle.mt_text_spec.specs.Registries.{Registry, ValidRegistry, attr_names, kind_names}
use Rattle.mt_text_spec.specs.Queries.{Query, RelationKind, Relation, Grammar}
use Rattle.mt_query_spec.specs.Verdicts.{Means}
use Rattle.mt_query_spec.specs.Valid.{ValidQuery}
use Rattle.mt_grammar_spec.specs.GrammarLines.{OfKind, DefaultAttr, StructLimit, Unknown, Form, Skipped, Directs, Heads, Asks, form_of}
use Rattle.mt_grammar_spec.specs.GrammarFile.{Before, at_top, place_of, Line, lines_from, lines_of, behind, kind_waiting, IsNoHeading, GrammarCause, NoName, NoGoodHeading, TooMany, NoLabel, FormCause, NoAttr, NoKind, IsNone, ManyHeadings, ManyQueries, Unlabelled, headings_limit, grammar_queries_limit}
use Rattle.mt_grammar_spec.specs.ReadGrammar.{is_heading, is_query, heading_lines, query_lines, IsQueryOf, AreQueries, NoQueries, ThenQuery, IsRelationOf, AreRelations, NoRelations, ThenRelation, ReadsGrammar}
use Rattle.mt_grammar_spec.specs.ValidGrammar.{ValidLimit, IsGrammarQuery, ValidRelation, query_count, ValidGrammar}
use Rattle.mt_grammar_laws.proofs.Readings.{Passed, passed_first, passed_weaker, Clean, clean_all}

abbrev pub ReadIsValid : Type 0
ReadIsValid = (registry : Registry) (default : ℕ) (text : List ℕ) (query : Query) → ValidRegistry registry → default < length registry.attrs → Means registry default text (Ok query) → ValidQuery registry query

-- ## Names

low_place : (names : List (List ℕ)) (name : List ℕ) → Contains names name → place_of name names < length names
low_place [] name (k, l, e) = absurd (omega (arith, l))
low_place (n ∷ names) name (zero, l, e) =
    let same : pointwise nat_eq name n ≡ true = (bytes_eq-Decides name n).1 (sym e) in
    rw same (omega arith)
low_place (n ∷ names) name (suc k, l, e) = by (pointwise nat_eq name n) refl (low_place names name (k, omega (arith, l), e))
  where
    by : (b : Bool) → pointwise nat_eq name n ≡ b → place_of name names < length names → place_of name (n ∷ names) < length (n ∷ names)
    by true same low = rw same (omega arith)
    by false same low = rw same (omega (arith, low))

-- ## What stands before a line

-- under a registry
pub record IsSound (registry : Registry) (before : Before) : Type 0 where
  pub default : before.default < length registry.attrs
  pub limit : ValidLimit registry before.limit
  pub headings : before.headings ≤ headings_limit
  pub queries : before.queries ≤ grammar_queries_limit

caused : (registry : Registry) (line : Line) (form : Form) (cause : GrammarCause) → form_of line.text ≡ form → FormCause registry line.before form cause → FormCause registry line.before (form_of line.text) cause
caused registry line form cause e c = subst (λ (f : Form). FormCause registry line.before f cause) (sym e) c

sound_behind : (registry : Registry) (line : Line) → Clean registry line → IsSound registry line.before → IsSound registry (behind registry line.before (form_of line.text))
sound_behind registry line clean sound = by (form_of line.text) refl
  where
    by : (form : Form) → form_of line.text ≡ form → IsSound registry (behind registry line.before form)
    by Skipped e = sound
    by (Directs (OfKind kind)) e = record { default = sound.default; limit = sound.limit; headings = sound.headings; queries = sound.queries }
    by (Directs (DefaultAttr name)) e = record {
      default = elim (cases_lt (place_of name (attr_names registry.attrs)) (length registry.attrs)) [
        | inl low ↦ low
        | inr high ↦ absurd (clean NoName (caused registry line (Directs (DefaultAttr name)) NoName e
            (NoAttr name (λ there. let l = low_place (attr_names registry.attrs) name there in let m = length-map registry.attrs (λ a. a.name) in omega (arith, l, m, high)))))
      ];
      limit = sound.limit;
      headings = sound.headings;
      queries = sound.queries;
    }
    by (Directs (StructLimit name)) e = record {
      default = sound.default;
      limit = elim (cases_lt (place_of name (kind_names registry.kinds)) (length registry.kinds)) [
        | inl low ↦ low
        | inr high ↦ absurd (clean NoName (caused registry line (Directs (StructLimit name)) NoName e
            (NoKind name (λ there. let l = low_place (kind_names registry.kinds) name there in let m = length-map registry.kinds (λ k. k.name) in omega (arith, l, m, high)))))
      ];
      headings = sound.headings;
      queries = sound.queries;
    }
    by (Directs Unknown) e = sound
    by (Heads heading) e = record {
      default = sound.default;
      limit = sound.limit;
      headings = elim (cases_lt line.before.headings headings_limit) [
        | inl low ↦ omega (arith, low)
        | inr high ↦ absurd (clean TooMany (caused registry line (Heads heading) TooMany e (ManyHeadings heading high)))
      ];
      queries = sound.queries;
    }
    by (Asks text) e = record {
      default = sound.default;
      limit = sound.limit;
      headings = sound.headings;
      queries = elim (cases_lt line.before.queries grammar_queries_limit) [
        | inl low ↦ omega (arith, low)
        | inr high ↦ absurd (clean TooMany (caused registry line (Asks text) TooMany e (ManyQueries text high)))
      ];
    }

abbrev IsGood : Registry → Line → Type 0
IsGood registry line = Clean registry line × IsSound registry line.before

all_good : (registry : Registry) (number : ℕ) (before : Before) (texts : List (List ℕ)) → IsSound registry before → Passed (Clean registry) (lines_from registry number before texts) →
    Passed (IsGood registry) (lines_from registry number before texts)
all_good registry number before [] sound clean = tt
all_good registry number before (text ∷ texts) sound clean =
    let line : Line = record { number = number; text = text; before = before } in
    ((clean.0, sound), all_good registry (number + 1) (behind registry before (form_of text)) texts (sound_behind registry line clean.0 sound) clean.1)

-- ## Which heading a line stands under

grows : (registry : Registry) (number : ℕ) (before : Before) (texts : List (List ℕ)) → Passed (λ (l : Line). before.headings ≤ l.before.headings) (lines_from registry number before texts)
grows registry number before [] = tt
grows registry number before (text ∷ texts) = (omega arith, by (λ next. grows registry (number + 1) next texts) (form_of text))
  where
    by : ((next : Before) → Passed (λ (l : Line). next.headings ≤ l.before.headings) (lines_from registry (number + 1) next texts)) → (form : Form) → Passed (λ (l : Line). before.headings ≤ l.before.headings) (lines_from registry (number + 1) (behind registry before form) texts)
    by next Skipped = next before
    by next (Directs (OfKind kind)) = next (behind registry before (Directs (OfKind kind)))
    by next (Directs (DefaultAttr name)) = next (behind registry before (Directs (DefaultAttr name)))
    by next (Directs (StructLimit name)) = next (behind registry before (Directs (StructLimit name)))
    by next (Directs Unknown) = next before
    by next (Heads heading) = passed_weaker _ (λ (l : Line). before.headings ≤ l.before.headings) _ (λ l g. omega (arith, g)) (next (behind registry before (Heads heading)))
    by next (Asks asked) = next (behind registry before (Asks asked))

abbrev Stays : Before → Line → Type 0
Stays before line = line.before.headings ≡ before.headings → line.before.under ≡ before.under

stays : (registry : Registry) (number : ℕ) (before : Before) (texts : List (List ℕ)) → Passed (Stays before) (lines_from registry number before texts)
stays registry number before [] = tt
stays registry number before (text ∷ texts) = (λ e. refl, by (λ next. stays registry (number + 1) next texts) (form_of text))
  where
    by : ((next : Before) → Passed (Stays next) (lines_from registry (number + 1) next texts)) → (form : Form) → Passed (Stays before) (lines_from registry (number + 1) (behind registry before form) texts)
    by next Skipped = next before
    by next (Directs (OfKind kind)) = next (behind registry before (Directs (OfKind kind)))
    by next (Directs (DefaultAttr name)) = next (behind registry before (Directs (DefaultAttr name)))
    by next (Directs (StructLimit name)) = next (behind registry before (Directs (StructLimit name)))
    by next (Directs Unknown) = next before
    by next (Heads heading) = passed_weaker _ (Stays before) _ (λ l g e. absurd (omega (arith, g, e))) (grows registry (number + 1) (behind registry before (Heads heading)) texts)
    by next (Asks asked) = next (behind registry before (Asks asked))

-- a line that stands under a heading has its kind
abbrev Under : Line → Line → Type 0
Under head line = is_heading (form_of head.text) ≡ true → line.before.headings ≡ head.before.headings + 1 → line.before.under ≡ Some (kind_waiting head.before.pending)

both : {X : Type 0} (P Q : X → Type 0) (xs : List X) → Passed P xs → Passed Q xs → Passed (λ x. P x × Q x) xs
both P Q [] h k = tt
both P Q (x ∷ xs) h k = ((h.0, k.0), both P Q xs h.1 k.1)

under_first : (registry : Registry) (number : ℕ) (before : Before) (text : List ℕ) (texts : List (List ℕ)) →
    Passed (Under (record { number = number; text = text; before = before })) (lines_from registry (number + 1) (behind registry before (form_of text)) texts)
under_first registry number before text texts = by (form_of text) refl
  where
    line : Line
    line = record { number = number; text = text; before = before }

    none : (all : List Line) → is_heading (form_of text) ≡ false → Passed (Under line) all
    none [] e = tt
    none (l ∷ all) e = (λ h u. absurd (let f : ⊥ = cc in f), none all e)

    by : (form : Form) → form_of text ≡ form → Passed (Under line) (lines_from registry (number + 1) (behind registry before form) texts)
    by Skipped e = none _ (ap is_heading e)
    by (Directs directive) e = none _ (ap is_heading e)
    by (Heads heading) e = passed_weaker _ (Under line) _ (λ l s h u. s u) (stays registry (number + 1) (behind registry before (Heads heading)) texts)
    by (Asks asked) e = none _ (ap is_heading e)

under_all : (registry : Registry) (number : ℕ) (before : Before) (texts : List (List ℕ)) →
    Passed (λ (h : Line). Passed (Under h) (lines_from registry number before texts)) (lines_from registry number before texts)
under_all registry number before [] = tt
under_all registry number before (text ∷ texts) =
    let line : Line = record { number = number; text = text; before = before } in
    let next : Before = behind registry before (form_of text) in
    let rest = lines_from registry (number + 1) next texts in
    let later = passed_weaker _ (λ (h : Line). Under h line) rest (λ h g i u. absurd (omega (arith, g, u))) (grows registry number before (text ∷ texts)).1 in
    ((λ i u. absurd (omega (arith, u)), under_first registry number before text texts), both (λ (h : Line). Under h line) (λ (h : Line). Passed (Under h) rest) rest later (under_all registry (number + 1) next texts))

-- ## Relations

query_valid : ReadIsValid → (registry : Registry) → ValidRegistry registry → (kind : RelationKind) (line : Line) (query : Query) → IsGood registry line → line.before.under ≡ Some kind → IsQueryOf registry line query →
    IsGrammarQuery registry kind query
query_valid law registry valid kind line query good under q = record {
  own = q.own;
  limit = line.before.limit;
  valid = law registry line.before.default q.text q.own valid good.1.default q.means;
  labelled = λ lacks. good.0 NoLabel (caused registry line (Asks q.text) NoLabel q.form (Unlabelled q.text q.own kind q.means under lacks));
  declared = good.1.limit;
  is = q.is;
}

queries_valid : ReadIsValid → (registry : Registry) → ValidRegistry registry → (kind : RelationKind) (all : List Line) (queries : List Query) →
    Passed (λ (l : Line). IsGood registry l × (l.before.under ≡ Some kind)) all → AreQueries registry all queries → All (IsGrammarQuery registry kind) queries
queries_valid law registry valid kind [] queries h NoQueries = All-nil (IsGrammarQuery registry kind)
queries_valid law registry valid kind (line ∷ all) queries h (ThenQuery l ls q qs is rest) =
    All-cons (IsGrammarQuery registry kind) q qs (query_valid law registry valid kind line q (h.0).0 (h.0).1 is) (queries_valid law registry valid kind all qs h.1 rest)

relation_valid : ReadIsValid → (registry : Registry) → ValidRegistry registry → (file : List Line) (line : Line) (relation : Relation) → Passed (IsGood registry) file → IsGood registry line → Passed (Under line) file →
    IsRelationOf registry file line relation → ValidRelation registry relation
relation_valid law registry valid file line relation all good under r =
    let head : is_heading (form_of line.text) ≡ true = ap is_heading r.form in
    let n = line.before.headings + 1 in
    let known = passed_first (λ (l : Line). l.before.headings == n) (λ (l : Line). IsGood registry l × Under line l) file (both (IsGood registry) (Under line) file all under) in
    let placed = passed_weaker _ (λ (l : Line). IsGood registry l × (l.before.under ≡ Some relation.kind)) _
    (λ l k. ((k.0).0, (k.0).1 head (eqb-true l.before.headings n k.1) ∙ ap (λ (x : RelationKind). Some x) (sym r.kind))) known in
    let asked = passed_weaker _ (λ (l : Line). IsGood registry l × (l.before.under ≡ Some relation.kind)) _ (λ l k. k.0) (passed_first (λ (l : Line). is_query (form_of l.text)) _ _ placed) in
    record {
      heading = r.heading;
      good = λ none. good.0 NoGoodHeading (caused registry line (Heads r.heading) NoGoodHeading r.form (IsNone r.heading (subst (λ (k : RelationKind). IsNoHeading k r.heading) r.kind none)));
      name = r.name;
      second = r.second;
      queries = queries_valid law registry valid relation.kind (query_lines file n) relation.queries asked r.queries;
    }

relations_valid : ReadIsValid → (registry : Registry) → ValidRegistry registry → (file heads : List Line) (relations : List Relation) → Passed (IsGood registry) file →
    Passed (λ (h : Line). IsGood registry h × Passed (Under h) file) heads → AreRelations registry file heads relations → All (ValidRelation registry) relations
relations_valid law registry valid file [] relations all h NoRelations = All-nil (ValidRelation registry)
relations_valid law registry valid file (line ∷ heads) relations all h (ThenRelation l ls r rs is rest) =
    All-cons (ValidRelation registry) r rs (relation_valid law registry valid file line r all (h.0).0 (h.0).1 is) (relations_valid law registry valid file heads rs all h.1 rest)

-- ## Counts

few_heads : (registry : Registry) (number : ℕ) (before : Before) (texts : List (List ℕ)) → IsSound registry before → Passed (Clean registry) (lines_from registry number before texts) →
    length (heading_lines (lines_from registry number before texts)) + before.headings ≤ headings_limit
few_heads registry number before [] sound clean = let h = sound.headings in omega (arith, h)
few_heads registry number before (text ∷ texts) sound clean =
    let line : Line = record { number = number; text = text; before = before } in
    by (form_of text) refl (few_heads registry (number + 1) (behind registry before (form_of text)) texts (sound_behind registry line clean.0 sound) clean.1)
  where
    rest : Form → List Line
    rest form = lines_from registry (number + 1) (behind registry before form) texts

    Few : Form → Type 0
    Few form = length (heading_lines (rest form)) + (behind registry before form).headings ≤ headings_limit

    same : (form : Form) → is_heading form ≡ false → (behind registry before form).headings ≡ before.headings → form_of text ≡ form → Few form →
        length (heading_lines (lines_from registry number before (text ∷ texts))) + before.headings ≤ headings_limit
    same form none stay e h = rw e (rw none (omega (arith, h, stay)))

    by : (form : Form) → form_of text ≡ form → Few (form_of text) → length (heading_lines (lines_from registry number before (text ∷ texts))) + before.headings ≤ headings_limit
    by Skipped e h = same Skipped refl refl e (subst Few e h)
    by (Directs (OfKind kind)) e h = same (Directs (OfKind kind)) refl refl e (subst Few e h)
    by (Directs (DefaultAttr name)) e h = same (Directs (DefaultAttr name)) refl refl e (subst Few e h)
    by (Directs (StructLimit name)) e h = same (Directs (StructLimit name)) refl refl e (subst Few e h)
    by (Directs Unknown) e h = same (Directs Unknown) refl refl e (subst Few e h)
    by (Heads heading) e h = let k = subst Few e h in rw e (omega (arith, k))
    by (Asks asked) e h = same (Asks asked) refl refl e (subst Few e h)

-- the lines of a file that are queries
abbrev asking : List Line → List Line
asking all = filter (λ (l : Line). is_query (form_of l.text)) all

few_asked : (registry : Registry) (number : ℕ) (before : Before) (texts : List (List ℕ)) → IsSound registry before → Passed (Clean registry) (lines_from registry number before texts) →
    length (asking (lines_from registry number before texts)) + before.queries ≤ grammar_queries_limit
few_asked registry number before [] sound clean = let h = sound.queries in omega (arith, h)
few_asked registry number before (text ∷ texts) sound clean =
    let line : Line = record { number = number; text = text; before = before } in
    by (form_of text) refl (few_asked registry (number + 1) (behind registry before (form_of text)) texts (sound_behind registry line clean.0 sound) clean.1)
  where
    rest : Form → List Line
    rest form = lines_from registry (number + 1) (behind registry before form) texts

    Few : Form → Type 0
    Few form = length (asking (rest form)) + (behind registry before form).queries ≤ grammar_queries_limit

    same : (form : Form) → is_query form ≡ false → (behind registry before form).queries ≡ before.queries → form_of text ≡ form → Few form →
        length (asking (lines_from registry number before (text ∷ texts))) + before.queries ≤ grammar_queries_limit
    same form none stay e h = rw e (rw none (omega (arith, h, stay)))

    by : (form : Form) → form_of text ≡ form → Few (form_of text) → length (asking (lines_from registry number before (text ∷ texts))) + before.queries ≤ grammar_queries_limit
    by Skipped e h = same Skipped refl refl e (subst Few e h)
    by (Directs (OfKind kind)) e h = same (Directs (OfKind kind)) refl refl e (subst Few e h)
    by (Directs (DefaultAttr name)) e h = same (Directs (DefaultAttr name)) refl refl e (subst Few e h)
    by (Directs (StructLimit name)) e h = same (Directs (StructLimit name)) refl refl e (subst Few e h)
    by (Directs Unknown) e h = same (Directs Unknown) refl refl e (subst Few e h)
    by (Heads heading) e h = same (Heads heading) refl refl e (subst Few e h)
    by (Asks asked) e h = let k = subst Few e h in rw e (omega (arith, k))

as_many : (registry : Registry) (file heads : List Line) (relations : List Relation) → AreRelations registry file heads relations → length relations ≡ length heads
as_many registry file [] relations NoRelations = refl
as_many registry file (line ∷ heads) relations (ThenRelation l ls r rs is rest) = ap suc (as_many registry file heads rs rest)

as_many_asked : (registry : Registry) (all : List Line) (queries : List Query) → AreQueries registry all queries → length queries ≡ length all
as_many_asked registry [] queries NoQueries = refl
as_many_asked registry (line ∷ all) queries (ThenQuery l ls q qs is rest) = ap suc (as_many_asked registry all qs rest)

-- headings are numbered one by one
abbrev Numbered : ℕ → List Line → Type 0
Numbered n [] = Unit {0}
Numbered n (h ∷ heads) = (h.before.headings ≡ n) × Numbered (n + 1) heads

numbered : (registry : Registry) (number : ℕ) (before : Before) (texts : List (List ℕ)) → Numbered before.headings (heading_lines (lines_from registry number before texts))
numbered registry number before [] = tt
numbered registry number before (text ∷ texts) = by (form_of text) refl (numbered registry (number + 1) (behind registry before (form_of text)) texts)
  where
    Are : Form → Type 0
    Are form = Numbered (behind registry before form).headings (heading_lines (lines_from registry (number + 1) (behind registry before form) texts))

    by : (form : Form) → form_of text ≡ form → Are (form_of text) → Numbered before.headings (heading_lines (lines_from registry number before (text ∷ texts)))
    by Skipped e h = rw e (subst Are e h)
    by (Directs (OfKind kind)) e h = rw e (subst Are e h)
    by (Directs (DefaultAttr name)) e h = rw e (subst Are e h)
    by (Directs (StructLimit name)) e h = rw e (subst Are e h)
    by (Directs Unknown) e h = rw e (subst Are e h)
    by (Heads heading) e h = rw e (refl, subst Are e h)
    by (Asks asked) e h = rw e (subst Are e h)

-- how many queries stand under a heading whose number is greater
abbrev above : ℕ → List Line → ℕ
above n [] = 0
above n (l ∷ all) = cond (is_query (form_of l.text) && nat_lt n l.before.headings) 1 0 + above n all

one_less : (n : ℕ) (all : List Line) → length (query_lines all (n + 1)) + above (n + 1) all ≤ above n all
one_less n [] = omega arith
one_less n (l ∷ all) = by (is_query (form_of l.text)) refl (l.before.headings == n + 1) refl (nat_lt n l.before.headings) refl (nat_lt (n + 1) l.before.headings) refl (one_less n all)
  where
    by : (q : Bool) → is_query (form_of l.text) ≡ q → (s : Bool) → (l.before.headings == n + 1) ≡ s → (a : Bool) → nat_lt n l.before.headings ≡ a → (b : Bool) → nat_lt (n + 1) l.before.headings ≡ b →
        length (query_lines all (n + 1)) + above (n + 1) all ≤ above n all → length (query_lines (l ∷ all) (n + 1)) + above (n + 1) (l ∷ all) ≤ above n (l ∷ all)
    by false q true s a f b g h = rw s (rw q (omega (arith, h)))
    by false q false s a f b g h = rw s (rw q (omega (arith, h)))
    by true q true s true f true g h = absurd (let i = eqb-true l.before.headings (n + 1) s in grind (arith, nat_tests, i, g))
    by true q true s true f false g h = rw s (rw q (rw f (rw g (omega (arith, h)))))
    by true q true s false f b g h = absurd (let i = eqb-true l.before.headings (n + 1) s in grind (arith, nat_tests, i, f))
    by true q false s true f true g h = rw s (rw q (rw f (rw g (omega (arith, h)))))
    by true q false s true f false g h = rw s (rw q (rw f (rw g (omega (arith, h)))))
    by true q false s false f true g h = absurd (grind (arith, nat_tests, f, g))
    by true q false s false f false g h = rw s (rw q (rw f (rw g (omega (arith, h)))))

all_above : (n : ℕ) (all : List Line) → above n all ≤ length (asking all)
all_above n [] = omega arith
all_above n (l ∷ all) = by (is_query (form_of l.text)) refl (nat_lt n l.before.headings) refl (all_above n all)
  where
    by : (q : Bool) → is_query (form_of l.text) ≡ q → (a : Bool) → nat_lt n l.before.headings ≡ a → above n all ≤ length (asking all) → above n (l ∷ all) ≤ length (asking (l ∷ all))
    by false q a f h = rw q (omega (arith, h))
    by true q true f h = rw q (rw f (omega (arith, h)))
    by true q false f h = rw q (rw f (omega (arith, h)))

counted : (registry : Registry) (file : List Line) (n : ℕ) (heads : List Line) (relations : List Relation) → Numbered n heads → AreRelations registry file heads relations → query_count relations ≤ above n file
counted registry file n [] relations h NoRelations = omega arith
counted registry file n (line ∷ heads) relations h (ThenRelation l ls r rs is rest) =
    let own : length r.queries ≡ length (query_lines file (n + 1)) = subst (λ (m : ℕ). length r.queries ≡ length (query_lines file (m + 1))) h.0 (as_many_asked registry (query_lines file (line.before.headings + 1)) r.queries is.queries) in
    let others = counted registry file (n + 1) heads rs h.1 rest in
    let less = one_less n file in
    omega (arith, own, others, less)

-- ## The grammar

some_relation : (registry : Registry) (file heads : List Line) (relations : List Relation) → heads ≢ [] → AreRelations registry file heads relations → relations ≢ []
some_relation registry file [] relations some NoRelations = absurd (some refl)
some_relation registry file (line ∷ heads) relations some (ThenRelation l ls r rs is rest) = λ e. cc

sound_at_top : (registry : Registry) → 0 < length registry.attrs → IsSound registry at_top
sound_at_top registry some = record { default = some; limit = tt; headings = omega arith; queries = omega arith }

pub read_is_valid : ReadIsValid → (registry : Registry) (bytes : List ℕ) (grammar : Grammar) → ValidRegistry registry → ReadsGrammar registry bytes grammar → ValidGrammar registry grammar
read_is_valid law registry bytes grammar valid read =
    let file = lines_of registry bytes in
    let heads = heading_lines file in
    let sketched = valid.sketched in
    let top = sound_at_top registry (omega (arith, sketched)) in
    let clean = clean_all registry file read.faultless in
    let good = all_good registry 1 at_top (lines bytes) top clean in
    let known = both (IsGood registry) (λ (h : Line). Passed (Under h) file) file good (under_all registry 1 at_top (lines bytes)) in
    let known_heads = passed_weaker _ (λ (h : Line). IsGood registry h × Passed (Under h) file) heads (λ h k. k.0) (passed_first (λ (l : Line). is_heading (form_of l.text)) (λ (h : Line). IsGood registry h × Passed (Under h) file) file known) in
    let few = few_heads registry 1 at_top (lines bytes) top clean in
    let asked = few_asked registry 1 at_top (lines bytes) top clean in
    let same = as_many registry file heads grammar.relations read.are in
    let counts = counted registry file 0 heads grammar.relations (numbered registry 1 at_top (lines bytes)) read.are in
    let most = all_above 0 file in
    record {
      some = some_relation registry file heads grammar.relations read.some read.are;
      few = omega (arith, few, same);
      asked = omega (arith, asked, counts, most);
      relations = relations_valid law registry valid file heads grammar.relations good known_heads read.are;
    }
