-- Queries and grammars have few patterns.
use Rattle.std.proofs.Common.{◌≡◌, ℕ, ◌+◌, ◌*◌, ◌<◌, ◌≤◌, inl, inr, suc, Bool, true, false, List, [], ◌∷◌, ◌++◌, length, Option, None, Some, Result, Ok, arith, refl, sym, ◌∙◌, ap, subst}
use Rattle.std.specs.Prelude.{◌||◌, nat_lt}
use Rattle.std.specs.List.{filter, flat_map}
use Rattle.std.specs.Str.Lines.{lines}
use Rattle.std.proofs.lemmas.Bool.{cases_lt}
use Rattle.std.proofs.lemmas.Grind.{common_steps}
use Rattle.std.proofs.lemmas.List.{length-append}
use Rattle.std.proofs.lemmas.List.Concat.{flat_map-append}
use Rattle.mt_text_spec.specs.Registries.{Registry}
use Rattle.mt_text_spec.specs.Queries.{Any, Whole, Within, Filters, NoMore, More, Query, Relation, Grammar}
use Rattle.mt_query_spec.specs.Meaning.{query_of}
use Rattle.mt_query_spec.specs.Measures.{nodes, size}
use Rattle.mt_query_spec.specs.Contents.{patterns, expr_patterns, filter_patterns}
use Rattle.mt_query_spec.specs.Verdicts as verdict
use Rattle.mt_query_spec.specs.Verdicts.{Cause, Means, too_long, unlexed, no_query, cut_short, written, judged, is_too_great}
use Rattle.mt_grammar_spec.specs.GrammarLines.{OfKind, DefaultAttr, StructLimit, Unknown, Form, Skipped, Directs, Heads, Asks, form_of}
use Rattle.mt_grammar_spec.specs.GrammarFile.{Before, at_top, Line, lines_from, lines_of, behind, TooMany, FormCause, ManyHeadings, ManyQueries, IsFaultless, headings_limit, grammar_queries_limit}
use Rattle.mt_grammar_spec.specs.ReadGrammar.{filter_behind, limited, is_query, heading_lines, query_lines, IsQueryOf, AreQueries, NoQueries, ThenQuery, AreRelations, NoRelations, ThenRelation, ReadsGrammar, is_heading}
use Rattle.mt_rule_spec.specs.Rules.{relation_queries, grammar_patterns}
use Rattle.mt_session_laws.specs.Lawful.{PatternLaws}

-- ## Queries have few patterns

judged_good : (fault : Option (ℕ × Cause)) (unknown : Option ℕ) (great : Bool) (query other : Query) → judged fault unknown great query ≡ Ok other → (query ≡ other) × (great ≡ false)
judged_good (Some fault) unknown great query other e = let f : ⊥ = cc in absurd f
judged_good None (Some at) great query other e = let f : ⊥ = cc in absurd f
judged_good None None true query other e = let f : ⊥ = cc in absurd f
judged_good None None false query other e = (cc, refl)

not_great : (registry : Registry) (default : ℕ) (text : List ℕ) (said : Result Query verdict.Refusal) (query : Query) → said ≡ Ok query → Means registry default text said → is_too_great query ≡ false
not_great registry default text said query e (too_long long) = let f : ⊥ = cc in absurd f
not_great registry default text said query e (unlexed long at why stop begins) = let f : ⊥ = cc in absurd f
not_great registry default text said query e (no_query long number at token there begins none) = let f : ⊥ = cc in absurd f
not_great registry default text said query e (cut_short long stop begins none) = let f : ⊥ = cc in absurd f
not_great registry default text said query e (written long stop tree tokens) =
    let good = judged_good _ _ _ (query_of registry default tree) query e in
    subst (λ (q : Query). is_too_great q ≡ false) good.0 good.1

few_nodes : (a b : ℕ) → (nat_lt 256 a || nat_lt 4096 b) ≡ false → a ≤ 256
few_nodes a b e = grind (arith, common_steps)

pub few_patterns : PatternLaws → (registry : Registry) (default : ℕ) (text : List ℕ) (query : Query) → Means registry default text (Ok query) → length (patterns query) ≤ 256
few_patterns laws registry default text query r =
    let small : nodes query ≤ 256 = few_nodes (nodes query) (size query) (not_great registry default text (Ok query) query refl r) in
    let few : length (patterns query) ≤ nodes query = laws.few query in
    omega (arith, small, few)

-- ## Queries of a grammar

-- the limit, as the last filter, has no pattern
filters_same : (kind : ℕ) (filters : Filters) → filter_patterns (filter_behind filters (More Within (Whole kind Any) NoMore NoMore)) ≡ filter_patterns filters
filters_same kind NoMore = refl
filters_same kind (More by head filters others) = ap (λ (t : List (List ℕ)). expr_patterns head ++ (filter_patterns filters ++ t)) (filters_same kind others)

limited_same : (limit : Option ℕ) (own : Query) → patterns (limited limit own) ≡ patterns own
limited_same None own = refl
limited_same (Some kind) own = ap (λ (t : List (List ℕ)). expr_patterns own.head ++ t) (filters_same kind own.filters)

query_few : PatternLaws → (registry : Registry) (line : Line) (query : Query) → IsQueryOf registry line query → length (patterns query) ≤ 256
query_few laws registry line query q =
    let few = few_patterns laws registry line.before.default q.text q.own q.means in
    let same : length (patterns query) ≡ length (patterns q.own) = ap (λ (x : Query). length (patterns x)) q.is ∙ ap length (limited_same line.before.limit q.own) in
    omega (arith, few, same)

queries_few : PatternLaws → (registry : Registry) (all : List Line) (queries : List Query) → AreQueries registry all queries → length (flat_map patterns queries) ≤ 256 * length all
queries_few laws registry [] queries NoQueries = omega arith
queries_few laws registry (line ∷ all) queries (ThenQuery l ls query others is rest) =
    let here = query_few laws registry line query is in
    let more = queries_few laws registry all others rest in
    let both : length (flat_map patterns (query ∷ others)) ≡ length (patterns query) + length (flat_map patterns others) = length-append (patterns query) (flat_map patterns others) in
    omega (arith, here, more, both)

-- ## Headings and queries of a file

-- the lines of a file that are queries
abbrev asking : List Line → List Line
asking all = filter (λ (l : Line). is_query (form_of l.text)) all

-- a line in its place that is not one too many
abbrev IsInTime : Registry → Line → Type 0
IsInTime registry line = FormCause registry line.before (form_of line.text) TooMany → ⊥

-- each of these lines is in time
abbrev AreInTime : Registry → List Line → Type 0
AreInTime registry [] = Unit {0}
AreInTime registry (line ∷ all) = IsInTime registry line × AreInTime registry all

in_time : (registry : Registry) (all : List Line) → IsFaultless registry all → AreInTime registry all
in_time registry [] faultless = tt
in_time registry (line ∷ all) faultless =
    (λ c. faultless line TooMany (0, omega arith, refl) c, in_time registry all (λ other cause m h. faultless other cause (suc m.0, (let l : m.0 < length all = m.1 in omega arith), m.2) h))

caused : (registry : Registry) (before : Before) (text : List ℕ) (form : Form) → form_of text ≡ form → FormCause registry before form TooMany → FormCause registry before (form_of text) TooMany
caused registry before text form e c = subst (λ (f : Form). FormCause registry before f TooMany) (sym e) c

few_heads : (registry : Registry) (number : ℕ) (before : Before) (texts : List (List ℕ)) → before.headings ≤ headings_limit → AreInTime registry (lines_from registry number before texts) →
    length (heading_lines (lines_from registry number before texts)) + before.headings ≤ headings_limit
few_heads registry number before [] low timely = omega (arith, low)
few_heads registry number before (text ∷ texts) low timely = by (form_of text) refl (few_heads registry (number + 1) (behind registry before (form_of text)) texts) timely.1
  where
    rest : Form → List Line
    rest form = lines_from registry (number + 1) (behind registry before form) texts

    Few : Form → Type 0
    Few form = (behind registry before form).headings ≤ headings_limit → AreInTime registry (rest form) → length (heading_lines (rest form)) + (behind registry before form).headings ≤ headings_limit

    same : (form : Form) → is_heading form ≡ false → (behind registry before form).headings ≡ before.headings → form_of text ≡ form → Few form → AreInTime registry (rest form) →
        length (heading_lines (lines_from registry number before (text ∷ texts))) + before.headings ≤ headings_limit
    same form none stay e h t = let k = h (omega (arith, low, stay)) t in rw e (rw none (omega (arith, k, stay)))

    by : (form : Form) → form_of text ≡ form → Few (form_of text) → AreInTime registry (rest (form_of text)) →
        length (heading_lines (lines_from registry number before (text ∷ texts))) + before.headings ≤ headings_limit
    by Skipped e h t = same Skipped refl refl e (subst Few e h) (subst (λ (f : Form). AreInTime registry (rest f)) e t)
    by (Directs (OfKind kind)) e h t = same (Directs (OfKind kind)) refl refl e (subst Few e h) (subst (λ (f : Form). AreInTime registry (rest f)) e t)
    by (Directs (DefaultAttr name)) e h t = same (Directs (DefaultAttr name)) refl refl e (subst Few e h) (subst (λ (f : Form). AreInTime registry (rest f)) e t)
    by (Directs (StructLimit name)) e h t = same (Directs (StructLimit name)) refl refl e (subst Few e h) (subst (λ (f : Form). AreInTime registry (rest f)) e t)
    by (Directs Unknown) e h t = same (Directs Unknown) refl refl e (subst Few e h) (subst (λ (f : Form). AreInTime registry (rest f)) e t)
    by (Heads heading) e h t = elim (cases_lt before.headings headings_limit) [
      | inl small ↦ let k = subst Few e h (omega (arith, small)) (subst (λ (f : Form). AreInTime registry (rest f)) e t) in rw e (omega (arith, k))
      | inr high ↦ absurd (timely.0 (caused registry before text (Heads heading) e (ManyHeadings heading high)))
    ]
    by (Asks asked) e h t = same (Asks asked) refl refl e (subst Few e h) (subst (λ (f : Form). AreInTime registry (rest f)) e t)

few_asked : (registry : Registry) (number : ℕ) (before : Before) (texts : List (List ℕ)) → before.queries ≤ grammar_queries_limit → AreInTime registry (lines_from registry number before texts) →
    length (asking (lines_from registry number before texts)) + before.queries ≤ grammar_queries_limit
few_asked registry number before [] low timely = omega (arith, low)
few_asked registry number before (text ∷ texts) low timely = by (form_of text) refl (few_asked registry (number + 1) (behind registry before (form_of text)) texts) timely.1
  where
    rest : Form → List Line
    rest form = lines_from registry (number + 1) (behind registry before form) texts

    Few : Form → Type 0
    Few form = (behind registry before form).queries ≤ grammar_queries_limit → AreInTime registry (rest form) → length (asking (rest form)) + (behind registry before form).queries ≤ grammar_queries_limit

    same : (form : Form) → is_query form ≡ false → (behind registry before form).queries ≡ before.queries → form_of text ≡ form → Few form → AreInTime registry (rest form) →
        length (asking (lines_from registry number before (text ∷ texts))) + before.queries ≤ grammar_queries_limit
    same form none stay e h t = let k = h (omega (arith, low, stay)) t in rw e (rw none (omega (arith, k, stay)))

    by : (form : Form) → form_of text ≡ form → Few (form_of text) → AreInTime registry (rest (form_of text)) →
        length (asking (lines_from registry number before (text ∷ texts))) + before.queries ≤ grammar_queries_limit
    by Skipped e h t = same Skipped refl refl e (subst Few e h) (subst (λ (f : Form). AreInTime registry (rest f)) e t)
    by (Directs (OfKind kind)) e h t = same (Directs (OfKind kind)) refl refl e (subst Few e h) (subst (λ (f : Form). AreInTime registry (rest f)) e t)
    by (Directs (DefaultAttr name)) e h t = same (Directs (DefaultAttr name)) refl refl e (subst Few e h) (subst (λ (f : Form). AreInTime registry (rest f)) e t)
    by (Directs (StructLimit name)) e h t = same (Directs (StructLimit name)) refl refl e (subst Few e h) (subst (λ (f : Form). AreInTime registry (rest f)) e t)
    by (Directs Unknown) e h t = same (Directs Unknown) refl refl e (subst Few e h) (subst (λ (f : Form). AreInTime registry (rest f)) e t)
    by (Heads heading) e h t = same (Heads heading) refl refl e (subst Few e h) (subst (λ (f : Form). AreInTime registry (rest f)) e t)
    by (Asks asked) e h t = elim (cases_lt before.queries grammar_queries_limit) [
      | inl small ↦ let k = subst Few e h (omega (arith, small)) (subst (λ (f : Form). AreInTime registry (rest f)) e t) in rw e (omega (arith, k))
      | inr high ↦ absurd (timely.0 (caused registry before text (Asks asked) e (ManyQueries asked high)))
    ]

-- ## Patterns of a grammar

fewer : {X : Type 0} (p q : X → Bool) (xs : List X) → length (filter p (filter q xs)) ≤ length (filter p xs)
fewer p q [] = omega arith
fewer p q (x ∷ xs) = by (q x) refl (p x) refl (fewer p q xs)
  where
    by : (s : Bool) → q x ≡ s → (t : Bool) → p x ≡ t → length (filter p (filter q xs)) ≤ length (filter p xs) → length (filter p (filter q (x ∷ xs))) ≤ length (filter p (x ∷ xs))
    by true e true f h = rw e (rw f (omega (arith, h)))
    by true e false f h = rw e (rw f (omega (arith, h)))
    by false e true f h = rw e (rw f (omega (arith, h)))
    by false e false f h = rw e (rw f (omega (arith, h)))

relations_few : PatternLaws → (registry : Registry) (file heads : List Line) (relations : List Relation) → length (asking file) ≤ grammar_queries_limit → AreRelations registry file heads relations →
    length (flat_map patterns (relation_queries relations)) ≤ 262144 * length heads
relations_few laws registry file [] relations few NoRelations = omega arith
relations_few laws registry file (line ∷ heads) relations few (ThenRelation l ls relation others is rest) =
    let here = queries_few laws registry (query_lines file (line.before.headings + 1)) relation.queries is.queries in
    let within : length (query_lines file (line.before.headings + 1)) ≤ length (asking file) = fewer (λ (l : Line). is_query (form_of l.text)) _ file in
    let more = relations_few laws registry file heads others few rest in
    let split : length (flat_map patterns (relation_queries (relation ∷ others))) ≡ length (flat_map patterns relation.queries ++ flat_map patterns (relation_queries others)) =
    ap length (flat_map-append patterns relation.queries (relation_queries others)) in
    let both = length-append (flat_map patterns relation.queries) (flat_map patterns (relation_queries others)) in
    omega (arith, here, within, more, split, both, few)

-- a grammar that is read has at most 2^26 patterns, whatever the registry
pub few_rules : PatternLaws → (registry : Registry) (bytes : List ℕ) (grammar : Grammar) → ReadsGrammar registry bytes grammar → length (grammar_patterns grammar) ≤ 67108864
few_rules laws registry bytes grammar read =
    let file = lines_of registry bytes in
    let timely = in_time registry file read.faultless in
    let heads = few_heads registry 1 at_top (lines bytes) (omega arith) timely in
    let asked = few_asked registry 1 at_top (lines bytes) (omega arith) timely in
    let few = relations_few laws registry file (heading_lines file) grammar.relations (omega (arith, asked)) read.are in
    omega (arith, few, heads)
