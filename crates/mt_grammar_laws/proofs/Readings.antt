-- A grammar file has some answer.
use Rattle.std.proofs.Common.{◌≡◌, ℕ, ◌+◌, ◌<◌, inl, inr, zero, suc, Bool, true, false, List, [], ◌∷◌, ◌++◌, Result, Ok, Err, arith, refl, sym, ◌∙◌, subst, append_assoc, append-nil}
use Rattle.std.specs.Prelude.{◌==◌}
use Rattle.std.specs.List.{filter}
use Rattle.std.proofs.lemmas.Bool.{cases_lt}
use Rattle.mt_text_spec.specs.Registries.{Registry}
use Rattle.mt_text_spec.specs.Queries.{Query, Relation, Grammar}
use Rattle.mt_query_spec.specs.Verdicts.{Means, Refusal}
use Rattle.mt_grammar_spec.specs.GrammarLines.{Form, Skipped, Directs, Heads, Asks, form_of}
use Rattle.mt_grammar_spec.specs.GrammarFile.{Line, lines_of, kind_waiting, GrammarCause, NoQuery, rank, FormCause, Refused, HasCause, IsFaultless, FirstGrammarFault}
use Rattle.mt_grammar_spec.specs.ReadGrammar.{limited, is_heading, is_query, heading_lines, query_lines, IsQueryOf, AreQueries, NoQueries, ThenQuery, name_by, second_by, IsRelationOf, AreRelations, NoRelations, ThenRelation, ReadsGrammar, LacksRelation}

abbrev pub SomeMeaning : Type 0
SomeMeaning = (registry : Registry) (default : ℕ) (text : List ℕ) → (said : Result Query Refusal) × Means registry default text said

abbrev NoFault : Registry → List ℕ → Type 0
NoFault registry bytes = (number : ℕ) (cause : GrammarCause) → FirstGrammarFault registry bytes number cause → ⊥

-- ## Without a first fault no line has a cause

no_cause : (registry : Registry) (bytes : List ℕ) (earlier later : List Line) (line : Line) → lines_of registry bytes ≡ earlier ++ line ∷ later → IsFaultless registry earlier → NoFault registry bytes →
    (n : ℕ) (cause : GrammarCause) → rank cause < n → HasCause registry line cause → ⊥
no_cause registry bytes earlier later line are before none zero cause l h = absurd (omega (arith, l))
no_cause registry bytes earlier later line are before none (suc n) cause l h =
    none line.number cause (record {
      earlier = earlier;
      line = line;
      later = later;
      are = are;
      numbered = refl;
      here = h;
      first_cause = λ other k. elim (cases_lt (rank other) (rank cause)) [ inl low ↦ absurd (no_cause registry bytes earlier later line are before none n other (omega (arith, l, low)) k) | inr high ↦ high ];
      first_line = before;
    })

one_more : (registry : Registry) (earlier : List Line) (line : Line) → IsFaultless registry earlier → ((cause : GrammarCause) → HasCause registry line cause → ⊥) → IsFaultless registry (earlier ++ line ∷ [])
one_more registry [] line before here other cause (zero, l, e) h = here cause (subst (λ (x : Line). HasCause registry x cause) (sym e) h)
one_more registry [] line before here other cause (suc k, l, e) h = absurd (omega (arith, l))
one_more registry (x ∷ earlier) line before here other cause (zero, l, e) h = before other cause (0, omega arith, e) h
one_more registry (x ∷ earlier) line before here other cause (suc k, l, e) h =
    one_more registry earlier line (λ o c m. before o c (suc m.0, omega (arith, m.1), m.2)) here other cause (k, omega (arith, l), e) h

no_causes : (registry : Registry) (bytes : List ℕ) (earlier rest : List Line) → lines_of registry bytes ≡ earlier ++ rest → IsFaultless registry earlier → NoFault registry bytes → IsFaultless registry (earlier ++ rest)
no_causes registry bytes earlier [] are before none = subst (λ (all : List Line). IsFaultless registry all) (sym (append-nil earlier)) before
no_causes registry bytes earlier (line ∷ rest) are before none =
    let here : (cause : GrammarCause) → HasCause registry line cause → ⊥ = λ cause h. no_cause registry bytes earlier rest line are before none (suc (rank cause)) cause (omega arith) h in
    let on = sym (append_assoc earlier (line ∷ []) rest) in
    subst (λ (all : List Line). IsFaultless registry all) (sym on) (no_causes registry bytes (earlier ++ line ∷ []) rest (are ∙ on) (one_more registry earlier line before here) none)

all_faultless : (registry : Registry) (bytes : List ℕ) → NoFault registry bytes → IsFaultless registry (lines_of registry bytes)
all_faultless registry bytes none = no_causes registry bytes [] (lines_of registry bytes) refl (λ line cause m h. omega (arith, m.1)) none

-- ## And then it is read

-- the items of a list that pass a test, one by one
abbrev pub Passed : {X : Type 0} → (P : X → Type 0) → List X → Type 0
Passed P [] = Unit {0}
Passed P (x ∷ xs) = P x × Passed P xs

pub passed_first : {X : Type 0} (p : X → Bool) (P : X → Type 0) (xs : List X) → Passed P xs → Passed (λ x. P x × (p x ≡ true)) (filter p xs)
passed_first p P [] h = tt
passed_first {X} p P (x ∷ xs) h = by (p x) refl (passed_first p P xs h.1)
  where
    by : (b : Bool) → p x ≡ b → Passed (λ y. P y × (p y ≡ true)) (filter p xs) → Passed (λ y. P y × (p y ≡ true)) (filter p (x ∷ xs))
    by true e rest = rw e ((h.0, e), rest)
    by false e rest = rw e rest

pub passed_weaker : {X : Type 0} (P Q : X → Type 0) (xs : List X) → ((x : X) → P x → Q x) → Passed P xs → Passed Q xs
passed_weaker P Q [] f h = tt
passed_weaker P Q (x ∷ xs) f h = (f x h.0, passed_weaker P Q xs f h.1)

abbrev pub Clean : Registry → Line → Type 0
Clean registry line = (cause : GrammarCause) → HasCause registry line cause → ⊥

pub clean_all : (registry : Registry) (all : List Line) → IsFaultless registry all → Passed (Clean registry) all
clean_all registry [] h = tt
clean_all registry (line ∷ all) h = (λ cause c. h line cause (0, omega arith, refl) c, clean_all registry all (λ other cause m c. h other cause (suc m.0, omega (arith, m.1), m.2) c))

query_of : SomeMeaning → (registry : Registry) (line : Line) → Clean registry line → is_query (form_of line.text) ≡ true → (query : Query) × IsQueryOf registry line query
query_of some registry line clean q = by (form_of line.text) refl q
  where
    said_by : (text : List ℕ) → form_of line.text ≡ Asks text → (said : Result Query Refusal) → Means registry line.before.default text said → (query : Query) × IsQueryOf registry line query
    said_by text e (Ok own) m = (limited line.before.limit own, record { text = text; form = e; own = own; means = m; is = refl })
    said_by text e (Err refusal) m = absurd (clean (NoQuery refusal) (subst (λ (f : Form). FormCause registry line.before f (NoQuery refusal)) (sym e) (Refused text refusal m)))

    by : (form : Form) → form_of line.text ≡ form → is_query form ≡ true → (query : Query) × IsQueryOf registry line query
    by Skipped e q = cc
    by (Directs directive) e q = cc
    by (Heads heading) e q = cc
    by (Asks text) e q = let m = some registry line.before.default text in said_by text e m.0 m.1

queries_of : SomeMeaning → (registry : Registry) (all : List Line) → Passed (λ line. Clean registry line × (is_query (form_of line.text) ≡ true)) all → (queries : List Query) × AreQueries registry all queries
queries_of some registry [] h = ([], NoQueries)
queries_of some registry (line ∷ all) h =
    let q = query_of some registry line (h.0).0 (h.0).1 in
    let qs = queries_of some registry all h.1 in
    (q.0 ∷ qs.0, ThenQuery line all q.0 qs.0 q.1 qs.1)

relation_of : SomeMeaning → (registry : Registry) (file : List Line) (line : Line) → Passed (Clean registry) file → is_heading (form_of line.text) ≡ true → (relation : Relation) × IsRelationOf registry file line relation
relation_of some registry file line clean q = by (form_of line.text) refl q
  where
    by : (form : Form) → form_of line.text ≡ form → is_heading form ≡ true → (relation : Relation) × IsRelationOf registry file line relation
    by Skipped e q = cc
    by (Directs directive) e q = cc
    by (Heads heading) e q =
        let kind = kind_waiting line.before.pending in
        let under = passed_weaker _ (Clean registry) _ (λ x h. h.0) (passed_first (λ (l : Line). l.before.headings == line.before.headings + 1) (Clean registry) file clean) in
        let asked = queries_of some registry (query_lines file (line.before.headings + 1)) (passed_first (λ (l : Line). is_query (form_of l.text)) (Clean registry) _ under) in (
          record { kind = kind; name = name_by kind heading; second = second_by kind heading; queries = asked.0 },
          record { heading = heading; form = e; kind = refl; name = refl; second = refl; queries = asked.1 },
        )
    by (Asks text) e q = cc

relations_of : SomeMeaning → (registry : Registry) (file all : List Line) → Passed (Clean registry) file → Passed (λ line. Clean registry line × (is_heading (form_of line.text) ≡ true)) all →
    (relations : List Relation) × AreRelations registry file all relations
relations_of some registry file [] clean h = ([], NoRelations)
relations_of some registry file (line ∷ all) clean h =
    let r = relation_of some registry file line clean (h.0).1 in
    let rs = relations_of some registry file all clean h.1 in
    (r.0 ∷ rs.0, ThenRelation line all r.0 rs.0 r.1 rs.1)

pub some_answer : SomeMeaning → (registry : Registry) (bytes : List ℕ) → ((grammar : Grammar) → ReadsGrammar registry bytes grammar → ⊥) → (LacksRelation registry bytes → ⊥) →
    ((number : ℕ) (cause : GrammarCause) → FirstGrammarFault registry bytes number cause → ⊥) → ⊥
some_answer some registry bytes unread full none =
    let faultless = all_faultless registry bytes none in
    let file = lines_of registry bytes in
    let clean = clean_all registry file faultless in
    let read = relations_of some registry file (heading_lines file) clean (passed_first (λ (l : Line). is_heading (form_of l.text)) (Clean registry) file clean) in
    unread (record { relations = read.0 }) (record { faultless = faultless; some = λ e. full (record { faultless = faultless; none = e }); are = read.1 })
