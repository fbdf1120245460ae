-- Where building stops, in the patterns of a grammar.
use Rattle.std.proofs.Common.{◌≡◌, ℕ, ◌+◌, ◌*◌, ◌^◌, ◌<◌, ◌≤◌, List, [], ◌∷◌, ◌++◌, length, length-append, take, get_or, refl, sym, ◌∙◌, ap, subst, append_assoc, arith}
use Rattle.std.specs.List.{All, flat_map}
use Rattle.std.proofs.lemmas.List.Elements.{All-append, All-head, All-tail}
use Rattle.mt_text_spec.specs.Registries.{Registry}
use Rattle.mt_text_spec.specs.Queries.{Test, Any, Pattern, Literal, Not, Both, Either, Expr, TokenTest, Begin, End, Whole, Seq, Choice, Repeat, Filters, NoMore, More, Query, RelationKind, Relation, Grammar}
use Rattle.mt_query_spec.specs.Contents as counted
use Rattle.mt_query_spec.specs.Measures.{nodes}
use Rattle.mt_grammar_spec.specs.ValidGrammar.{IsGrammarQuery, ValidGrammar, ValidRelation, query_count}
use Rattle.mt_eval_spec.specs.Asked as built
use Rattle.mt_eval_spec.specs.Asked.{query_patterns}
use Rattle.mt_prepare.specs.Built.{IsWhole, StopsAt, Blames}
use Rattle.mt_prepare.specs.declared.patterns.PatternError.{PatternError}
use Rattle.mt_prepare.specs.declared.patterns.PatternError.TheVariants.{Syntax, Refused, NoMemory}
use Rattle.mt_grammar_counts.specs.Asked.{error_behind, grammar_patterns, named_number}
use Rattle.mt_grammar_counts.proofs.Parts.{parts_at, parts_more, parts_of_parts}

-- ---- texts that stand one after another

stops_first : (first k : ℕ) (a b : List (List ℕ)) (text : List ℕ) → StopsAt first a k text → StopsAt first (a ++ b) k text
stops_first first k a b text s = record {
  before = s.before;
  behind = s.behind ++ b;
  split = ap (λ (l : List (List ℕ)). l ++ b) s.split ∙ append_assoc s.before (text ∷ s.behind) b;
  number = s.number;
  patterns = s.patterns;
}

stops_later : (first later k : ℕ) (a b : List (List ℕ)) (text : List ℕ) → later ≡ first + length a → All IsWhole a → StopsAt later b k text → StopsAt first (a ++ b) k text
stops_later first later k a b text e patterns s = record {
  before = a ++ s.before;
  behind = s.behind;
  split = ap (λ (l : List (List ℕ)). a ++ l) s.split ∙ sym (append_assoc a s.before (text ∷ s.behind));
  number = omega (arith, s.number, e, length-append a s.before);
  patterns = All-append IsWhole a s.before patterns s.patterns;
}

blames_first : (first : ℕ) (a b old new : List (List ℕ)) (e : PatternError) → Blames first a old new e → Blames first (a ++ b) old new e
blames_first first a b old new (Syntax k) h = (record { text = h.0.text; stops = stops_first first k a b h.0.text h.0.stops; none = h.0.none }, h.1)
blames_first first a b old new (Refused k) h = record { text = h.text; stops = stops_first first k a b h.text h.stops; refused = h.refused }
blames_first first a b old new NoMemory h = h

blames_later : (first later : ℕ) (a b old new : List (List ℕ)) (e : PatternError) → later ≡ first + length a → All IsWhole a → Blames later b old new e → Blames first (a ++ b) old new e
blames_later first later a b old new (Syntax k) n w h = (record { text = h.0.text; stops = stops_later first later k a b h.0.text n w h.0.stops; none = h.0.none }, h.1)
blames_later first later a b old new (Refused k) n w h = record { text = h.text; stops = stops_later first later k a b h.text n w h.stops; refused = h.refused }
blames_later first later a b old new NoMemory n w h = h

-- what is said of the part of one item, behind those of the items before, which are built
pub blamed_at : {X : Type 0} (f : X → List (List ℕ)) (xs : List X) (i : ℕ) (x : X) (first later : ℕ) (old middle new : List (List ℕ)) (e : PatternError) → i < length xs → x ≡ get_or xs i x →
    later ≡ first + length (flat_map f (take i xs)) → All IsWhole (flat_map f (take i xs)) → middle ≡ old → Blames later (f x) middle new e → Blames first (flat_map f xs) old new e
blamed_at f xs i x first later old middle new e l at n whole same h =
    let parts = parts_at f xs i x l at in
    subst (λ (texts : List (List ℕ)). Blames first texts old new e) (sym parts.split)
    (blames_first first (flat_map f (take i xs) ++ f x) parts.behind old new e
    (blames_later first later (flat_map f (take i xs)) (f x) old new e n whole (subst (λ (shop : List (List ℕ)). Blames later (f x) shop new e) same h)))

-- the patterns of one item more
module _ {X : Type 0} (f : X → List (List ℕ)) (xs : List X) (i : ℕ) (x : X) where
  pub count_more : (before next new : ℕ) → i < length xs → x ≡ get_or xs i x → next ≡ before + length (flat_map f (take i xs)) → new ≡ next + length (f x) → new ≡ before + length (flat_map f (take (i + 1) xs))
  count_more before next new l e was is = omega (arith, was, is, ap length (parts_more f xs i x l e), length-append (flat_map f (take i xs)) (f x))

  pub whole_more : i < length xs → x ≡ get_or xs i x → All IsWhole (flat_map f (take i xs)) → All IsWhole (f x) → All IsWhole (flat_map f (take (i + 1) xs))
  whole_more l e was own = subst (All IsWhole) (sym (parts_more f xs i x l e)) (All-append IsWhole (flat_map f (take i xs)) (f x) was own)

-- ---- errors of patterns that stand behind others

number_in : (texts before behind : List (List ℕ)) (k : ℕ) (text : List ℕ) → texts ≡ before ++ text ∷ behind → k ≡ 1 + length before → k ≤ length texts
number_in texts before behind k text split number = omega (arith, number, ap length split, length-append before (text ∷ behind))

pub named_within : (texts old new : List (List ℕ)) (e : PatternError) → Blames 1 texts old new e → named_number e ≤ length texts
named_within texts old new (Syntax k) h = let s = h.0.stops in number_in texts s.before s.behind k h.0.text s.split s.number
named_within texts old new (Refused k) h = let s = h.stops in number_in texts s.before s.behind k h.text s.split s.number
named_within texts old new NoMemory h = omega arith

stops_behind : (before k : ℕ) (texts : List (List ℕ)) (text : List ℕ) → StopsAt 1 texts k text → StopsAt (before + 1) texts (before + k) text
stops_behind before k texts text s = record { before = s.before; behind = s.behind; split = s.split; number = omega (arith, s.number); patterns = s.patterns }

pub blames_behind : (before : ℕ) (texts old new : List (List ℕ)) (e : PatternError) → Blames 1 texts old new e → Blames (before + 1) texts old new (error_behind before e)
blames_behind before texts old new (Syntax k) h = (record { text = h.0.text; stops = stops_behind before k texts h.0.text h.0.stops; none = h.0.none }, h.1)
blames_behind before texts old new (Refused k) h = record { text = h.text; stops = stops_behind before k texts h.text h.stops; refused = h.refused }
blames_behind before texts old new NoMemory h = h

-- ---- the patterns as they are built are those that a refusal counts

tests : (test : Test) → built.test_patterns test ≡ counted.test_patterns test
tests Any = refl
tests (Pattern attr text negated) = refl
tests (Literal attr text negated) = refl
tests (Not inner) = tests inner
tests (Both left right) = λ i. tests left i ++ tests right i
tests (Either left right) = λ i. tests left i ++ tests right i

exprs : (expr : Expr) → built.expr_patterns expr ≡ counted.expr_patterns expr
exprs (TokenTest label test) = tests test
exprs (Begin kind test) = tests test
exprs (End kind) = refl
exprs (Whole kind test) = tests test
exprs (Seq left right) = λ i. exprs left i ++ exprs right i
exprs (Choice left right) = λ i. exprs left i ++ exprs right i
exprs (Repeat inner least most) = exprs inner

filters : (all : Filters) → built.filters_patterns all ≡ counted.filter_patterns all
filters NoMore = refl
filters (More kind head own others) =
    append_assoc (built.expr_patterns head) (built.filters_patterns own) (built.filters_patterns others) ∙ (λ i. exprs head i ++ (filters own i ++ filters others i))

patterns_same : (query : Query) → query_patterns query ≡ counted.patterns query
patterns_same query = λ i. exprs query.head i ++ filters query.filters i

all_same : (queries : List Query) → flat_map query_patterns queries ≡ flat_map counted.patterns queries
all_same [] = refl
all_same (query ∷ queries) = λ i. patterns_same query i ++ all_same queries i

-- the patterns of a relation as they are built
abbrev pub its_patterns : Relation → List (List ℕ)
its_patterns relation = flat_map query_patterns relation.queries

pub same_patterns : (grammar : Grammar) → flat_map its_patterns grammar.relations ≡ grammar_patterns grammar
same_patterns grammar =
    sym (parts_of_parts query_patterns (λ (relation : Relation). relation.queries) grammar.relations)
    ∙ all_same (flat_map (λ (relation : Relation). relation.queries) grammar.relations)

pub blames_all : (grammar : Grammar) (old new : List (List ℕ)) (e : PatternError) → Blames 1 (flat_map its_patterns grammar.relations) old new e → Blames 1 (grammar_patterns grammar) old new e
blames_all grammar old new e = subst (λ (texts : List (List ℕ)). Blames 1 texts old new e) (same_patterns grammar)

pub whole_all : (grammar : Grammar) → All IsWhole (flat_map its_patterns grammar.relations) → All IsWhole (grammar_patterns grammar)
whole_all grammar = subst (All IsWhole) (same_patterns grammar)

-- ---- they are few

few_of : ((query : Query) → length (counted.patterns query) ≤ nodes query) → ((registry : Registry) (kind : RelationKind) (query : Query) → IsGrammarQuery registry kind query → nodes query ≤ 259) →
    (registry : Registry) (kind : RelationKind) (queries : List Query) → All (IsGrammarQuery registry kind) queries → length (flat_map query_patterns queries) ≤ 259 * length queries
few_of few small registry kind [] all = omega arith
few_of few small registry kind (query ∷ queries) all =
    let own = few query in
    let most = small registry kind query (All-head (IsGrammarQuery registry kind) query queries all) in
    let same = ap length (patterns_same query) in
    let more = few_of few small registry kind queries (All-tail (IsGrammarQuery registry kind) query queries all) in
    omega (arith, own, most, same, more, length-append (query_patterns query) (flat_map query_patterns queries))

few_in : ((query : Query) → length (counted.patterns query) ≤ nodes query) → ((registry : Registry) (kind : RelationKind) (query : Query) → IsGrammarQuery registry kind query → nodes query ≤ 259) →
    (registry : Registry) (relations : List Relation) → All (ValidRelation registry) relations → length (flat_map its_patterns relations) ≤ 259 * query_count relations
few_in few small registry [] all = omega arith
few_in few small registry (relation ∷ relations) all =
    let one = few_of few small registry relation.kind relation.queries (All-head (ValidRelation registry) relation relations all).queries in
    let more = few_in few small registry relations (All-tail (ValidRelation registry) relation relations all) in
    omega (arith, one, more, length-append (its_patterns relation) (flat_map its_patterns relations))

pub few_patterns : ((query : Query) → length (counted.patterns query) ≤ nodes query) → ((registry : Registry) (kind : RelationKind) (query : Query) → IsGrammarQuery registry kind query → nodes query ≤ 259) →
    (registry : Registry) (grammar : Grammar) → ValidGrammar registry grammar → length (flat_map its_patterns grammar.relations) < 2 ^ 32
few_patterns few small registry grammar valid = let most = few_in few small registry grammar.relations valid.relations in omega (arith, most, valid.asked)
