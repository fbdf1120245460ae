-- The lines of a grammar one after another, and the counts of a text.
use Rattle.std.proofs.Common.{◌≡◌, ℕ, ◌+◌, ◌⊎◌, inl, inr, if◌then◌else◌, List, [], ◌∷◌, ◌++◌, refl, sym, ap, subst, ◌∙◌}
use Rattle.std.specs.List.{Contains}
use Rattle.std.proofs.lemmas.List.Elements.{Contains-append_left, Contains-push, Contains-push_cases}
use Rattle.mt_text_spec.specs.Registries.{Registry}
use Rattle.mt_text_spec.specs.Texts.{Text, Row, Span}
use Rattle.mt_text_spec.specs.Queries.{Query, RelationKind, Relation, Grammar}
use Rattle.mt_match_spec.specs.Values.{Images, value_at}
use Rattle.mt_match_spec.specs.Kept.{Keeps}
use Rattle.mt_count_spec.specs.Instances.{Instance, AtTwo, AtOne, Gives, GivesPlain, GivesDual, GivesTurned, GivesSymmetric, GivesBack, GivesTrinary, GivesUnary, HasInstance}
use Rattle.mt_counts.specs.Totals.{total}
use Rattle.mt_counts.specs.Counted.{Counted, IsSum}
use Rattle.mt_triples.specs.CountsOf.{AreCountsOf, SumsAreCounts}
use Rattle.mt_triples.specs.Tallied.{CountEach, AreInstances, InstancesAreCounted}
use Rattle.mt_instances.specs.Gains.{Gains, GivenBy}
use Rattle.mt_instances.specs.Gathered.{IsText}
use Rattle.mt_instances.specs.Counting.{AddsEach}
use Rattle.mt_instances.specs.Collected.{CountsEach}
use Rattle.mt_instances.specs.Laws.{HaveLabels, Line, IsOfLines, AreOfLines, AreLinesOf}

-- ---- what a row gives is told by its labels

abbrev placed : Row → Span → Row
placed row span = record { span = span; labels = row.labels }

moved : (images : Images) (registry : Registry) (text : Text) (relation : Relation) (row : Row) (span : Span) (kind : RelationKind) (i : Instance) → Gives images registry text relation row kind i → Gives images registry text relation (placed row span) kind i
moved images registry text relation row span kind i (GivesPlain p q h) = GivesPlain p q (record { first = h.first; second = h.second })
moved images registry text relation row span kind i (GivesDual p q h) = GivesDual p q (record { first = h.first; second = h.second })
moved images registry text relation row span kind i (GivesTurned p q h) = GivesTurned p q (record { first = h.first; second = h.second })
moved images registry text relation row span kind i (GivesSymmetric p q h) = GivesSymmetric p q (record { first = h.first; second = h.second })
moved images registry text relation row span kind i (GivesBack p q h) = GivesBack p q (record { first = h.first; second = h.second })
moved images registry text relation row span kind i (GivesTrinary p q r final h set is) = GivesTrinary p q r final (record { first = h.first; second = h.second }) set is
moved images registry text relation row span kind i (GivesUnary p h) = GivesUnary p h

-- ---- one line more

module _ (images : Images) (registry : Registry) (text : Text) (lines : List Line) (relation : Relation) (query : Query) (rows : List Row) (old new : List Instance) where
  abbrev last : Line
  last = record { relation = relation; query = query }

  abbrev longer : List Line
  longer = lines ++ last ∷ []

  pub go_on : AreOfLines images registry text lines old → HaveLabels images registry text query rows → Gains old new (GivenBy images registry text relation rows) → AreOfLines images registry text longer new
  go_on h labels g = record { only = λ i c. on i (g.only i c); each = λ i is. put i is (Contains-push_cases lines last is.line is.there) }
    where
      on : (i : Instance) → Contains old i ⊎ GivenBy images registry text relation rows i → IsOfLines images registry text (lines ++ record { relation = relation; query = query } ∷ []) i
      on i (inl c) = let is = h.only i c in record { line = is.line; there = Contains-append_left lines (record { relation = relation; query = query } ∷ []) is.line is.there; row = is.row; keeps = is.keeps; gives = is.gives }
      on i (inr by) =
          let stands = labels.only by.row by.there in
          record { line = record { relation = relation; query = query }; there = Contains-push lines (record { relation = relation; query = query }); row = placed by.row stands.span; keeps = stands.is; gives = moved images registry text relation by.row stands.span relation.kind i by.gives }

      put : (i : Instance) (is : IsOfLines images registry text (lines ++ record { relation = relation; query = query } ∷ []) i) → Contains lines is.line ⊎ ◌≡◌ {A = Line} (record { relation = relation; query = query }) is.line → Contains new i
      put i is (inl c) = g.kept i (h.each i (record { line = is.line; there = c; row = is.row; keeps = is.keeps; gives = is.gives }))
      put i is (inr e) =
          let keeps = subst (λ (l : Line). Keeps images registry (text ∷ []) l.query is.row) (sym e) is.keeps in
          let gives = subst (λ (l : Line). Gives images registry text l.relation is.row l.relation.kind i) (sym e) is.gives in
          let stands = labels.each is.row keeps in
          g.each i (record { row = placed is.row stands.span; there = stands.is; gives = moved images registry text relation is.row stands.span relation.kind i gives })

-- ---- a text is counted

record Tables (values : ℕ → List ℕ) (all : List Instance) : Type 0 where
  counted : Counted
  count : CountEach values all counted

tables_of : (values : ℕ → List ℕ) (all : List Instance) → Tables values all
tables_of values [] = record { counted = record { both = []; first = []; second = []; alone = [] }; count = record { both = λ test. refl; first = λ test. refl; second = λ test. refl; alone = λ test. refl } }
tables_of values (AtTwo name p q ∷ all) =
    let rest = tables_of values all in
    record {
      counted = record {
        both = ((name, values p, values q), 1) ∷ rest.counted.both;
        first = ((name, values p), 1) ∷ rest.counted.first;
        second = ((name, values q), 1) ∷ rest.counted.second;
        alone = rest.counted.alone;
      };
      count = record {
        both = λ test. ap (λ (n : ℕ). (if test (name, values p, values q) then 1 else 0) + n) (rest.count.both test);
        first = λ test. ap (λ (n : ℕ). (if test (name, values p) then 1 else 0) + n) (rest.count.first test);
        second = λ test. ap (λ (n : ℕ). (if test (name, values q) then 1 else 0) + n) (rest.count.second test);
        alone = rest.count.alone;
      };
    }
tables_of values (AtOne name p ∷ all) =
    let rest = tables_of values all in
    record {
      counted = record { both = rest.counted.both; first = rest.counted.first; second = rest.counted.second; alone = ((name, values p), 1) ∷ rest.counted.alone };
      count = record { both = rest.count.both; first = rest.count.first; second = rest.count.second; alone = λ test. ap (λ (n : ℕ). (if test (name, values p) then 1 else 0) + n) (rest.count.alone test) };
    }

added_up : (values : ℕ → List ℕ) (all : List Instance) (old part new : Counted) → AddsEach values all old new → CountEach values all part → IsSum old part new
added_up values all old part new h k = record {
  both = λ test. h.both test ∙ ap (λ (n : ℕ). total test old.both + n) (sym (k.both test));
  first = λ test. h.first test ∙ ap (λ (n : ℕ). total test old.first + n) (sym (k.first test));
  second = λ test. h.second test ∙ ap (λ (n : ℕ). total test old.second + n) (sym (k.second test));
  alone = λ test. h.alone test ∙ ap (λ (n : ℕ). total test old.alone + n) (sym (k.alone test));
}

pub text_counted : InstancesAreCounted → SumsAreCounts → (images : Images) (registry : Registry) (grammar : Grammar) (corpus : List Text) (text : Text) (lines : List Line) (lexicon : List (List ℕ)) (numbers : List ℕ) (given : List Instance) (old new : Counted) →
    AreLinesOf grammar lines → AreOfLines images registry text lines given → IsText images registry text lexicon numbers → AreCountsOf images registry grammar corpus old → CountsEach lexicon numbers given old new → AreCountsOf images registry grammar (corpus ++ text ∷ []) new
text_counted instances sums images registry grammar corpus text lines lexicon numbers given old new of h told before counts =
    let values = value_at images registry text registry.ws_attr in
    let all = counts.all in
    let part = tables_of values all in
    let are : AreInstances images registry grammar text all = record { once = counts.once; only = λ i c. has i (h.only i (counts.same.from i c)); each = λ i is. counts.same.to i (h.each i (back i is)) } in
    sums images registry grammar corpus (text ∷ []) old part.counted new before (instances images registry grammar text all part.counted are part.count) (added_up values all old part.counted new (counts.adds values told) part.count)
  where
    has : (i : Instance) → IsOfLines images registry text lines i → HasInstance images registry grammar text i
    has i is = record { relation = is.line.relation; relations = of.relations is.line is.there; query = is.line.query; queries = of.queries is.line is.there; row = is.row; keeps = is.keeps; gives = is.gives }

    back : (i : Instance) → HasInstance images registry grammar text i → IsOfLines images registry text lines i
    back i is = record { line = record { relation = is.relation; query = is.query }; there = of.all is.relation is.query is.relations is.queries; row = is.row; keeps = is.keeps; gives = is.gives }
