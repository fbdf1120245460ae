-- The positions of tests of one value, and how many steps are few.
use Rattle.std.proofs.Common.{◌≡◌, ℕ, zero, suc, ◌*◌, ◌<◌, ◌≤◌, inl, inr, true, false, List, [], ◌∷◌, ◌++◌, length, get_or, Option, None, Some, refl, sym, ap, subst, arith}
use Rattle.std.specs.List.{All, AllZip, Contains}
use Rattle.std.specs.List.Sorted.{IsStrictlyIncreasing}
use Rattle.std.proofs.lemmas.Bool.{cases_lt}
use Rattle.std.proofs.lemmas.List.{get_or_past}
use Rattle.std.proofs.lemmas.List.Elements.{All-nil, All-cons}
use Rattle.std.proofs.lemmas.Option.{same_Some, none-some}
use Rattle.std.proofs.Math.Nat.{mul-le-mul_left}
use Rattle.mt_text_spec.specs.Queries as q
use Rattle.mt_query_spec.specs.Contents.{token_tests}
use Rattle.mt_segment_spec.specs.Tables.{Tables, AreTables, number_at, tables_at, token_count}
use Rattle.mt_segment_laws.specs.Laws.{AreWhole}
use Rattle.mt_eval_spec.specs.Literals.{AreEquals, AreFew, IsEquals}
use Rattle.mt_eval_laws.specs.Laws.{PlacesAreListed}
use Rattle.mt_prepare.specs.Prepared.{IsByNumber}
use Rattle.mt_prepare.specs.Resolved.{Resolves}
use Rattle.mt_prepare.specs.TestRows.{HasAttrs, SaysAt}
use Rattle.mt_prepare.specs.declared.resolved.Resolved.{Resolved}
use Rattle.mt_prepare.specs.declared.resolved.Resolved.TheVariants as resolved
use Rattle.mt_eval.specs.Sequences.{IsOne, IsSequence, positions_by, positions_of, test_at}
use Rattle.mt_eval.specs.Walks.{Ascend}
use Rattle.mt_eval.specs.Rarest.{IsRarest}
use Rattle.mt_eval.proofs.Exprs.{same_count}
use Rattle.mt_eval.proofs.Sequenced.{some_test}
use Rattle.mt_eval.proofs.Walked.{ascends, first_in, first_or_later, later_in, none_in}

-- ---- the positions of a test are the places where it says so

pub record AreItsPlaces (tables : Tables) (test : Resolved) (places : List ℕ) : Type 0 where
  pub ascending : IsStrictlyIncreasing places
  pub on : (place : ℕ) → Contains places place → (place < token_count tables) × SaysAt tables test place
  pub back : (place : ℕ) → place < token_count tables → SaysAt tables test place → Contains places place

no_places : (tables : Tables) (test : Resolved) (places : List ℕ) → places ≡ [] → ((place : ℕ) → place < token_count tables → SaysAt tables test place → ⊥) → AreItsPlaces tables test places
no_places tables test places none never = record {
  ascending = λ k l. let e : length places ≡ 0 = ap length none in absurd (omega (arith, e, l));
  on = λ p c. absurd (none_in p (subst (λ (ps : List ℕ). Contains ps p) none c));
  back = λ p l s. absurd (never p l s);
}

one_places : PlacesAreListed → (tables : Tables) → AreTables tables → AreWhole tables → (attr : ℕ) (id : Option ℕ) → attr < length tables.attrs → AreItsPlaces tables (resolved.One attr id false) (positions_by (tables_at tables.attrs attr).postings id)
one_places law tables known whole attr None l = no_places tables (resolved.One attr None false) [] refl (λ p h s. none-some (number_at tables attr p) s)
one_places law tables known whole attr (Some id) l = elim (cases_lt id (length (tables_at tables.attrs attr).lexicon)) [
  | inl low ↦ let lists = law tables attr id known l low in record {
    ascending = lists.ascending;
    on = λ p c. let h = lists.on p c in (h.0, ap Some (sym h.1));
    back = λ p h s. lists.back p h (sym (same_Some id (number_at tables attr p) s));
  }
  | inr high ↦ no_places tables (resolved.One attr (Some id) false) (get_or (tables_at tables.attrs attr).postings id [])
      (get_or_past (tables_at tables.attrs attr).postings id [] (let long = whole.postings attr l in omega (arith, high, long)))
      (λ p h s. let e = same_Some id (number_at tables attr p) s in let within = whole.within attr p l h in omega (arith, e, within, high))
]

pub its_places : PlacesAreListed → (tables : Tables) → AreTables tables → AreWhole tables → (test : Resolved) → HasAttrs tables test → IsOne test → AreItsPlaces tables test (positions_of tables test)
its_places law tables known whole resolved.Any has one = absurd one
its_places law tables known whole (resolved.One attr id false) has one = one_places law tables known whole attr id has
its_places law tables known whole (resolved.One attr id true) has one = let f : ⊥ = cc in absurd f
its_places law tables known whole (resolved.Some attr ids negated) has one = absurd one
its_places law tables known whole (resolved.Not' p inner) has one = absurd one
its_places law tables known whole (resolved.Both' p left r right) has one = absurd one
its_places law tables known whole (resolved.Either' p left r right) has one = absurd one

-- ---- ascending numbers among others are no more

pub no_longer : (ys xs : List ℕ) → Ascend xs → Ascend ys → ((p : ℕ) → Contains xs p → Contains ys p) → length xs ≤ length ys
no_longer ys [] up above among = omega arith
no_longer [] (x ∷ xs) up above among = absurd (none_in x (among x (first_in x xs)))
no_longer (y ∷ ys) (x ∷ xs) up above among = elim (first_or_later y ys x (among x (first_in x xs))) [
  | inl e ↦ let rest = no_longer ys xs up.1 above.1 (λ p c. elim (first_or_later y ys p (among p (later_in x xs p c))) [
    | inl is ↦ let more = up.0 p c in absurd (omega (arith, more, e, is))
    | inr later ↦ later
  ]) in omega (arith, rest)
  | inr later ↦ let rest = no_longer ys (x ∷ xs) up above.1 (λ p c. elim (first_or_later y ys p (among p c)) [
    | inl is ↦ let more = above.0 x later in elim (first_or_later x xs p c) [
      | inl same ↦ absurd (omega (arith, more, is, same))
      | inr behind ↦ let less = up.0 p behind in absurd (omega (arith, more, is, less))
    ]
    | inr there ↦ there
  ]) in omega (arith, rest)
]

-- ---- `==` tests are tests of one value

abbrev AllEquals : List q.Test → Type 0
AllEquals [] = Unit {0}
AllEquals (test ∷ tests) = IsEquals test × AllEquals tests

both_equal : (a b : List q.Test) → AllEquals a → AllEquals b → AllEquals (a ++ b)
both_equal [] b x y = y
both_equal (test ∷ a) b x y = (x.0, both_equal a b x.1 y)

all_equal : (expr : q.Expr) → AreEquals expr → AllEquals (token_tests expr)
all_equal (q.TokenTest label test) e = (e, tt)
all_equal (q.Begin kind test) e = absurd e
all_equal (q.End kind) e = absurd e
all_equal (q.Whole kind test) e = absurd e
all_equal (q.Seq left right) e = both_equal (token_tests left) (token_tests right) (all_equal left e.0) (all_equal right e.1)
all_equal (q.Choice left right) e = absurd e
all_equal (q.Repeat inner least most) e = absurd e

pub is_sequence : (expr : q.Expr) → AreEquals expr → IsSequence expr
is_sequence (q.TokenTest label test) e = tt
is_sequence (q.Begin kind test) e = e
is_sequence (q.End kind) e = e
is_sequence (q.Whole kind test) e = e
is_sequence (q.Seq left right) e = (is_sequence left e.0, is_sequence right e.1)
is_sequence (q.Choice left right) e = e
is_sequence (q.Repeat inner least most) e = e

by_one : (test : q.Test) (by : Resolved) → IsEquals test → IsByNumber test by → IsOne by
by_one q.Any by e n = absurd e
by_one (q.Pattern attr text negated) by e n = absurd e
by_one (q.Literal attr text negated) by e n = subst IsOne (sym n.1) e
by_one (q.Not inner) by e n = absurd e
by_one (q.Both left right) by e n = absurd e
by_one (q.Either left right) by e n = absurd e

all_ones : (tests : List q.Test) (by : List Resolved) → AllEquals tests → AllZip IsByNumber tests by → All IsOne by
all_ones [] [] e zip = All-nil IsOne
all_ones [] (r ∷ rs) e zip = absurd zip
all_ones (t ∷ ts) [] e zip = absurd zip
all_ones (t ∷ ts) (r ∷ rs) e zip = All-cons IsOne r rs (by_one t r e.0 zip.0) (all_ones ts rs e.1 zip.1)

pub ones : (expr : q.Expr) (by : List Resolved) → AreEquals expr → AllZip IsByNumber (token_tests expr) by → All IsOne by
ones expr by e zip = all_ones (token_tests expr) by (all_equal expr e) zip

-- ---- few steps

at_its_number : {X Y : Type 0} (R : X → Y → Type 0) (xs : List X) (ys : List Y) (d : Y) (x : X) → AllZip R xs ys → Contains xs x → (n : ℕ) × (n < length ys) × R x (get_or ys n d)
at_its_number R [] [] d x zip (k, l, e) = absurd (omega (arith, l))
at_its_number R [] (y ∷ ys) d x zip (k, l, e) = absurd zip
at_its_number {X} R (z ∷ xs) [] d x zip (k, l, e) = absurd zip
at_its_number {X} R (z ∷ xs) (y ∷ ys) d x zip (zero, l, e) = (0, omega arith, subst (λ (w : X). R w y) e zip.0)
at_its_number {X} R (z ∷ xs) (y ∷ ys) d x zip (suc k, l, e) = let found = at_its_number R xs ys d x zip.1 (k, omega (arith, l), e) in let low = found.1 in (suc found.0, omega (arith, low), found.2)

pub few_steps : PlacesAreListed → (tables : Tables) → AreTables tables → AreWhole tables → (expr : q.Expr) (tests : List Resolved) → AllZip (Resolves tables) (token_tests expr) tests → All (HasAttrs tables) tests → All IsOne tests → length tests ≡ length (token_tests expr) →
    (number steps : ℕ) → IsRarest tables tests (length tests) number → steps ≤ length tests * length (positions_of tables (test_at tests number)) → AreFew tables expr steps
few_steps law tables known whole expr tests zip has one long number steps rarest few = λ test places there are.
    let found = at_its_number (Resolves tables) (token_tests expr) tests resolved.Any test zip there in
    let n = found.0 in
    let low = found.1 in
    let its = its_places law tables known whole (test_at tests n) (has n resolved.Any low) (one n resolved.Any low) in
    let short : length (positions_of tables (test_at tests n)) ≤ length places =
    no_longer places (positions_of tables (test_at tests n)) (ascends _ its.ascending) (ascends places are.ascending) (λ p c. let h = its.on p c in are.each p h.0 ((found.2 p h.0).0 h.1)) in
    let rare = rarest.fewest n low (one n resolved.Any low) in
    let fewer : length (positions_of tables (test_at tests number)) ≤ length places = omega (arith, short, rare) in
    let product = mul-le-mul_left (length tests) fewer in
    let same : length tests * length places ≡ length (token_tests expr) * length places = ap (λ (k : ℕ). k * length places) long in
    omega (arith, few, product, same)

-- a sequence of `==` tests has a test of one value
pub some_one : (expr : q.Expr) (tests : List Resolved) → AreEquals expr → AllZip IsByNumber (token_tests expr) tests → (IsSequence expr → All IsOne tests → length tests ≡ 0) → ⊥
some_one expr tests e zip none =
    let count = same_count IsByNumber (token_tests expr) tests zip in
    let some = some_test expr (is_sequence expr e) in
    let zero = none (is_sequence expr e) (ones expr tests e zip) in
    omega (arith, count, some, zero)
