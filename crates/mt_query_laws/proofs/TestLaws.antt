-- The tokens that lead to a state of the reading of a test are those that the state is written with; and a test is read where its tokens stand.
use Rattle.std.proofs.Common.{ℕ, zero, suc, ◌≡◌, List, [], ◌∷◌, ◌++◌, None, Some, Option, refl, sym, ◌∙◌, ap, append_assoc, append-nil}
use Rattle.mt_query_spec.specs.Tokens.{Token, Quoted, Number, Word, OpenCurly, Mark, Sign}
use Rattle.mt_query_spec.specs.Tokens as t
use Rattle.mt_query_spec.specs.Trees as tree
use Rattle.mt_query_spec.specs.Trees.{Tested, OfToken, OfTag, TestTree, TestRank, Unary, Conjunction, Whole, Comparison, Accepts, Refuses, Equals, Differs, comparison_sign, test_tokens}
use Rattle.mt_query_laws.specs.Machine.{TestWays, Level, TestState, WantTest, Named, Compares, HaveTest, empty_level, test_start, nots_of, joined_of, have_test, comparison_of, want_step, named_step, compares_step, have_step, close_test, test_step, test_run, whole_test, and_then}

-- ## How a state is written

abbrev pub either_spelled : {of : Tested} → Option (TestTree of Whole) → List Token
either_spelled None = []
either_spelled (Some test) = test_tokens test ++ Mark t.Bar ∷ []

abbrev pub both_spelled : {of : Tested} → Option (TestTree of Conjunction) → List Token
both_spelled None = []
both_spelled (Some test) = test_tokens test ++ Mark t.And ∷ []

abbrev pub bangs : ℕ → List Token
bangs zero = []
bangs (suc n) = Mark t.Bang ∷ bangs n

abbrev pub level_spelled : {of : Tested} → Level (TestTree of) → List Token
level_spelled level = either_spelled level.either ++ (both_spelled level.both ++ bangs level.nots)

abbrev pub outer_spelled : {of : Tested} → List (Level (TestTree of)) → List Token
outer_spelled [] = []
outer_spelled (level ∷ outer) = outer_spelled outer ++ (level_spelled level ++ Mark t.OpenRound ∷ [])

abbrev pub test_spelled : {of : Tested} → TestState (TestTree of) → List Token
test_spelled (WantTest level outer) = outer_spelled outer ++ level_spelled level
test_spelled (Named at name level outer) = outer_spelled outer ++ (level_spelled level ++ Word at name ∷ [])
test_spelled (Compares at name comparison level outer) = outer_spelled outer ++ (level_spelled level ++ Word at name ∷ Mark (comparison_sign comparison) ∷ [])
test_spelled (HaveTest both either outer) = outer_spelled outer ++ (either_spelled either ++ test_tokens both)

-- ## What the parts that are built are written with

-- the ways for tokens and for tags alike
pub record Ways (of : Tested) : Type 0 where
  pub bare : Option (List ℕ → TestTree of Unary)
  pub spelled : (f : List ℕ → TestTree of Unary) → bare ≡ Some f → (content : List ℕ) → test_tokens (f content) ≡ Quoted content ∷ []

abbrev pub ways_of : {of : Tested} → Ways of → TestWays (TestTree of)
ways_of w = record {
  compared = tree.Compared;
  bare = w.bare;
  not = tree.Not;
  bracketed = tree.Bracketed;
  one = tree.One;
  both = tree.Both;
  sole = tree.Sole;
  either = tree.Either;
}

pub bare_spelled : (f : List ℕ → TestTree OfToken Unary) → Some tree.Bare ≡ Some f → (content : List ℕ) → test_tokens (f content) ≡ Quoted content ∷ []
unfolding test_tokens
bare_spelled f e content = rw (← (let h : tree.Bare ≡ f = cc in h)) refl

pub no_bare : (f : List ℕ → TestTree OfTag Unary) → None ≡ Some f → (content : List ℕ) → test_tokens (f content) ≡ Quoted content ∷ []
no_bare f e content = cc

abbrev pub token_ways : Ways OfToken
token_ways = record { bare = Some tree.Bare; spelled = bare_spelled }

abbrev pub tag_ways : Ways OfTag
tag_ways = record { bare = None; spelled = no_bare }

abbrev pub the_ways : (of : Tested) → Ways of
the_ways OfToken = token_ways
the_ways OfTag = tag_ways

bangs_more : (n : ℕ) → bangs n ++ Mark t.Bang ∷ [] ≡ Mark t.Bang ∷ bangs n
bangs_more zero = refl
bangs_more (suc n) = ap (λ x. Mark t.Bang ∷ x) (bangs_more n)

nots_spelled : {of : Tested} (w : Ways of) (n : ℕ) (test : TestTree of Unary) → test_tokens (nots_of (ways_of w).not n test) ≡ bangs n ++ test_tokens test
unfolding test_tokens
nots_spelled w zero test = refl
nots_spelled w (suc n) test = nots_spelled w n (tree.Not test) ∙ sym (append_assoc (bangs n) (Mark t.Bang ∷ []) (test_tokens test)) ∙ ap (λ x. x ++ test_tokens test) (bangs_more n)

both_of_spelled : {of : Tested} (w : Ways of) (left : Option (TestTree of Conjunction)) (test : TestTree of Unary)
    → test_tokens (joined_of (ways_of w).one (ways_of w).both left test) ≡ both_spelled left ++ test_tokens test
unfolding test_tokens
both_of_spelled w None test = refl
both_of_spelled w (Some left) test = sym (append_assoc (test_tokens left) (Mark t.And ∷ []) (test_tokens test))

pub either_of_spelled : {of : Tested} (w : Ways of) (left : Option (TestTree of Whole)) (test : TestTree of Conjunction)
    → test_tokens (joined_of (ways_of w).sole (ways_of w).either left test) ≡ either_spelled left ++ test_tokens test
unfolding test_tokens
either_of_spelled w None test = refl
either_of_spelled w (Some left) test = sym (append_assoc (test_tokens left) (Mark t.Bar ∷ []) (test_tokens test))

have_spelled : {of : Tested} (w : Ways of) (test : TestTree of Unary) (level : Level (TestTree of)) (outer : List (Level (TestTree of)))
    → test_spelled (have_test (ways_of w) test level outer) ≡ outer_spelled outer ++ (level_spelled level ++ test_tokens test)
have_spelled w test level outer =
    rw (both_of_spelled w level.both (nots_of (ways_of w).not level.nots test), nots_spelled w level.nots test) (simp append_assoc)

-- ## Each step is its token

comparison_spelled : (sign : Sign) (comparison : Comparison) → comparison_of sign ≡ Some comparison → sign ≡ comparison_sign comparison
comparison_spelled t.Is c h = let e : Accepts ≡ c = cc in ap comparison_sign e
comparison_spelled t.IsNot c h = let e : Refuses ≡ c = cc in ap comparison_sign e
comparison_spelled t.Same c h = let e : Equals ≡ c = cc in ap comparison_sign e
comparison_spelled t.Differs c h = let e : Differs ≡ c = cc in ap comparison_sign e
comparison_spelled _ c h = cc

-- what follows an equation between states
at_state : {of : Tested} (s next : TestState (TestTree of)) (text : List Token) → Some s ≡ Some next → test_spelled s ≡ text → test_spelled next ≡ text
at_state s next text h e = let k : s ≡ next = cc in ap test_spelled (sym k) ∙ e

want_kept : {of : Tested} (w : Ways of) (level : Level (TestTree of)) (outer : List (Level (TestTree of))) (token : Token) (next : TestState (TestTree of))
    → want_step (ways_of w) level outer token ≡ Some next → test_spelled next ≡ (outer_spelled outer ++ level_spelled level) ++ token ∷ []
unfolding want_step
want_kept w level outer (Word at name) next h = at_state _ next _ h (simp append_assoc)
want_kept {of = of} w level outer (Quoted content) next h = go w.bare w.spelled h
  where
    go : (bare : Option (List ℕ → TestTree of Unary)) → ((f : List ℕ → TestTree of Unary) → bare ≡ Some f → (content : List ℕ) → test_tokens (f content) ≡ Quoted content ∷ [])
        → elim bare [ Some f ↦ Some (have_test (ways_of w) (f content) level outer) | None ↦ None ] ≡ Some next
        → test_spelled next ≡ (outer_spelled outer ++ level_spelled level) ++ Quoted content ∷ []
    go None spelled h = cc
    go (Some f) spelled h = at_state _ next _ h (have_spelled w (f content) level outer ∙ rw (spelled f refl content) (simp append_assoc))
want_kept w level outer (Mark t.Bang) next h = at_state _ next _ h (rw (← bangs_more level.nots) (simp append_assoc))
want_kept w level outer (Mark t.OpenRound) next h = at_state _ next _ h (simp (append_assoc, append-nil))
want_kept w level outer _ next h = cc

named_kept : {of : Tested} (at : ℕ) (name : List ℕ) (level : Level (TestTree of)) (outer : List (Level (TestTree of))) (token : Token) (next : TestState (TestTree of))
    → named_step at name level outer token ≡ Some next → test_spelled next ≡ (outer_spelled outer ++ (level_spelled level ++ Word at name ∷ [])) ++ token ∷ []
unfolding named_step
named_kept {of = of} at name level outer (Mark sign) next h = go (comparison_of sign) refl h
  where
    go : (found : Option Comparison) → comparison_of sign ≡ found → elim found [ Some comparison ↦ Some (Compares at name comparison level outer) | None ↦ None ] ≡ Some next
        → test_spelled next ≡ (outer_spelled outer ++ (level_spelled level ++ Word at name ∷ [])) ++ Mark sign ∷ []
    go None e h = cc
    go (Some comparison) e h = at_state _ next _ h (rw (← comparison_spelled sign comparison e) (simp append_assoc))
named_kept at name level outer _ next h = cc

compares_kept : {of : Tested} (w : Ways of) (at : ℕ) (name : List ℕ) (comparison : Comparison) (level : Level (TestTree of)) (outer : List (Level (TestTree of))) (token : Token)
    (next : TestState (TestTree of)) → compares_step (ways_of w) at name comparison level outer token ≡ Some next
    → test_spelled next ≡ (outer_spelled outer ++ (level_spelled level ++ Word at name ∷ Mark (comparison_sign comparison) ∷ [])) ++ token ∷ []
unfolding compares_step test_tokens
compares_kept w at name comparison level outer (Quoted content) next h =
    at_state _ next _ h (have_spelled w (tree.Compared at name comparison content) level outer ∙ simp append_assoc)
compares_kept w at name comparison level outer _ next h = cc

have_kept : {of : Tested} (w : Ways of) (both : TestTree of Conjunction) (either : Option (TestTree of Whole)) (outer : List (Level (TestTree of))) (token : Token)
    (next : TestState (TestTree of)) → have_step (ways_of w) both either outer token ≡ Some next
    → test_spelled next ≡ (outer_spelled outer ++ (either_spelled either ++ test_tokens both)) ++ token ∷ []
unfolding have_step close_test test_tokens
have_kept w both either outer (Mark t.And) next h = at_state _ next _ h (simp (append_assoc, append-nil))
have_kept w both either outer (Mark t.Bar) next h = at_state _ next _ h (rw (either_of_spelled w either both) (simp (append_assoc, append-nil)))
have_kept w both either [] (Mark t.CloseRound) next h = cc
have_kept w both either (level ∷ outer) (Mark t.CloseRound) next h =
    at_state _ next _ h (have_spelled w (tree.Bracketed (joined_of (ways_of w).sole (ways_of w).either either both)) level outer ∙ rw (either_of_spelled w either both) (simp append_assoc))
have_kept w both either outer _ next h = cc

pub test_kept : {of : Tested} (w : Ways of) (state : TestState (TestTree of)) (token : Token) (next : TestState (TestTree of))
    → test_step (ways_of w) state token ≡ Some next → test_spelled next ≡ test_spelled state ++ token ∷ []
unfolding test_step
test_kept w (WantTest level outer) token next h = want_kept w level outer token next h
test_kept w (Named at name level outer) token next h = named_kept at name level outer token next h
test_kept w (Compares at name comparison level outer) token next h = compares_kept w at name comparison level outer token next h
test_kept w (HaveTest both either outer) token next h = have_kept w both either outer token next h

pub whole_spelled : {of : Tested} (w : Ways of) (state : TestState (TestTree of)) (test : TestTree of Whole)
    → whole_test (ways_of w) state ≡ Some test → test_spelled state ≡ test_tokens test
unfolding whole_test
whole_spelled w (HaveTest both either []) test h = let e : joined_of (ways_of w).sole (ways_of w).either either both ≡ test = cc in sym (ap test_tokens (sym e) ∙ either_of_spelled w either both)
whole_spelled w (HaveTest both either (level ∷ outer)) test h = cc
whole_spelled w (WantTest level outer) test h = cc
whole_spelled w (Named at name level outer) test h = cc
whole_spelled w (Compares at name comparison level outer) test h = cc

-- ## Each test is read where its tokens stand

run_append : {of : Tested} (w : TestWays (TestTree of)) (state : TestState (TestTree of)) (xs ys : List Token)
    → test_run w state (xs ++ ys) ≡ and_then (test_run w state xs) (λ next. test_run w next ys)
unfolding test_run
run_append w state [] ys = refl
run_append {of = of} w state (x ∷ xs) ys = go (λ next. run_append w next xs ys) (test_step w state x)
  where
    go : ((next : TestState (TestTree of)) → test_run w next (xs ++ ys) ≡ and_then (test_run w next xs) (λ next. test_run w next ys)) → (found : Option (TestState (TestTree of)))
        → and_then found (λ next. test_run w next (xs ++ ys)) ≡ and_then (and_then found (λ next. test_run w next xs)) (λ next. test_run w next ys)
    go again None = refl
    go again (Some next) = again next

-- one part of the tokens, and then the others
then_run : {of : Tested} (w : TestWays (TestTree of)) (state middle : TestState (TestTree of)) (xs ys : List Token) (end : Option (TestState (TestTree of)))
    → test_run w state xs ≡ Some middle → test_run w middle ys ≡ end → test_run w state (xs ++ ys) ≡ end
then_run w state middle xs ys end h k = run_append w state xs ys ∙ rw h k

-- what the reading of a test of each rank does
pub record ReadWhole (of : Tested) (tree : TestTree of Whole) (outer : List (Level (TestTree of))) : Type 0 where
  pub both : TestTree of Conjunction
  pub either : Option (TestTree of Whole)
  pub runs : test_run (ways_of (the_ways of)) (WantTest empty_level outer) (test_tokens tree) ≡ Some (HaveTest both either outer)
  pub is : joined_of (ways_of (the_ways of)).sole (ways_of (the_ways of)).either either both ≡ tree

abbrev Goes : (of : Tested) (rank : TestRank) → TestTree of rank → Type 0
Goes of Unary test = (level : Level (TestTree of)) (outer : List (Level (TestTree of)))
    → test_run (ways_of (the_ways of)) (WantTest level outer) (test_tokens test) ≡ Some (have_test (ways_of (the_ways of)) test level outer)
Goes of Conjunction test = (either : Option (TestTree of Whole)) (outer : List (Level (TestTree of)))
    → test_run (ways_of (the_ways of)) (WantTest (record { either = either; both = None; nots = 0 }) outer) (test_tokens test) ≡ Some (HaveTest test either outer)
Goes of Whole test = (outer : List (Level (TestTree of))) → ReadWhole of test outer

goes : {of : Tested} {rank : TestRank} (test : TestTree of rank) → Goes of rank test
unfolding test_tokens test_run test_step want_step named_step compares_step have_step close_test
goes (tree.Compared at name Accepts content) = λ level outer. refl
goes (tree.Compared at name Refuses content) = λ level outer. refl
goes (tree.Compared at name Equals content) = λ level outer. refl
goes (tree.Compared at name Differs content) = λ level outer. refl
goes (tree.Bare content) = λ level outer. refl
goes (tree.Not inner) = λ level outer. goes inner (record level { nots = suc level.nots }) outer
goes {of = of} (tree.Bracketed inner) = λ level outer.
    let r = goes inner (level ∷ outer) in
    then_run (ways_of (the_ways of)) _ _ (test_tokens inner) (Mark t.CloseRound ∷ []) _ r.runs (rw r.is refl)
goes (tree.One inner) = λ either outer. goes inner (record { either = either; both = None; nots = 0 }) outer
goes {of = of} (tree.Both left right) = λ either outer.
    then_run (ways_of (the_ways of)) _ _ (test_tokens left) (Mark t.And ∷ test_tokens right) _ (goes left either outer)
    (goes right (record { either = either; both = Some left; nots = 0 }) outer)
goes (tree.Sole inner) = λ outer. record { both = inner; either = None; runs = goes inner None outer; is = refl }
goes {of = of} (tree.Either left right) = λ outer.
    let r = goes left outer in
    record {
      both = right;
      either = Some left;
      is = refl;
      runs = then_run (ways_of (the_ways of)) _ _ (test_tokens left) (Mark t.Bar ∷ test_tokens right) _ r.runs (rw r.is (goes right (Some left) outer));
    }

-- a test is read where its tokens stand, and ends there
pub record Reads (of : Tested) (test : TestTree of Whole) : Type 0 where
  pub end : TestState (TestTree of)
  pub runs : test_run (ways_of (the_ways of)) test_start (test_tokens test) ≡ Some end
  pub whole : whole_test (ways_of (the_ways of)) end ≡ Some test

pub test_reads : {of : Tested} (test : TestTree of Whole) → Reads of test
unfolding whole_test
test_reads test = let r = goes test [] in record { end = HaveTest r.both r.either []; runs = r.runs; whole = rw r.is refl }

-- ## From each state some test is read

abbrev closes : {of : Tested} → List (Level (TestTree of)) → List Token
closes [] = []
closes (level ∷ outer) = Mark t.CloseRound ∷ closes outer

-- the shortest way to a whole test
abbrev pub closing : {of : Tested} → TestState (TestTree of) → List Token
closing (WantTest level outer) = Word 0 [] ∷ Mark t.Is ∷ Quoted [] ∷ closes outer
closing (Named at name level outer) = Mark t.Is ∷ Quoted [] ∷ closes outer
closing (Compares at name comparison level outer) = Quoted [] ∷ closes outer
closing (HaveTest both either outer) = closes outer

pub record Ends (of : Tested) (state : TestState (TestTree of)) (tokens : List Token) : Type 0 where
  pub end : TestState (TestTree of)
  pub test : TestTree of Whole
  pub runs : test_run (ways_of (the_ways of)) state tokens ≡ Some end
  pub whole : whole_test (ways_of (the_ways of)) end ≡ Some test

closes_end : {of : Tested} (outer : List (Level (TestTree of))) (both : TestTree of Conjunction) (either : Option (TestTree of Whole))
    → Ends of (HaveTest both either outer) (closes outer)
unfolding test_run test_step have_step close_test whole_test
closes_end {of = of} [] both either = record { end = HaveTest both either []; test = joined_of (ways_of (the_ways of)).sole (ways_of (the_ways of)).either either both; runs = refl; whole = refl }
closes_end {of = of} (level ∷ outer) both either =
    let w = ways_of (the_ways of) in
    let r = closes_end outer (joined_of w.one w.both level.both (nots_of w.not level.nots (tree.Bracketed (joined_of w.sole w.either either both)))) level.either in
    record { end = r.end; test = r.test; runs = r.runs; whole = r.whole }

pub closing_ends : {of : Tested} (state : TestState (TestTree of)) → Ends of state (closing state)
unfolding test_run test_step want_step named_step compares_step
closing_ends {of = of} (WantTest level outer) =
    let w = ways_of (the_ways of) in
    let r = closes_end outer (joined_of w.one w.both level.both (nots_of w.not level.nots (tree.Compared 0 [] Accepts []))) level.either in
    record { end = r.end; test = r.test; runs = r.runs; whole = r.whole }
closing_ends {of = of} (Named at name level outer) =
    let w = ways_of (the_ways of) in
    let r = closes_end outer (joined_of w.one w.both level.both (nots_of w.not level.nots (tree.Compared at name Accepts []))) level.either in
    record { end = r.end; test = r.test; runs = r.runs; whole = r.whole }
closing_ends {of = of} (Compares at name comparison level outer) =
    let w = ways_of (the_ways of) in
    let r = closes_end outer (joined_of w.one w.both level.both (nots_of w.not level.nots (tree.Compared at name comparison []))) level.either in
    record { end = r.end; test = r.test; runs = r.runs; whole = r.whole }
closing_ends (HaveTest both either outer) = closes_end outer both either
