-- How the logic tells queries apart: each is a tree of numbers, which gives it back. So a struct can be seen as a query, and two queries can be compared.
use Rattle.std.specs.Prelude.{ℕ, ◌≡◌, refl, Bool, true, false, cond, nat_eq, List, [], ◌∷◌}
use Rattle.std.specs.Coded.{Coded, code_by}
use base.Stored.{Gv, gnil, gnum, gcons, num}
use Rattle.mt_text_spec.specs.Queries as q

-- ## Trees of numbers

abbrev pub first : Gv → Gv
first gnil = gnil
first (gnum n) = gnil
first (gcons a b) = a

abbrev pub second : Gv → Gv
second gnil = gnil
second (gnum n) = gnil
second (gcons a b) = b

abbrev whole : Coded Gv
whole = record { code = λ g. g; inj = λ x y e. e }

-- a truth value as a number
abbrev pub flag : Bool → Gv
flag true = gnum 1
flag false = gnum 0

abbrev is_on : Gv → Bool
is_on g = nat_eq (num g) 1

flag_back : (b : Bool) → is_on (flag b) ≡ b
flag_back true = refl
flag_back false = refl

-- a text as a tree
abbrev pub text_tree : List ℕ → Gv
text_tree [] = gnil
text_tree (b ∷ text) = gcons (gnum b) (text_tree text)

abbrev text_of : Gv → List ℕ
text_of gnil = []
text_of (gnum n) = []
text_of (gcons a b) = num a ∷ text_of b

text_back : (text : List ℕ) → text_of (text_tree text) ≡ text
text_back [] = refl
text_back (b ∷ text) = λ i. b ∷ text_back text i

-- ## Tests

-- a test as a tree
abbrev pub test_tree : q.Test → Gv
test_tree q.Any = gnil
test_tree (q.Pattern attr text negated) = gcons (gnum 0) (gcons (gnum attr) (gcons (flag negated) (text_tree text)))
test_tree (q.Literal attr text negated) = gcons (gnum 1) (gcons (gnum attr) (gcons (flag negated) (text_tree text)))
test_tree (q.Not inner) = gcons (gnum 2) (gcons (test_tree inner) gnil)
test_tree (q.Both left right) = gcons (gnum 3) (gcons (test_tree left) (test_tree right))
test_tree (q.Either left right) = gcons (gnum 4) (gcons (test_tree left) (test_tree right))

-- the test of this number, whose two parts are these trees and, where they are tests, these
abbrev test_at : ℕ → (left right : Gv) → (x y : q.Test) → q.Test
test_at n left right x y =
    cond (nat_eq n 0) (q.Pattern (num left) (text_of (second right)) (is_on (first right)))
    (cond (nat_eq n 1) (q.Literal (num left) (text_of (second right)) (is_on (first right)))
    (cond (nat_eq n 2) (q.Not x) (cond (nat_eq n 3) (q.Both x y) (q.Either x y))))

abbrev test_of : Gv → q.Test
test_of (gcons n (gcons left right)) = test_at (num n) left right (test_of left) (test_of right)
test_of _ = q.Any

pub test_back : (test : q.Test) → test_of (test_tree test) ≡ test
test_back q.Any = refl
test_back (q.Pattern attr text negated) = λ i. q.Pattern attr (text_back text i) (flag_back negated i)
test_back (q.Literal attr text negated) = λ i. q.Literal attr (text_back text i) (flag_back negated i)
test_back (q.Not inner) = λ i. q.Not (test_back inner i)
test_back (q.Both left right) = λ i. q.Both (test_back left i) (test_back right i)
test_back (q.Either left right) = λ i. q.Either (test_back left i) (test_back right i)

abbrev pub test_code : Coded q.Test
test_code = code_by Gv whole test_tree test_of test_back

-- ## Expressions

-- an expression as a tree
abbrev pub expr_tree : q.Expr → Gv
expr_tree (q.TokenTest label test) = gcons (gnum 0) (gcons (gnum label) (test_tree test))
expr_tree (q.Begin kind test) = gcons (gnum 1) (gcons (gnum kind) (test_tree test))
expr_tree (q.End kind) = gcons (gnum 2) (gcons (gnum kind) gnil)
expr_tree (q.Whole kind test) = gcons (gnum 3) (gcons (gnum kind) (test_tree test))
expr_tree (q.Seq left right) = gcons (gnum 4) (gcons (expr_tree left) (expr_tree right))
expr_tree (q.Choice left right) = gcons (gnum 5) (gcons (expr_tree left) (expr_tree right))
expr_tree (q.Repeat inner least most) = gcons (gnum 6) (gcons (expr_tree inner) (gcons (gnum least) (gnum most)))

-- the expression of this number, whose two parts are these trees and, where they are expressions, these
abbrev expr_at : ℕ → (left right : Gv) → (x y : q.Expr) → q.Expr
expr_at n left right x y =
    cond (nat_eq n 0) (q.TokenTest (num left) (test_of right))
    (cond (nat_eq n 1) (q.Begin (num left) (test_of right))
    (cond (nat_eq n 2) (q.End (num left))
    (cond (nat_eq n 3) (q.Whole (num left) (test_of right))
    (cond (nat_eq n 4) (q.Seq x y) (cond (nat_eq n 5) (q.Choice x y) (q.Repeat x (num (first right)) (num (second right))))))))

abbrev expr_of : Gv → q.Expr
expr_of (gcons n (gcons left right)) = expr_at (num n) left right (expr_of left) (expr_of right)
expr_of _ = q.End 0

pub expr_back : (expr : q.Expr) → expr_of (expr_tree expr) ≡ expr
expr_back (q.TokenTest label test) = λ i. q.TokenTest label (test_back test i)
expr_back (q.Begin kind test) = λ i. q.Begin kind (test_back test i)
expr_back (q.End kind) = refl
expr_back (q.Whole kind test) = λ i. q.Whole kind (test_back test i)
expr_back (q.Seq left right) = λ i. q.Seq (expr_back left i) (expr_back right i)
expr_back (q.Choice left right) = λ i. q.Choice (expr_back left i) (expr_back right i)
expr_back (q.Repeat inner least most) = λ i. q.Repeat (expr_back inner i) least most

abbrev pub expr_code : Coded q.Expr
expr_code = code_by Gv whole expr_tree expr_of expr_back

-- ## Filters

-- the number of a kind of filter
abbrev pub kind_number : q.FilterKind → ℕ
kind_number q.Within = 0
kind_number q.NotWithin = 1
kind_number q.Containing = 2
kind_number q.NotContaining = 3

abbrev kind_of : ℕ → q.FilterKind
kind_of n = cond (nat_eq n 0) q.Within (cond (nat_eq n 1) q.NotWithin (cond (nat_eq n 2) q.Containing q.NotContaining))

kind_back : (kind : q.FilterKind) → kind_of (kind_number kind) ≡ kind
kind_back q.Within = refl
kind_back q.NotWithin = refl
kind_back q.Containing = refl
kind_back q.NotContaining = refl

-- filters as a tree
abbrev pub filters_tree : q.Filters → Gv
filters_tree q.NoMore = gnil
filters_tree (q.More kind head filters others) = gcons (gcons (gnum (kind_number kind)) (expr_tree head)) (gcons (filters_tree filters) (filters_tree others))

abbrev filters_of : Gv → q.Filters
filters_of (gcons operand (gcons filters others)) = q.More (kind_of (num (first operand))) (expr_of (second operand)) (filters_of filters) (filters_of others)
filters_of _ = q.NoMore

pub filters_back : (filters : q.Filters) → filters_of (filters_tree filters) ≡ filters
filters_back q.NoMore = refl
filters_back (q.More kind head filters others) = λ i. q.More (kind_back kind i) (expr_back head i) (filters_back filters i) (filters_back others i)

abbrev pub filters_code : Coded q.Filters
filters_code = code_by Gv whole filters_tree filters_of filters_back

-- ## Conditions and queries

-- a condition as a tree
abbrev pub cond_tree : q.Cond → Gv
cond_tree c = gcons (gnum c.left) (gcons (gnum c.left_attr) (gcons (flag c.equal) (gcons (gnum c.right) (gnum c.right_attr))))

abbrev cond_of : Gv → q.Cond
cond_of g = record {
  left = num (first g);
  left_attr = num (first (second g));
  equal = is_on (first (second (second g)));
  right = num (first (second (second (second g))));
  right_attr = num (second (second (second (second g))));
}

cond_back : (c : q.Cond) → cond_of (cond_tree c) ≡ c
cond_back c = λ i. record { left = c.left; left_attr = c.left_attr; equal = flag_back c.equal i; right = c.right; right_attr = c.right_attr }

-- conditions as a tree
abbrev pub conds_tree : List q.Cond → Gv
conds_tree [] = gnil
conds_tree (c ∷ conds) = gcons (cond_tree c) (conds_tree conds)

abbrev conds_of : Gv → List q.Cond
conds_of gnil = []
conds_of (gnum n) = []
conds_of (gcons c conds) = cond_of c ∷ conds_of conds

conds_back : (conds : List q.Cond) → conds_of (conds_tree conds) ≡ conds
conds_back [] = refl
conds_back (c ∷ conds) = λ i. cond_back c i ∷ conds_back conds i

-- a query as a tree
abbrev pub query_tree : q.Query → Gv
query_tree query = gcons (expr_tree query.head) (gcons (filters_tree query.filters) (conds_tree query.conds))

abbrev query_of : Gv → q.Query
query_of g = record { head = expr_of (first g); filters = filters_of (first (second g)); conds = conds_of (second (second g)) }

pub query_back : (query : q.Query) → query_of (query_tree query) ≡ query
query_back query = λ i. record { head = expr_back query.head i; filters = filters_back query.filters i; conds = conds_back query.conds i }

abbrev pub query_code : Coded q.Query
query_code = code_by Gv whole query_tree query_of query_back
