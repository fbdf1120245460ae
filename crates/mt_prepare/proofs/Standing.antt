-- The patterns of the parts of a query stand among those of the query.
use Rattle.std.proofs.Common.{ℕ, ◌≡◌, ◌+◌, List, [], ◌∷◌, ◌++◌, length, get_or, refl, sym, ◌∙◌, ap, arith, append_assoc, length-append}
use Rattle.std.proofs.lemmas.List.{append-nil, get_or_at}
use Rattle.mt_text_spec.specs.Queries as q
use Rattle.mt_eval_spec.specs.Asked.{test_patterns, expr_patterns, filters_patterns, query_patterns}
use Rattle.mt_prepare.specs.Asks.{TestStands, ExprStands, FiltersStand}

left_part : (all before a b behind : List (List ℕ)) → all ≡ before ++ ((a ++ b) ++ behind) → all ≡ before ++ (a ++ (b ++ behind))
left_part all before a b behind e = e ∙ ap (λ (l : List (List ℕ)). before ++ l) (append_assoc a b behind)

right_part : (all before a b behind : List (List ℕ)) → all ≡ before ++ ((a ++ b) ++ behind) → all ≡ (before ++ a) ++ (b ++ behind)
right_part all before a b behind e = left_part all before a b behind e ∙ sym (append_assoc before a (b ++ behind))

later : (at : ℕ) (before a : List (List ℕ)) → at ≡ length before → at + length a ≡ length (before ++ a)
later at before a n = omega (arith, n, length-append before a)

pub test_stands : (all before behind : List (List ℕ)) (at : ℕ) (test : q.Test) → all ≡ before ++ (test_patterns test ++ behind) → at ≡ length before → TestStands all at test
test_stands all before behind at q.Any e n = tt
test_stands all before behind at (q.Pattern attr text negated) e n = record {
  within = omega (arith, ap length e, length-append before (text ∷ behind), n);
  is_there = ap (λ (l : List (List ℕ)). get_or l at []) e ∙ get_or_at before text behind [] at (sym n);
}
test_stands all before behind at (q.Literal attr text negated) e n = tt
test_stands all before behind at (q.Not inner) e n = test_stands all before behind at inner e n
test_stands all before behind at (q.Both left right) e n = (
  test_stands all before (test_patterns right ++ behind) at left (left_part all before (test_patterns left) (test_patterns right) behind e) n,
  test_stands all (before ++ test_patterns left) behind (at + length (test_patterns left)) right (right_part all before (test_patterns left) (test_patterns right) behind e) (later at before (test_patterns left) n),
)
test_stands all before behind at (q.Either left right) e n = (
  test_stands all before (test_patterns right ++ behind) at left (left_part all before (test_patterns left) (test_patterns right) behind e) n,
  test_stands all (before ++ test_patterns left) behind (at + length (test_patterns left)) right (right_part all before (test_patterns left) (test_patterns right) behind e) (later at before (test_patterns left) n),
)

pub expr_stands : (all before behind : List (List ℕ)) (at : ℕ) (expr : q.Expr) → all ≡ before ++ (expr_patterns expr ++ behind) → at ≡ length before → ExprStands all at expr
expr_stands all before behind at (q.TokenTest label test) e n = test_stands all before behind at test e n
expr_stands all before behind at (q.Begin kind test) e n = test_stands all before behind at test e n
expr_stands all before behind at (q.End kind) e n = tt
expr_stands all before behind at (q.Whole kind test) e n = test_stands all before behind at test e n
expr_stands all before behind at (q.Seq left right) e n = (
  expr_stands all before (expr_patterns right ++ behind) at left (left_part all before (expr_patterns left) (expr_patterns right) behind e) n,
  expr_stands all (before ++ expr_patterns left) behind (at + length (expr_patterns left)) right (right_part all before (expr_patterns left) (expr_patterns right) behind e) (later at before (expr_patterns left) n),
)
expr_stands all before behind at (q.Choice left right) e n = (
  expr_stands all before (expr_patterns right ++ behind) at left (left_part all before (expr_patterns left) (expr_patterns right) behind e) n,
  expr_stands all (before ++ expr_patterns left) behind (at + length (expr_patterns left)) right (right_part all before (expr_patterns left) (expr_patterns right) behind e) (later at before (expr_patterns left) n),
)
expr_stands all before behind at (q.Repeat inner least most) e n = expr_stands all before behind at inner e n

pub filters_stand : (all before behind : List (List ℕ)) (at : ℕ) (filters : q.Filters) → all ≡ before ++ (filters_patterns filters ++ behind) → at ≡ length before → FiltersStand all at filters
filters_stand all before behind at q.NoMore e n = tt
filters_stand all before behind at (q.More kind head filters others) e n =
    let a = expr_patterns head in
    let b = filters_patterns filters in
    let d = filters_patterns others in
    let front : all ≡ before ++ ((a ++ b) ++ (d ++ behind)) = left_part all before (a ++ b) d behind e in (
      expr_stands all before (b ++ (d ++ behind)) at head (left_part all before a b (d ++ behind) front) n,
      filters_stand all (before ++ a) (d ++ behind) (at + length a) filters (right_part all before a b (d ++ behind) front) (later at before a n),
      filters_stand all (before ++ (a ++ b)) behind (at + length a + length b) others (right_part all before (a ++ b) d behind e) (omega (arith, n, length-append before (a ++ b), length-append a b)),
    )

-- ## In a query

pub head_stands : (all : List (List ℕ)) (query : q.Query) → all ≡ query_patterns query → ExprStands all 0 query.head
head_stands all query e = expr_stands all [] (filters_patterns query.filters) 0 query.head e refl

pub operands_stand : (all : List (List ℕ)) (at : ℕ) (query : q.Query) → all ≡ query_patterns query → at ≡ length (expr_patterns query.head) → FiltersStand all at query.filters
operands_stand all at query e n = filters_stand all (expr_patterns query.head) [] at query.filters (e ∙ ap (λ (l : List (List ℕ)). expr_patterns query.head ++ l) (sym (append-nil (filters_patterns query.filters)))) n
