-- A valid expression names attributes and kinds that the segment has.
use Rattle.std.proofs.Common.{ℕ, ◌<◌, length, arith}
use Rattle.std.proofs.lemmas.List.{length-map}
use Rattle.mt_text_spec.specs.Registries.{Registry, Attr, attr_names}
use Rattle.mt_text_spec.specs.Queries as q
use Rattle.mt_query_spec.specs.Valid.{ValidTest, ValidMaybe, ValidExpr}
use Rattle.mt_segment_spec.specs.Tables.{Tables, AreTablesUnder}
use Rattle.mt_prepare.specs.Asks.{HasAttr, HasKind, Names, NamesOnly}

module _ (registry : Registry) (tables : Tables) (under : AreTablesUnder registry tables) where
  has : (attr : ℕ) → attr < length (attr_names registry.attrs) → HasAttr tables attr
  has attr l = let count = under.by.are.attr_count in let long = length-map registry.attrs (λ (a : Attr). a.name) in omega (arith, l, count, long)

  of_test : (test : q.Test) → ValidTest (attr_names registry.attrs) test → NamesOnly (HasAttr tables) test
  of_test q.Any v = tt
  of_test (q.Pattern attr text negated) v = has attr v.0
  of_test (q.Literal attr text negated) v = has attr v
  of_test (q.Not inner) v = of_test inner v
  of_test (q.Both left right) v = (of_test left v.0, of_test right v.1)
  of_test (q.Either left right) v = (of_test left v.0, of_test right v.1)

  of_maybe : (test : q.Test) → ValidMaybe (attr_names registry.attrs) test → NamesOnly (HasAttr tables) test
  of_maybe q.Any v = tt
  of_maybe (q.Pattern attr text negated) v = of_test (q.Pattern attr text negated) v
  of_maybe (q.Literal attr text negated) v = of_test (q.Literal attr text negated) v
  of_maybe (q.Not inner) v = of_test (q.Not inner) v
  of_maybe (q.Both left right) v = of_test (q.Both left right) v
  of_maybe (q.Either left right) v = of_test (q.Either left right) v

  pub of_expr : (expr : q.Expr) → ValidExpr registry expr → Names (HasAttr tables) (HasKind tables) expr
  of_expr (q.TokenTest label test) v = of_maybe test v.1
  of_expr (q.Begin kind test) v = let count = under.by.are.kind_count in let l = v.0 in omega (arith, l, count)
  of_expr (q.End kind) v = let count = under.by.are.kind_count in omega (arith, v, count)
  of_expr (q.Whole kind test) v = let count = under.by.are.kind_count in let l = v.0 in omega (arith, l, count)
  of_expr (q.Seq left right) v = (of_expr left v.0, of_expr right v.1)
  of_expr (q.Choice left right) v = (of_expr left v.0, of_expr right v.1)
  of_expr (q.Repeat inner least most) v = of_expr inner v.0
