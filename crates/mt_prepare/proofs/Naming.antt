-- The names of valid queries are those of their segments.
use Rattle.std.proofs.Common.{ℕ, ◌<◌, List, length, arith}
use Rattle.std.proofs.lemmas.List.{length-map}
use Rattle.mt_text_spec.specs.Registries.{Registry, attr_names}
use Rattle.mt_text_spec.specs.Queries as q
use Rattle.mt_query_spec.specs.Valid.{ValidTest, ValidMaybe, ValidExpr, ValidFilters}
use Rattle.mt_segment_spec.specs.Tables.{Tables}
use Rattle.mt_eval_spec.specs.Told.{IsFor}
use Rattle.mt_prepare.specs.Asks.{NamesOnly, Names, FiltersName, HasAttr, HasKind}

pub valid_names : (names : List (List ℕ)) (P : ℕ → Type 0) → ((attr : ℕ) → attr < length names → P attr) → (test : q.Test) → ValidTest names test → NamesOnly P test
valid_names names P h q.Any v = absurd v
valid_names names P h (q.Pattern attr text negated) v = h attr v.0
valid_names names P h (q.Literal attr text negated) v = h attr v
valid_names names P h (q.Not inner) v = valid_names names P h inner v
valid_names names P h (q.Both left right) v = (valid_names names P h left v.0, valid_names names P h right v.1)
valid_names names P h (q.Either left right) v = (valid_names names P h left v.0, valid_names names P h right v.1)

pub maybe_names : (names : List (List ℕ)) (P : ℕ → Type 0) → ((attr : ℕ) → attr < length names → P attr) → (test : q.Test) → ValidMaybe names test → NamesOnly P test
maybe_names names P h q.Any v = tt
maybe_names names P h (q.Pattern attr text negated) v = h attr v.0
maybe_names names P h (q.Literal attr text negated) v = h attr v
maybe_names names P h (q.Not inner) v = valid_names names P h inner v
maybe_names names P h (q.Both left right) v = (valid_names names P h left v.0, valid_names names P h right v.1)
maybe_names names P h (q.Either left right) v = (valid_names names P h left v.0, valid_names names P h right v.1)

pub expr_names : (registry : Registry) (P Q : ℕ → Type 0) → ((attr : ℕ) → attr < length registry.attrs → P attr) → ((kind : ℕ) → kind < length registry.kinds → Q kind) →
    (expr : q.Expr) → ValidExpr registry expr → Names P Q expr
expr_names registry P Q g h (q.TokenTest label test) v = maybe_names (attr_names registry.attrs) P (λ attr l. g attr (simp length-map at l)) test v.1
expr_names registry P Q g h (q.Begin kind test) v = h kind v.0
expr_names registry P Q g h (q.End kind) v = h kind v
expr_names registry P Q g h (q.Whole kind test) v = h kind v.0
expr_names registry P Q g h (q.Seq left right) v = (expr_names registry P Q g h left v.0, expr_names registry P Q g h right v.1)
expr_names registry P Q g h (q.Choice left right) v = (expr_names registry P Q g h left v.0, expr_names registry P Q g h right v.1)
expr_names registry P Q g h (q.Repeat inner least most) v = expr_names registry P Q g h inner v.0

pub filters_names : (registry : Registry) (P Q : ℕ → Type 0) → ((attr : ℕ) → attr < length registry.attrs → P attr) → ((kind : ℕ) → kind < length registry.kinds → Q kind) →
    (filters : q.Filters) → ValidFilters registry filters → FiltersName P Q filters
filters_names registry P Q g h q.NoMore v = tt
filters_names registry P Q g h (q.More kind head filters others) v = (expr_names registry P Q g h head v.0, filters_names registry P Q g h filters v.2, filters_names registry P Q g h others v.3)

-- ## A query that is for a segment

pub head_named : (tables : Tables) (query : q.Query) → IsFor tables query → Names (HasAttr tables) (HasKind tables) query.head
head_named tables query f =
    expr_names f.registry (HasAttr tables) (HasKind tables) (λ attr l. omega (arith, f.under.by.are.attr_count)) (λ kind l. omega (arith, f.under.by.are.kind_count)) query.head f.fits.head

pub filters_named : (tables : Tables) (query : q.Query) → IsFor tables query → FiltersName (HasAttr tables) (HasKind tables) query.filters
filters_named tables query f =
    filters_names f.registry (HasAttr tables) (HasKind tables) (λ attr l. omega (arith, f.under.by.are.attr_count)) (λ kind l. omega (arith, f.under.by.are.kind_count)) query.filters f.fits.filters
