-- A query that is read from a text is valid.
use Rattle.std.proofs.Common.{ℕ, zero, suc, ◌+◌, ◌≡◌, ◌<◌, ◌≤◌, Bool, true, false, List, [], ◌∷◌, ◌++◌, None, Some, Option, Ok, refl, sym, ◌∙◌, ap, arith, length, map, nat_eq, nat_lt, subst, inl, inr}
use Rattle.std.specs.Prelude.{◌||◌, cond, ◌&&◌, is_some, Result}
use Rattle.std.proofs.lemmas.Bool.Decides.{nat_tests}
use Rattle.std.proofs.lemmas.List.{length-map}
use Rattle.mt_text_spec.specs.Registries.{Registry, Attr, attr_names}
use Rattle.mt_text_spec.specs.Queries as q
use Rattle.mt_query_spec.specs.Tokens.{Token, Mark, deepest, tokens_of}
use Rattle.mt_query_spec.specs.Tokens as t
use Rattle.mt_query_spec.specs.Trees.{Choice, ExprTree, expr_tokens, op_tokens, Filtered, Operand, Filters, FilterTree, filter_tokens, CondTree, conds_tokens, QueryTree, query_tokens}
use Rattle.mt_query_spec.specs.Trees as tree
use Rattle.mt_query_spec.specs.Meaning.{number_of, or_first, undeclared, first_of, least_of, least, label_place, label_places, kept_label, FilterOf, FilterMeaning, chained, expr_of, expr_unknown, range_fault, label_fault, filters_of, filters_unknown, filters_range_fault, filters_label_fault, cond_of, cond_unknown, missing_label, cond_label_fault, conds_label_fault, conds_unknown, query_of, query_unknown, query_range_fault, query_label_fault}
use Rattle.mt_query_spec.specs.Meaning as meaning
use Rattle.mt_query_spec.specs.Valid.{ValidExpr, HasNoLabel, has_label, ValidFilters, ValidCond, ValidConds, IsReadAs}
use Rattle.mt_query_spec.specs.Verdicts.{Refusal, Means, too_long, unlexed, no_query, cut_short, written, is_too_great, judged, worst}
use Rattle.mt_query_laws.proofs.SoundTokens.{AllSound, sound_front, sound_back, tokens_sound}
use Rattle.mt_query_laws.proofs.ValidTests.{declared, first_none}
use Rattle.mt_query_laws.proofs.PrintedQueries.{counted, either_true, both_true}
use Rattle.mt_query_laws.proofs.ValidExprs.{GoodExpr, least_of_none, no_labels, expr_good}

-- ## Filters

abbrev ListValid : Registry → List FilterOf → Type 0
ListValid registry [] = Unit {0}
ListValid registry (f ∷ filters) = ValidExpr registry f.head × HasNoLabel f.head × ValidFilters registry f.filters × ListValid registry filters

chained_valid : (registry : Registry) (filters : List FilterOf) → ListValid registry filters → ValidFilters registry (chained filters)
chained_valid registry [] v = tt
chained_valid registry (f ∷ filters) v = (v.0, v.1, v.2, chained_valid registry filters v.3)

list_append : (registry : Registry) (xs ys : List FilterOf) → ListValid registry xs → ListValid registry ys → ListValid registry (xs ++ ys)
list_append registry [] ys v w = w
list_append registry (x ∷ xs) ys v w = (v.0, v.1, v.2, list_append registry xs ys v.3 w)

abbrev SortValid : Registry → (sort : Filtered) → FilterMeaning sort → Type 0
SortValid registry Operand m = ValidExpr registry m.0 × HasNoLabel m.0 × ValidFilters registry m.1
SortValid registry Filters m = ListValid registry m

module _ (registry : Registry) (default : ℕ) (d : default < length (attr_names registry.attrs)) where
  filters_valid : {sort : Filtered} (part : FilterTree sort) → AllSound (filter_tokens part) → filters_unknown registry part ≡ None → filters_range_fault part ≡ None
      → filters_label_fault part ≡ None → SortValid registry sort (filters_of registry default part)
  unfolding filter_tokens
  filters_valid (tree.Plain choice) s u r l =
      let z = least_of_none (label_fault choice) (least (label_places choice)) l in
      let g = expr_good registry default choice d s u r z.0 in
      (g.valid, no_labels registry default choice g z.1, tt)
  filters_valid (tree.WithFilters choice filters) s u r l =
      let x = first_none (expr_unknown registry choice) (filters_unknown registry filters) u in
      let y = least_of_none (range_fault choice) (filters_range_fault filters) r in
      let w = least_of_none (least_of (label_fault choice) (least (label_places choice))) (filters_label_fault filters) l in
      let z = least_of_none (label_fault choice) (least (label_places choice)) w.0 in
      let g = expr_good registry default choice d (sound_front (expr_tokens choice) (filter_tokens filters ++ Mark t.CloseRound ∷ []) s.1) x.0 y.0 z.0 in
      let f = filters_valid filters (sound_front (filter_tokens filters) (Mark t.CloseRound ∷ []) (sound_back (expr_tokens choice) (filter_tokens filters ++ Mark t.CloseRound ∷ []) s.1)) x.1 y.1 w.1 in
      (g.valid, no_labels registry default choice g z.1, chained_valid registry (filters_of registry default filters) f)
  filters_valid (tree.Filter op operand) s u r l =
      let f = filters_valid operand (sound_back (op_tokens op) (filter_tokens operand) s) u r l in
      (f.0, f.1, f.2, tt)
  filters_valid (tree.More filters op operand) s u r l =
      let x = first_none (filters_unknown registry filters) (filters_unknown registry operand) u in
      let y = least_of_none (filters_range_fault filters) (filters_range_fault operand) r in
      let z = least_of_none (filters_label_fault filters) (filters_label_fault operand) l in
      let a = filters_valid filters (sound_front (filter_tokens filters) (op_tokens op ++ filter_tokens operand) s) x.0 y.0 z.0 in
      let b = filters_valid operand (sound_back (op_tokens op) (filter_tokens operand) (sound_back (filter_tokens filters) (op_tokens op ++ filter_tokens operand) s)) x.1 y.1 z.1 in
      list_append registry (filters_of registry default filters) _ a (b.0, b.1, b.2, tt)

-- ## Conditions

-- a label that is set has a place
record PlacedLabel (f : ℕ → Option ℕ) (label n k : ℕ) : Type 0 where
  there : is_some (f label) ≡ true
  low : n ≤ label
  high : label < n + k

placed_back : (f : ℕ → Option ℕ) (label n k : ℕ) → meaning.has_label n (map f (counted n k)) label ≡ true → PlacedLabel f label n k
placed_back f label n zero h = cc
placed_back f label n (suc k) h = elim (either_true (nat_eq label n && is_some (f n)) (meaning.has_label (suc n) (map f (counted (suc n) k)) label) h) [
  | inl a ↦
      let b = both_true (nat_eq label n) (is_some (f n)) a in
      let e : label ≡ n = same label n b.0 in
      record { there = ap (λ m. is_some (f m)) e ∙ b.1; low = omega arith; high = omega arith }
  | inr b ↦ let p = placed_back f label (suc n) k b in record { there = p.there; low = omega (arith, p.low); high = omega (arith, p.high) }
]
  where
    same : (a b : ℕ) → nat_eq a b ≡ true → a ≡ b
    same a b h = grind (arith, nat_tests)

module _ (registry : Registry) (default : ℕ) (head : ExprTree Choice) (g : GoodExpr registry default head) where
  label_named : (at number : ℕ) → missing_label (label_places head) at number ≡ None → has_label (kept_label number) (expr_of registry default head) ≡ true
  label_named at number h =
      let p = placed_back (λ n. label_place n head) number 1 9 (go (meaning.has_label 1 (label_places head) number) h) in
      let k : nat_lt number 10 ≡ true = let l : number < 1 + 9 = p.high in grind (arith, nat_tests) in
      rw k (sym (g.labels number) ∙ p.there)
    where
      go : (q : Bool) → cond q None (Some at) ≡ None → q ≡ true
      go true h = refl
      go false h = cc

  attr_named : (at : ℕ) (name : List ℕ) → undeclared at (number_of (attr_names registry.attrs) name) ≡ None → or_first (number_of (attr_names registry.attrs) name) < length registry.attrs
  attr_named at name u =
      let n = declared (attr_names registry.attrs) at name u in
      let l = length-map registry.attrs (λ (attr : Attr). attr.name) in
      subst (λ found. or_first found < length registry.attrs) (sym n.is) (let w = n.within in omega arith)

  cond_valid : (c : CondTree) → cond_unknown registry c ≡ None → cond_label_fault (label_places head) c ≡ None → ValidCond registry (expr_of registry default head) (cond_of registry c)
  cond_valid c u l =
      let x = first_none (undeclared c.left_name_at (number_of (attr_names registry.attrs) c.left_name)) (undeclared c.right_name_at (number_of (attr_names registry.attrs) c.right_name)) u in
      let y = least_of_none (missing_label (label_places head) c.left_at c.left) (missing_label (label_places head) c.right_at c.right) l in
      record {
        left = label_named c.left_at c.left y.0;
        left_attr = attr_named c.left_name_at c.left_name x.0;
        right = label_named c.right_at c.right y.1;
        right_attr = attr_named c.right_name_at c.right_name x.1;
      }

  conds_valid : (conds : List CondTree) → conds_unknown registry conds ≡ None → conds_label_fault (label_places head) conds ≡ None
      → ValidConds registry (expr_of registry default head) (map (cond_of registry) conds)
  conds_valid [] u l = tt
  conds_valid (c ∷ conds) u l =
      let x = first_none (cond_unknown registry c) (conds_unknown registry conds) u in
      let y = least_of_none (cond_label_fault (label_places head) c) (conds_label_fault (label_places head) conds) l in
      (cond_valid c x.0 y.0, conds_valid conds x.1 y.1)

-- ## Queries

-- a query but for its size and its nesting
pub record GoodQuery (registry : Registry) (query : q.Query) : Type 0 where
  pub head : ValidExpr registry query.head
  pub filters : ValidFilters registry query.filters
  pub conds : ValidConds registry query.head query.conds

query_good : (registry : Registry) (default : ℕ) → default < length (attr_names registry.attrs) → (part : QueryTree) → AllSound (query_tokens part) → query_unknown registry part ≡ None
    → query_range_fault part ≡ None → query_label_fault part ≡ None → GoodQuery registry (query_of registry default part)
query_good registry default d (tree.Asks head conds) s u r l =
    let x = first_none (expr_unknown registry head) (conds_unknown registry conds) u in
    let z = least_of_none (label_fault head) (conds_label_fault (label_places head) conds) l in
    let g = expr_good registry default head d (sound_front (expr_tokens head) (conds_tokens conds) s) x.0 r z.0 in
    record { head = g.valid; filters = tt; conds = conds_valid registry default head g conds x.1 z.1 }
query_good registry default d (tree.AsksFiltered head filters conds) s u r l =
    let x = first_none (first_of (expr_unknown registry head) (filters_unknown registry filters)) (conds_unknown registry conds) u in
    let w = first_none (expr_unknown registry head) (filters_unknown registry filters) x.0 in
    let y = least_of_none (range_fault head) (filters_range_fault filters) r in
    let z = least_of_none (least_of (label_fault head) (filters_label_fault filters)) (conds_label_fault (label_places head) conds) l in
    let v = least_of_none (label_fault head) (filters_label_fault filters) z.0 in
    let g = expr_good registry default head d (sound_front (expr_tokens head) (filter_tokens filters ++ conds_tokens conds) s) w.0 y.0 v.0 in
    let f = filters_valid registry default d filters (sound_front (filter_tokens filters) (conds_tokens conds) (sound_back (expr_tokens head) (filter_tokens filters ++ conds_tokens conds) s)) w.1 y.1 v.1 in
    record { head = g.valid; filters = chained_valid registry (filters_of registry default filters) f; conds = conds_valid registry default head g conds x.1 z.1 }

-- what a verdict that gives a query says
record Given (range label unknown : Option ℕ) (great : Bool) (meant query : q.Query) : Type 0 where
  ranged : range ≡ None
  labelled : label ≡ None
  known : unknown ≡ None
  small : great ≡ false
  is : meant ≡ query

given : (range label unknown : Option ℕ) (great : Bool) (meant query : q.Query) → judged (worst range label) unknown great meant ≡ Ok query → Given range label unknown great meant query
given None None None false meant query h = record { ranged = refl; labelled = refl; known = refl; small = refl; is = let e : meant ≡ query = cc in e }
given None None None true meant query h = cc
given None None (Some at) great meant query h = cc
given None (Some label) unknown great meant query h = cc
given (Some range) None unknown great meant query h = cc
given (Some range) (Some label) unknown great meant query h = cc

-- what is known of a query that is read, but for its nesting
pub record GoodReading (registry : Registry) (default : ℕ) (part : QueryTree) (query : q.Query) : Type 0 where
  pub is : query_of registry default part ≡ query
  pub good : GoodQuery registry query
  pub small : is_too_great query ≡ false

pub good_reading : (registry : Registry) (default : ℕ) (text : List ℕ) (query : q.Query) → default < length registry.attrs → (r : IsReadAs registry default text query)
    → GoodReading registry default r.part query
good_reading registry default text query d r =
    let g = given (query_range_fault r.part) (query_label_fault r.part) (query_unknown registry r.part) (is_too_great (query_of registry default r.part)) (query_of registry default r.part) query r.obeys in
    let l = length-map registry.attrs (λ (attr : Attr). attr.name) in
    let s : AllSound (query_tokens r.part) = subst AllSound (sym r.tokens) (tokens_sound 0 0 text) in
    record {
      is = g.is;
      good = subst (GoodQuery registry) g.is (query_good registry default (omega arith) r.part s g.known g.ranged g.labelled);
      small = sym (ap is_too_great g.is) ∙ g.small;
    }

deep_enough : (n d : ℕ) → (nat_lt 4096 n || nat_lt 32 d) ≡ false → d ≤ 32
deep_enough n d h = go (nat_lt 4096 n) (nat_lt 32 d) refl h
  where
    go : (p q : Bool) → nat_lt 32 d ≡ q → (p || q) ≡ false → d ≤ 32
    go true q e h = cc
    go false true e h = cc
    go false false e h = grind (arith, nat_tests)

-- what a text means it is read as
pub read_as : (registry : Registry) (default : ℕ) (text : List ℕ) (query : q.Query) (said : Result q.Query Refusal) → Means registry default text said → said ≡ Ok query
    → IsReadAs registry default text query
read_as registry default text query said (too_long long) e = cc
read_as registry default text query said (unlexed short at why stop b) e = cc
read_as registry default text query said (no_query short number at token there b never) e = cc
read_as registry default text query said (cut_short short stop b never) e = cc
read_as registry default text query said (written short stop part w) e =
    record { part = part; whole = stop; tokens = w; nests = deep_enough (length text) (deepest text) short; obeys = e }
