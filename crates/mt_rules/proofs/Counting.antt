-- How many names the relations of a grammar have.
use Rattle.std.proofs.Common.{◌≡◌, ℕ, zero, suc, ◌+◌, ◌<◌, ◌≤◌, List, [], ◌∷◌, length, take, get_or, refl, ◌∙◌, ap, arith}
use Rattle.std.proofs.lemmas.List.{take_all}
use Rattle.mt_text_spec.specs.Queries.{Query, RelationKind, Plain, Dual, Symmetric, Trinary, Unary, Relation}
use Rattle.mt_grammar_spec.specs.ReadGrammar.{relation_count}
use Rattle.mt_rules.specs.Names.{name_count}

by_kind : (kind : RelationKind) (name second : List ℕ) (queries : List Query) (relations : List Relation) →
    relation_count (record { kind = kind; name = name; second = second; queries = queries } ∷ relations) ≡ name_count kind + relation_count relations
by_kind Plain name second queries relations = refl
by_kind Dual name second queries relations = refl
by_kind Symmetric name second queries relations = refl
by_kind Trinary name second queries relations = refl
by_kind Unary name second queries relations = refl

first_of : (relation : Relation) (relations : List Relation) → relation_count (relation ∷ relations) ≡ name_count relation.kind + relation_count relations
first_of relation relations = by_kind relation.kind relation.name relation.second relation.queries relations

-- one relation more
pub one_more : (relations : List Relation) (i : ℕ) (relation : Relation) → i < length relations → relation ≡ get_or relations i relation →
    relation_count (take (i + 1) relations) ≡ relation_count (take i relations) + name_count relation.kind
one_more [] i relation l e = absurd (omega (arith, l))
one_more (r ∷ rs) zero relation l e =
    let is : name_count relation.kind ≡ name_count r.kind = ap (λ (x : Relation). name_count x.kind) e in
    let one : relation_count (take (zero + 1) (r ∷ rs)) ≡ name_count r.kind + 0 = first_of r [] in
    omega (arith, one, is)
one_more (r ∷ rs) (suc i) relation l e =
    let more = one_more rs i relation (omega (arith, l)) e in
    let step : suc i + 1 ≡ suc (i + 1) = omega arith in
    let high : relation_count (take (suc i + 1) (r ∷ rs)) ≡ name_count r.kind + relation_count (take (i + 1) rs) = ap (λ (n : ℕ). relation_count (take n (r ∷ rs))) step ∙ first_of r (take (i + 1) rs) in
    let low : relation_count (take (suc i) (r ∷ rs)) ≡ name_count r.kind + relation_count (take i rs) = first_of r (take i rs) in
    omega (arith, high, low, more)

pub all_of : (relations : List Relation) (i : ℕ) → length relations ≤ i → relation_count (take i relations) ≡ relation_count relations
all_of relations i l = ap relation_count (take_all i relations l)
