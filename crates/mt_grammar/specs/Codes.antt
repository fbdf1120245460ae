-- How the logic tells relations, grammars and what is kept of lines apart: by their parts. So structs can be seen as them.
use Rattle.std.specs.Prelude.{ℕ, ◌≡◌, refl, List, Option, cond, nat_eq}
use Rattle.std.specs.Coded.{Coded, code_by, coded×, coded_ℕ, coded_list, coded_option}
use Rattle.mt_text_spec.specs.Queries as q
use Rattle.mt_cql.specs.Codes.{query_code}
use Rattle.mt_grammar.specs.Reading.{State}

abbrev pub kind_number : q.RelationKind → ℕ
kind_number q.Plain = 0
kind_number q.Dual = 1
kind_number q.Symmetric = 2
kind_number q.Trinary = 3
kind_number q.Unary = 4

abbrev pub kind_of : ℕ → q.RelationKind
kind_of n = cond (nat_eq n 0) q.Plain (cond (nat_eq n 1) q.Dual (cond (nat_eq n 2) q.Symmetric (cond (nat_eq n 3) q.Trinary q.Unary)))

pub kind_back : (kind : q.RelationKind) → kind_of (kind_number kind) ≡ kind
kind_back q.Plain = refl
kind_back q.Dual = refl
kind_back q.Symmetric = refl
kind_back q.Trinary = refl
kind_back q.Unary = refl

abbrev pub kind_code : Coded q.RelationKind
kind_code = code_by ℕ coded_ℕ kind_number kind_of kind_back

abbrev pub text_code : Coded (List ℕ)
text_code = coded_list coded_ℕ

abbrev pub relation_code : Coded q.Relation
relation_code =
    code_by (q.RelationKind × (List ℕ × (List ℕ × List q.Query))) (coded× kind_code (coded× text_code (coded× text_code (coded_list query_code))))
    (λ r. (r.kind, (r.name, (r.second, r.queries)))) (λ p. record { kind = p.0; name = p.1.0; second = p.1.1.0; queries = p.1.1.1 }) (λ _. refl)

abbrev pub grammar_code : Coded q.Grammar
grammar_code = code_by (List q.Relation) (coded_list relation_code) (λ g. g.relations) (λ relations. record { relations = relations }) (λ _. refl)

abbrev pub state_code : Coded State
state_code =
    code_by (ℕ × (Option q.RelationKind × (ℕ × (Option ℕ × (ℕ × (List q.Relation × Option q.Relation))))))
    (coded× coded_ℕ (coded× (coded_option kind_code) (coded× coded_ℕ (coded× (coded_option coded_ℕ) (coded× coded_ℕ (coded× (coded_list relation_code) (coded_option relation_code)))))))
    (λ s. (s.number, (s.pending, (s.default, (s.limit, (s.queries, (s.done, s.last)))))))
    (λ p. record { number = p.0; pending = p.1.0; default = p.1.1.0; limit = p.1.1.1.0; queries = p.1.1.1.1.0; done = p.1.1.1.1.1.0; last = p.1.1.1.1.1.1 }) (λ _. refl)
