-- How the logic tells grammars with their counts apart: by their parts. So a struct can be seen as one.
use Rattle.std.specs.Prelude.{ℕ, List, refl}
use Rattle.std.specs.Coded.{Coded, code_by, coded×, coded_ℕ, coded_list}
use Rattle.mt_text_spec.specs.Queries.{Grammar}
use Rattle.mt_grammar.specs.Codes.{grammar_code, text_code}
use Rattle.mt_counts.specs.Counted.{Counted}
use Rattle.mt_rules.specs.Ruled.{Ruled}

-- a name with two words
abbrev pub three_code : Coded (List ℕ × List ℕ × List ℕ)
three_code = code_by (List ℕ × (List ℕ × List ℕ)) (coded× text_code (coded× text_code text_code)) (λ k. (k.0, (k.1, k.2))) (λ p. (p.0, p.1.0, p.1.1)) (λ _. refl)

-- counts of names with two words
abbrev pub threes_code : Coded (List ((List ℕ × List ℕ × List ℕ) × ℕ))
threes_code = coded_list (coded× three_code coded_ℕ)

-- counts of names with one
abbrev pub twos_code : Coded (List ((List ℕ × List ℕ) × ℕ))
twos_code = coded_list (coded× (coded× text_code text_code) coded_ℕ)

abbrev pub counted_code : Coded Counted
counted_code =
    code_by
    (List ((List ℕ × List ℕ × List ℕ) × ℕ) × (List ((List ℕ × List ℕ) × ℕ) × (List ((List ℕ × List ℕ) × ℕ) × List ((List ℕ × List ℕ) × ℕ))))
    (coded× threes_code (coded× twos_code (coded× twos_code twos_code)))
    (λ c. (c.both, (c.first, (c.second, c.alone)))) (λ p. record { both = p.0; first = p.1.0; second = p.1.1.0; alone = p.1.1.1 }) (λ _. refl)

abbrev pub ruled_code : Coded Ruled
ruled_code = code_by (Grammar × Counted) (coded× grammar_code counted_code) (λ r. (r.grammar, r.counted)) (λ p. record { grammar = p.0; counted = p.1 }) (λ _. refl)
