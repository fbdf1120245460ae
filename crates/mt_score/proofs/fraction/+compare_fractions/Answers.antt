use Rattle.std.proofs.Common.{◌%◌, ◌∙◌, ⊎_elim, inl, inr}
use Rattle.mt_score.proofs.Fractions.{by_whole, by_rests, by_nothing, by_reciprocals}
use Rattle.mt_score.proofs.fraction.+compare_fractions.Goals as goal

pub returns-then-left-right : goal.returns-then-left-right
returns-then-left-right t c =
    let p = c.args in
    c.cmp-then-left-right.ensures ∙ by_whole p.a p.b p.c p.d c.requires.left c.requires.right c.if-left-right.true

pub returns-then-left_rest-eq0 : goal.returns-then-left_rest-eq0
returns-then-left_rest-eq0 t c =
    let p = c.args in
    let none = ⊎_elim inl (λ w. inr w.1) c.then-left_rest-eq0.either in
    c.cmp-then-left_rest-eq0.ensures ∙ by_nothing (p.a % p.b) (p.c % p.d) p.b p.d c.requires.left c.requires.right none ∙ by_rests p.a p.b p.c p.d c.if-left-right.false

pub returns : goal.returns
returns t c =
    let p = c.args in
    c.compare_fractions.ensures ∙ by_reciprocals (p.a % p.b) (p.c % p.d) p.b p.d ∙ by_rests p.a p.b p.c p.d c.if-left-right.false
