use Rattle.std.proofs.Common.{rules, ◌≡◌, ℕ, length, replicate, sym, ap, ◌∙◌, arith}
use Rattle.std.proofs.lemmas.List.{take_all}
use Rattle.mt_text_spec.specs.Texts.{unset}
use Rattle.mt_rows.proofs.rows.are_set.Goals as goal

pub returns : goal.returns
returns c = λ _.
    let labels = c.args.labels.now in
    let nine : length labels ≡ 9 = search rules in
    let all : c.loop-i.i ≡ 9 = omega (arith, c.loop-i-test.false, c.loop-i.auto.i-end) in
    sym (take_all c.loop-i.i labels (omega (arith, nine, all))) ∙ c.loop-i.invariant ∙ ap (λ (n : ℕ). replicate n unset) all
