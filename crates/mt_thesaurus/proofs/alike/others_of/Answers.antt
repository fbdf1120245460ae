use Rattle.std.proofs.Common.{◌∙◌, ap, arith}
use Rattle.mt_thesaurus.proofs.Others.{others_taken, others_passed}
use Rattle.mt_thesaurus.proofs.alike.others_of.Goals as goal
use Rattle.mt_thesaurus.proofs.alike.others_of.Goals.{then-word-lemma+then-parts-word-gt0+in_ok-push, else-word-lemma, else-word-lemma-via-then-word-lemma+else-parts-word-gt0, else-word-lemma-via-else-word-lemma}

pub loop-word-preserved : goal.loop-word-preserved
loop-word-preserved c =
    let parts = c.args.parts.now in
    let lemma = c.args.lemma in
    let k = c.loop-word.word in
    let numbers = c.loop-word.numbers.items in
    let more = c.if-word-lemma.numbers.items in
    elim c.if-word-lemma.branch [
      | then-word-lemma+then-parts-word-gt0+in_ok-push w ↦ others_taken parts lemma k numbers more c.loop-word.invariant w.if-word-lemma.true w.if-parts-word-gt0.true (ap (λ v. v.items) w.numbers-is ∙ w.in_ok-push.ensures.items)
      | else-word-lemma w ↦ elim w.else-word-lemma.branch [
        | else-word-lemma-via-then-word-lemma+else-parts-word-gt0 w' ↦ others_passed parts lemma k numbers more c.loop-word.invariant (λ apart some. omega (arith, some, w'.if-parts-word-gt0.false)) (ap (λ v. v.items) w.numbers-is)
        | else-word-lemma-via-else-word-lemma w' ↦ others_passed parts lemma k numbers more c.loop-word.invariant (λ apart some. apart w'.if-word-lemma.false) (ap (λ v. v.items) w.numbers-is)
      ]
    ]
