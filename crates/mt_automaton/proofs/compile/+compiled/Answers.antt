use Rattle.std.proofs.Common.{◌≡◌, ℕ, ◌∙◌, ap}
use Rattle.mt_text_spec.specs.Queries as q
use Rattle.mt_cql.specs.Shape.{shape, test_shape}
use Rattle.mt_automaton.specs.Parts.{Tag}
use Rattle.mt_automaton.specs.LabelledParts.{labelled_meant}
use Rattle.mt_automaton.specs.Compiled.{WritesOut, by_numbers}
use Rattle.mt_automaton.specs.Compiling.{IsPlain, Compiles}
use Rattle.mt_automaton.proofs.Compiled.{token_compiles, begin_compiles, end_compiles, whole_compiles, seq_compiles, choice_compiles, repeat_compiles, ok_from_both}
use Rattle.mt_automaton.proofs.compile.+compiled.Goals as goal

pub returns-in_ok-test-in-Token-clause-part : goal.returns-in_ok-test-in-Token-clause-part
returns-in_ok-test-in-Token-clause-part t c =
    let label = c.in-Token.label in
    rw c.in-Token.is
    (token_compiles label (test_shape c.in-Token.test) c.args.numbered.now.tests c.args.numbered.now.tags c.token.result
    (λ tests tags. c.token.ensures.is tests tags ∙ ap (λ n. q.TokenTest label (tests n)) c.in_ok-test-in-Token.ensures.result) c.token.ensures.plain)

pub returns-in_ok-tag-in-Begin-clause-part : goal.returns-in_ok-tag-in-Begin-clause-part
returns-in_ok-tag-in-Begin-clause-part t c =
    rw c.in-Begin.is (rw c.in_ok-tag-in-Begin.ensures.result (begin_compiles c.in-Begin.kind (test_shape c.in-Begin.test) c.args.numbered.now.tests c.args.numbered.now.tags))

pub returns-in_ok-tag-in-End-clause-part : goal.returns-in_ok-tag-in-End-clause-part
returns-in_ok-tag-in-End-clause-part t c =
    rw c.in-End.is (rw c.in_ok-tag-in-End.ensures.result (end_compiles c.in-End.kind c.args.numbered.now.tests c.args.numbered.now.tags))

pub returns-in_ok-tag-in-Whole-clause-part : goal.returns-in_ok-tag-in-Whole-clause-part
returns-in_ok-tag-in-Whole-clause-part t c =
    rw c.in-Whole.is (rw c.in_ok-tag-in-Whole.ensures.result (whole_compiles c.in-Whole.kind (test_shape c.in-Whole.test) c.args.numbered.now.tests c.args.numbered.now.tags))

pub returns-in_ok-second-in-Seq-clause-part : goal.returns-in_ok-second-in-Seq-clause-part
returns-in_ok-second-in-Seq-clause-part t c =
    let left = shape c.in-Seq.left.value in
    let right = shape c.in-Seq.right.value in
    let a = c.in_ok-first-in-Seq.first in
    let b = c.in_ok-second-in-Seq.second in
    let at = c.args.numbered.now in
    let next = c.compiled.new.numbered in
    rw c.in-Seq.is
    (ok_from_both c.joined.result
    (λ part. (tests : ℕ → q.Test) (tags : ℕ → Tag) → labelled_meant (by_numbers tests tags) part ≡ q.Seq (labelled_meant (by_numbers tests tags) a) (labelled_meant (by_numbers tests tags) b))
    (λ part. IsPlain a → IsPlain b → IsPlain part) (λ part. Compiles at.tests at.tags (q.Seq left right) part)
    (λ part is plain. seq_compiles left right at.tests at.tags next.tests next.tags a b part (rw c.deref.ensures at c.in_ok-first-in-Seq.ensures.counts) (rw c.deref.ensures at c.in_ok-first-in-Seq.ensures.part)
    (rw c.deref-in-Seq.ensures at c.in_ok-second-in-Seq.ensures.part) is plain) c.joined.ensures.is c.joined.ensures.plain)

pub returns-in_ok-second-in-Choice-clause-part : goal.returns-in_ok-second-in-Choice-clause-part
returns-in_ok-second-in-Choice-clause-part t c =
    let left = shape c.in-Choice.left.value in
    let right = shape c.in-Choice.right.value in
    let a = c.in_ok-first-in-Choice.first in
    let b = c.in_ok-second-in-Choice.second in
    let at = c.args.numbered.now in
    let next = c.compiled-in-Choice.new.numbered in
    rw c.in-Choice.is
    (ok_from_both c.either.result
    (λ part. (tests : ℕ → q.Test) (tags : ℕ → Tag) → labelled_meant (by_numbers tests tags) part ≡ q.Choice (labelled_meant (by_numbers tests tags) a) (labelled_meant (by_numbers tests tags) b))
    (λ part. IsPlain a → IsPlain b → IsPlain part) (λ part. Compiles at.tests at.tags (q.Choice left right) part)
    (λ part is plain. choice_compiles left right at.tests at.tags next.tests next.tags a b part (rw c.deref-in-Choice.ensures at c.in_ok-first-in-Choice.ensures.counts)
    (rw c.deref-in-Choice.ensures at c.in_ok-first-in-Choice.ensures.part) (rw c.deref-in-Choice-2.ensures at c.in_ok-second-in-Choice.ensures.part) is plain) c.either.ensures.is c.either.ensures.plain)

pub returns-in_ok-turn-in-Repeat-clause-part : goal.returns-in_ok-turn-in-Repeat-clause-part
returns-in_ok-turn-in-Repeat-clause-part t c =
    let inner = shape c.in-Repeat.inner.value in
    let a = c.in_ok-turn-in-Repeat.turn in
    let at = c.args.numbered.now in
    let least = c.in-Repeat.least in
    let most = c.in-Repeat.most in
    rw c.in-Repeat.is
    (ok_from_both c.repeated.result
    (λ part. (tests : ℕ → q.Test) (tags : ℕ → Tag) (expr : q.Expr) → WritesOut (labelled_meant (by_numbers tests tags) a) expr → WritesOut (labelled_meant (by_numbers tests tags) part) (q.Repeat expr least most))
    (λ part. IsPlain a → IsPlain part) (λ part. Compiles at.tests at.tags (q.Repeat inner least most) part)
    (λ part is plain. repeat_compiles inner least most at.tests at.tags a part (rw c.deref-in-Repeat.ensures at c.in_ok-turn-in-Repeat.ensures.part) is plain) c.repeated.ensures.is c.repeated.ensures.plain)
