use Rattle.std.proofs.Common.{◌≡◌, arith, subst}
use Rattle.mt_match_spec.specs.Matches as m
use Rattle.mt_automaton.specs.declared.part.Part.TheVariants.{Gap}
use Rattle.mt_automaton.specs.Parts.{PartMatches, meant}
use Rattle.mt_automaton.specs.Bounds.{EndsBy}
use Rattle.mt_automaton.proofs.Bare.{Plain, bare_part}
use Rattle.mt_automaton.proofs.Turned.{Repeated}
use Rattle.mt_automaton.proofs.Bounded.{by_most, one_token, begin_stays, end_stays, both_end, repeated_most, repeated_ends, next_turn_ends, no_further, meet_plain}
use Rattle.mt_automaton.proofs.Gaps.{gap_most}
use Rattle.mt_automaton.proofs.bound.+part_end.Goals as goal

pub returns-in-Some : goal.returns-in-Some
returns-in-Some g t c =
    let v = g.V.View.seen c.args.view.now in
    rw c.in-Repeat.is
    (by_most (Plain (m.Repeated (m.Matches v.text (meant v c.in-Repeat.inner.value)) c.in-Repeat.field-1 c.in-Repeat.most)) v.text.tokens c.args.at c.saturating_mul.result c.ahead-in-Some.result
    (omega (arith, c.requires.at, c.requires.last)) (rw c.requires.last at c.ahead-in-Some.ensures)
    (repeated_most v c.in-Repeat.inner.value c.in-Repeat.field-1 c.in-Repeat.most 4294967295 c.in-Some.turn c.saturating_mul.result (omega (arith, c.requires.few, c.requires.last)) c.requires.inside
    c.saturating_mul.ensures (rw c.deref-in-Repeat.ensures at c.in-Some.ensures)))

pub returns-then-next-far : goal.returns-then-next-far
returns-then-next-far g t c =
    let v = g.V.View.seen c.args.view.now in
    let inner = c.in-Repeat.inner.value in
    rw c.in-Repeat.is
    (repeated_ends v inner c.in-Repeat.field-1 c.in-Repeat.most c.args.at c.loop.far
    (no_further v c.requires.inside (meant v inner) c.loop.counter c.in-Repeat.most c.args.at c.loop.far c.part_end-next.result c.if-next-far.true c.loop.invariant (rw c.deref-in-loop.ensures at c.part_end-next.ensures)))

pub loop-preserved : goal.loop-preserved
loop-preserved g t c =
    let v = g.V.View.seen c.args.view.now in
    next_turn_ends v c.requires.inside (meant v c.in-Repeat.inner.value) c.loop.counter c.args.at c.loop.far c.part_end-next.result c.loop.invariant (rw c.deref-in-loop.ensures at c.part_end-next.ensures)

pub returns-after-loop : goal.returns-after-loop
returns-after-loop g t c =
    let v = g.V.View.seen c.args.view.now in
    let inner = c.in-Repeat.inner.value in
    let end : c.loop.counter ≡ c.in-Repeat.most = omega arith in
    rw c.in-Repeat.is
    (repeated_ends v inner c.in-Repeat.field-1 c.in-Repeat.most c.args.at c.loop.far
    (subst (λ x. EndsBy (Repeated (PartMatches v inner) 0 x) v.text.tokens c.args.at c.loop.far) end c.loop.invariant))

pub returns-in-Token : goal.returns-in-Token
returns-in-Token g t c =
    let v = g.V.View.seen c.args.view.now in
    rw c.in-Token.is
    (by_most (Plain (m.IsToken v.text 0 (v.test c.in-Token.field-0))) v.text.tokens c.args.at 1 c.ahead.result (omega (arith, c.requires.at, c.requires.last)) (rw c.requires.last at c.ahead.ensures)
    (one_token v c.in-Token.field-0))

pub returns-in-Begin : goal.returns-in-Begin
returns-in-Begin g t c = rw c.in-Begin.is (begin_stays (g.V.View.seen c.args.view.now) c.in-Begin.field-0 c.args.at (omega (arith, c.requires.at, c.requires.last)))

pub returns-in-End : goal.returns-in-End
returns-in-End g t c = rw c.in-End.is (end_stays (g.V.View.seen c.args.view.now) c.in-End.field-0 c.args.at (omega (arith, c.requires.at, c.requires.last)))

pub returns-in-Seq : goal.returns-in-Seq
returns-in-Seq g t c =
    let v = g.V.View.seen c.args.view.now in
    let left = c.in-Seq.left.value in
    let right = c.in-Seq.right.value in
    rw c.in-Seq.is
    (both_end (m.Matches v.text (meant v left)) (m.Matches v.text (meant v right)) (bare_part v left) (bare_part v right) v.text.tokens c.args.at c.part_end-cut.result c.part_end.result
    (meet_plain v c.requires.inside (meant v left) (meant v right)) (rw c.deref.ensures at c.part_end-cut.ensures) (rw c.deref-in-Seq.ensures at c.part_end.ensures))

pub returns-in-Gap : goal.returns-in-Gap
returns-in-Gap g t c =
    let v = g.V.View.seen c.args.view.now in
    rw c.in-Gap.is
    (by_most (PartMatches v (Gap c.in-Gap.field-0 c.in-Gap.most)) v.text.tokens c.args.at c.in-Gap.most c.ahead-in-Gap.result (omega (arith, c.requires.at, c.requires.last)) (rw c.requires.last at c.ahead-in-Gap.ensures)
    (gap_most v c.in-Gap.field-0 c.in-Gap.most))
