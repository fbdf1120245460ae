use Rattle.std.proofs.Common.{arith}
use Rattle.mt_match_spec.specs.Matches.{Matches}
use Rattle.mt_automaton.specs.Parts.{meant}
use Rattle.mt_automaton.proofs.Bare.{bare_part}
use Rattle.mt_automaton.proofs.Bounded.{one_token, none_at_begin, none_at_end, both_most, repeated_most, meet_plain}
use Rattle.mt_automaton.proofs.Gaps.{gap_most}
use Rattle.mt_automaton.proofs.bound.+longest.Goals as goal

pub returns-in-Token : goal.returns-in-Token
returns-in-Token g t c = rw c.in-Token.is (one_token (g.V.View.seen c.args.view.now) c.in-Token.field-0)

pub returns-in-Begin : goal.returns-in-Begin
returns-in-Begin g t c = rw c.in-Begin.is (none_at_begin (g.V.View.seen c.args.view.now) c.in-Begin.field-0)

pub returns-in-End : goal.returns-in-End
returns-in-End g t c = rw c.in-End.is (none_at_end (g.V.View.seen c.args.view.now) c.in-End.field-0)

pub returns-in_ok-second-in-Seq : goal.returns-in_ok-second-in-Seq
returns-in_ok-second-in-Seq g t c =
    let v = g.V.View.seen c.args.view.now in
    let left = c.in-Seq.left.value in
    let right = c.in-Seq.right.value in
    rw c.in-Seq.is
    (both_most (Matches v.text (meant v left)) (Matches v.text (meant v right)) (bare_part v left) (bare_part v right) v.text.tokens 4294967295 c.in_ok-first-in-Seq.first c.in_ok-second-in-Seq.second
    c.saturating_add.result (omega (arith, c.requires.few)) (meet_plain v c.requires.inside (meant v left) (meant v right)) c.saturating_add.ensures
    (rw c.deref.ensures at c.in_ok-first-in-Seq.ensures) (rw c.deref-in-Seq.ensures at c.in_ok-second-in-Seq.ensures))

pub returns-in_ok-turn-in-Repeat : goal.returns-in_ok-turn-in-Repeat
returns-in_ok-turn-in-Repeat g t c =
    let v = g.V.View.seen c.args.view.now in
    rw c.in-Repeat.is
    (repeated_most v c.in-Repeat.inner.value c.in-Repeat.field-1 c.in-Repeat.most 4294967295 c.in_ok-turn-in-Repeat.turn c.saturating_mul.result (omega (arith, c.requires.few)) c.requires.inside c.saturating_mul.ensures
    (rw c.deref-in-Repeat.ensures at c.in_ok-turn-in-Repeat.ensures))

pub returns-in-Gap : goal.returns-in-Gap
returns-in-Gap g t c = rw c.in-Gap.is (gap_most (g.V.View.seen c.args.view.now) c.in-Gap.field-0 c.in-Gap.most)
