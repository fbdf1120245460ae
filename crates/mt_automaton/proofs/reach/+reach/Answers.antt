use Rattle.std.proofs.Common.{◌≡◌, arith, subst}
use Rattle.mt_match_spec.specs.Matches.{Matches}
use Rattle.mt_automaton.specs.Parts.{PartMatches, meant}
use Rattle.mt_automaton.specs.Ways.{Image, Along}
use Rattle.mt_automaton.proofs.Bare.{Plain, bare_part}
use Rattle.mt_automaton.proofs.Images.{begin, end, choice, seq_on, seq_back}
use Rattle.mt_automaton.proofs.Forward.{meet_plain}
use Rattle.mt_automaton.proofs.Turned.{Repeated, no_turn, unturned, next_turn, meets, run_dry, repeated}
use Rattle.mt_automaton.proofs.reach.+reach.Goals as goal

pub loop-k-init : goal.loop-k-init
loop-k-init g t c =
    let R = Along c.args.way (PartMatches (g.V.View.seen c.args.view.now) c.in-Repeat.inner.value) in
    record {
      turned = no_turn R c.in-Repeat.least c.args.set;
      counted = unturned R c.in-Repeat.least c.args.set c.in_ok-all-in-Repeat.all c.in_ok-all-in-Repeat.ensures.width c.in_ok-all-in-Repeat.ensures.places;
    }

pub loop-k-preserved : goal.loop-k-preserved
loop-k-preserved g t c =
    let v = g.V.View.seen c.args.view.now in
    let R = Along c.args.way (PartMatches v c.in-Repeat.inner.value) in
    next_turn R c.in-Repeat.least c.loop-k.k c.args.set c.loop-k.turn c.loop-k.all c.in_ok-turn-in-Repeat.turn c.count.new.turn c.count.new.all
    (meets c.args.way v c.requires.inside (meant v c.in-Repeat.inner.value) c.args.set c.requires.set) c.loop-k.invariant (rw c.deref-in-loop-k.ensures at c.in_ok-turn-in-Repeat.ensures) c.count.ensures.few c.count.ensures.enough

pub returns-then-is_empty : goal.returns-then-is_empty
returns-then-is_empty g t c =
    let v = g.V.View.seen c.args.view.now in
    let M = Matches v.text (meant v c.in-Repeat.inner.value) in
    rw c.in-Repeat.is (
    repeated c.args.way M c.in-Repeat.least c.in-Repeat.most c.args.set c.loop-k.all (bare_part v c.in-Repeat.inner.value)
    (run_dry (Along c.args.way (Plain M)) c.in-Repeat.least c.loop-k.k c.in-Repeat.most c.args.set c.loop-k.turn c.loop-k.all (omega arith)
    (meets c.args.way v c.requires.inside (meant v c.in-Repeat.inner.value) c.args.set c.requires.set) (c.is_empty.ensures.none c.if-is_empty.true) c.loop-k.invariant)
    )

pub returns-in-Begin : goal.returns-in-Begin
returns-in-Begin g t c = rw c.in-Begin.is (begin c.args.way (g.V.View.seen c.args.view.now) c.in-Begin.tag c.args.set c.marked.result c.requires.inside c.requires.set c.marked.ensures.width c.marked.ensures.places)

pub returns-in-End : goal.returns-in-End
returns-in-End g t c = rw c.in-End.is (end c.args.way (g.V.View.seen c.args.view.now) c.in-End.tag c.args.set c.marked-in-End.result c.requires.inside c.requires.set c.marked-in-End.ensures.width c.marked-in-End.ensures.places)

pub returns-in_ok-cut-in-On : goal.returns-in_ok-cut-in-On
returns-in_ok-cut-in-On g t c =
    let v = g.V.View.seen c.args.view.now in
    let left = c.in-Seq.left.value in
    let right = c.in-Seq.right.value in
    rw c.in-Seq.is
    (seq_on c.args.way (Matches v.text (meant v left)) (Matches v.text (meant v right)) (bare_part v left) (bare_part v right) c.args.set c.in_ok-cut-in-On.cut c.reach-in-On.result (meet_plain v c.requires.inside (meant v left) (meant v right) c.args.set c.requires.set) c.in-On.is
    (rw c.deref.ensures at c.in_ok-cut-in-On.ensures) (rw c.deref-in-On.ensures at c.reach-in-On.ensures))

pub returns-in_ok-cut-in-Back : goal.returns-in_ok-cut-in-Back
returns-in_ok-cut-in-Back g t c =
    let v = g.V.View.seen c.args.view.now in
    let left = c.in-Seq.left.value in
    let right = c.in-Seq.right.value in
    rw c.in-Seq.is
    (seq_back c.args.way (Matches v.text (meant v left)) (Matches v.text (meant v right)) (bare_part v left) (bare_part v right) c.args.set c.in_ok-cut-in-Back.cut c.reach-in-Back-2.result (meet_plain v c.requires.inside (meant v left) (meant v right) c.args.set c.requires.set) c.in-Back.is
    (rw c.deref-in-Back.ensures at c.in_ok-cut-in-Back.ensures) (rw c.deref-in-Back-2.ensures at c.reach-in-Back-2.ensures))

pub returns-in_ok-more-in-Choice : goal.returns-in_ok-more-in-Choice
returns-in_ok-more-in-Choice g t c =
    let v = g.V.View.seen c.args.view.now in
    rw c.in-Choice.is
    (choice c.args.way (PartMatches v c.in-Choice.left.value) (PartMatches v c.in-Choice.right.value) c.args.set c.in_ok-all-in-Choice.all c.in_ok-more-in-Choice.more c.joined.result
    (rw c.deref-in-Choice.ensures at c.in_ok-all-in-Choice.ensures) (rw (c.in_ok-again-in-Choice.ensures, c.deref-in-Choice-2.ensures) at c.in_ok-more-in-Choice.ensures) c.joined.ensures.width c.joined.ensures.places)

pub returns-after-loop-k : goal.returns-after-loop-k
returns-after-loop-k g t c =
    let v = g.V.View.seen c.args.view.now in
    let M = Matches v.text (meant v c.in-Repeat.inner.value) in
    let end : c.loop-k.k ≡ c.in-Repeat.most = omega arith in
    rw c.in-Repeat.is
    (repeated c.args.way M c.in-Repeat.least c.in-Repeat.most c.args.set c.loop-k.all (bare_part v c.in-Repeat.inner.value) (subst (λ x. Image (Repeated (Along c.args.way (Plain M)) c.in-Repeat.least x) c.args.set c.loop-k.all) end c.loop-k.invariant.counted))
