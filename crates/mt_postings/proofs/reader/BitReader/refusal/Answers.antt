use Rattle.std.proofs.Common.{◌^◌, ◌+◌, ◌-◌, ◌*◌, ◌/◌, ap, arith, refl}
use Rattle.mt_postings.proofs.Heads.{head_of, code_value, zeros_cut, six_zeros, head_cut, head_large, last_cut, left_length}
use Rattle.mt_postings.proofs.reader.BitReader.refusal.Goals as goal

pub returns-then-left-lt6 : goal.returns-then-left-lt6
returns-then-left-lt6 c =
    let n = left_length c.self.inside.bytes.now c.self.inside.at c.args.self.now c.self.view_is in
    (ap (λ u. u.place) c.self.view_is, zeros_cut c.args.word c.args.self.now.left c.requires.shown c.if-word-eq0.true (omega arith))

pub returns-else-left-lt6 : goal.returns-else-left-lt6
returns-else-left-lt6 c =
    let n = left_length c.self.inside.bytes.now c.self.inside.at c.args.self.now c.self.view_is in
    (ap (λ u. u.place) c.self.view_is, six_zeros c.args.word c.args.self.now.left c.requires.shown c.if-word-eq0.true (omega arith))

pub returns-then-left-head : goal.returns-then-left-head
returns-then-left-head c =
    let n = left_length c.self.inside.bytes.now c.self.inside.at c.args.self.now c.self.view_is in
    let h = head_of c.args.word c.ilog2.result c.ilog2.ensures.power_le c.ilog2.ensures.next_power_gt c.ilog2.ensures.bound c.if-word-eq0.false in
    (ap (λ u. u.place) c.self.view_is, head_cut c.args.word (63 - c.ilog2.result) c.args.self.now.left c.requires.shown h (omega arith))

pub returns-then-word-head-gt32 : goal.returns-then-word-head-gt32
returns-then-word-head-gt32 c =
    let n = left_length c.self.inside.bytes.now c.self.inside.at c.args.self.now c.self.view_is in
    let h = head_of c.args.word c.ilog2.result c.ilog2.ensures.power_le c.ilog2.ensures.next_power_gt c.ilog2.ensures.bound c.if-word-eq0.false in
    (ap (λ u. u.place) c.self.view_is, head_large c.args.word (63 - c.ilog2.result) c.args.self.now.left c.requires.shown h (omega arith) c.if-word-head-gt32.true)

pub returns : goal.returns
returns c =
    let z = 63 - c.ilog2.result in
    let g = c.args.word / 2 ^ (64 - (2 * z + 1)) in
    let h = head_of c.args.word c.ilog2.result c.ilog2.ensures.power_le c.ilog2.ensures.next_power_gt c.ilog2.ensures.bound c.if-word-eq0.false in
    let v = code_value c.args.word z g h refl c.if-word-head-gt32.false in
    (ap (λ u. u.place) c.self.view_is, last_cut c.args.word z g c.args.self.now.left c.requires.shown h v c.if-word-head-gt32.false c.requires.none)
