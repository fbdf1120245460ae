use Rattle.std.proofs.Common.{◌≡◌, drop, ap, arith}
use Rattle.mt_store_spec.specs.Codes.{bits}
use Rattle.mt_postings.proofs.Heads.{left_length, holds_none}
use Rattle.mt_postings.proofs.reader.BitReader.move_to.Goals as goal

pub invariant_of-self : goal.invariant_of-self
invariant_of-self c =
    let n = left_length c.self.inside.bytes.now c.self.inside.at c.args.self.now c.self.view_is in
    let p : c.self.inside.at ≡ c.args.self.now.place = ap (λ u. u.place) c.self.view_is in
    let i = c.self.invariant.0 in
    let w = c.requires.within in
    (omega arith, c.self.invariant.1, holds_none (drop c.args.bit (bits c.self.inside.bytes.now)))
