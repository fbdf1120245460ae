use Rattle.std.proofs.Common.{ap}
use Rattle.mt_counts.proofs.Hashing.{four_joined}
use Rattle.mt_counts.proofs.hasher.PairHasherHasher.write_u32.Goals as goal

pub returns : goal.returns
returns c = ap (λ (n : _). record { last = n }) (four_joined c.args.self.now.last c.args.number c.ranges.number.fits)
