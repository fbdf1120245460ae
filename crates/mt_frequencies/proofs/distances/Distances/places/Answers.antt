use Rattle.std.proofs.Common.{arith}
use Rattle.mt_frequencies.proofs.Placed.{placed}
use Rattle.mt_frequencies.proofs.distances.Distances.places.Goals as goal

pub returns-clause-places : goal.returns-clause-places
returns-clause-places c =
    placed c.args.tokens c.args.first c.args.last c.args.self.now c.requires.distances c.saturating_sub.result c.saturating_sub-2.result c.min.result c.min-2.result
    (omega (arith, c.saturating_sub.ensures)) (omega (arith, c.saturating_sub-2.ensures)) (omega (arith, c.min.ensures, c.saturating_add.ensures)) (omega (arith, c.min-2.ensures, c.saturating_add-2.ensures))
