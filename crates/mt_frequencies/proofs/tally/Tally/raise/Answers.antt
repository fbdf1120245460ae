use Rattle.std.proofs.Common.{[], get_or, arith, ap}
use Rattle.std.proofs.lemmas.Option.{slice_get-get_or}
use Rattle.mt_frequencies.specs.declared.tally.Count.{Count}
use Rattle.mt_frequencies.proofs.Amounts.{raised_at}
use Rattle.mt_frequencies.proofs.Counted.{got}
use Rattle.mt_frequencies.proofs.tally.Tally.raise.Goals as goal

pub raised-requires-clause-few : goal.raised-requires-clause-few
raised-requires-clause-few c =
    let value = get_or c.args.self.now.values c.args.number [] in
    let at = slice_get-get_or c.args.self.now.values c.args.number [] c.requires.number in
    let own = got c.args.self.now c.self.inside.values.keys c.self.inside.counts.items c.args.number c.index.result.now value c.self.view_is c.len.ensures.distinct c.self.invariant.0 c.index.ensures at in
    omega (arith, c.requires.few value at, ap (λ (count : Count). count.last) own)

pub returns-clause-raised : goal.returns-clause-raised
returns-clause-raised c =
    raised_at c.args.self.now c.self.inside.values.keys c.self.inside.counts.items c.args.number c.args.more c.index.result.now c.raised.result c.self.view_is c.len.ensures.distinct c.self.invariant.0 c.index.ensures c.raised.ensures.raised
