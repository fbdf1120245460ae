use Rattle.std.proofs.Common.{sym}
use Rattle.mt_segment.proofs.Mappings.{number_is, is_there, one_less, none_there}
use Rattle.mt_segment.proofs.mapped.find.Goals as goal

pub returns-then-eq-clause-found : goal.returns-then-eq-clause-found
returns-then-eq-clause-found g c =
    number_is g.M.Mapper.called c.args.mappers.now c.args.name.now c.loop-at.at c.index-mappers-at.result c.name.result.now c.loop-at.invariant c.loop-at-test.true c.index-mappers-at.is c.name.ensures (sym c.if-eq.ensures)

pub loop-at-preserved : goal.loop-at-preserved
loop-at-preserved g c =
    one_less g.M.Mapper.called c.args.mappers.now c.args.name.now c.loop-at.at c.index-mappers-at.result c.name.result.now c.loop-at.invariant c.loop-at-test.true c.index-mappers-at.is c.name.ensures (sym c.if-eq.ensures)

pub returns-clause-none : goal.returns-clause-none
returns-clause-none g c = none_there g.M.Mapper.called c.args.mappers.now c.args.name.now c.loop-at.at c.loop-at.invariant c.loop-at-test.false

pub returns-then-eq-clause-there : goal.returns-then-eq-clause-there
returns-then-eq-clause-there g c =
    is_there g.M.Mapper.called c.args.mappers.now c.args.name.now c.loop-at.at c.index-mappers-at.result c.name.result.now c.loop-at-test.true c.index-mappers-at.is c.name.ensures (sym c.if-eq.ensures)
