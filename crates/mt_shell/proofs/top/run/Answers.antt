use Rattle.mt_segment.specs.Mappers.{named}
use Rattle.mt_shell.specs.Outsides.{outside}
use Rattle.mt_shell.specs.Serves.{setting_of}
use Rattle.mt_shell.proofs.Demos.{starved_ends}
use Rattle.mt_shell.proofs.top.run.Goals as goal

pub returns-clause-ends : goal.returns-clause-ends
returns-clause-ends g c = λ options good.
    starved_ends (setting_of (named g.M.Mapper.called g.M.Mapper.image c.args.mappers.items)) options.demo
    (outside (g.S.Source.left c.args.source.now) (g.S.Source.faults c.args.source.now) (g.K.Sink.held c.args.sink.now) (g.K.Sink.faults c.args.sink.now) (g.F.Shelf.files c.args.shelf.now) (g.F.Shelf.failed c.args.shelf.now) (g.P.PatternShop.refused c.args.shop.now))
