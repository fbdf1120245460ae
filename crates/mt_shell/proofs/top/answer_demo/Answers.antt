use Rattle.mt_generate_spec.specs.Demo.{demo_script}
use Rattle.mt_segment.specs.Mappers.{named}
use Rattle.mt_shell.specs.Ends.{IsTheAnswer}
use Rattle.mt_shell.specs.Outsides.{outside}
use Rattle.mt_shell.specs.Serves.{setting_of}
use Rattle.mt_shell.proofs.Demos.{over_demo}
use Rattle.mt_shell.proofs.Endings.{nothing_read}
use Rattle.std.proofs.Common.{None, ◌≡◌, ◌∙◌}
use Rattle.mt_shell.proofs.top.answer_demo.Goals as goal

pub returns-in_default-clause-ends : goal.returns-in_default-clause-ends
returns-in_default-clause-ends g c = (demo_script c.args.number, λ input h written k. nothing_read input written _ h k)

pub returns-clause-one : goal.returns-clause-one
returns-clause-one g c = λ done.
    let same : c.new-script.result ≡ demo_script c.args.number = c.new-script.ensures ∙ c.in-Ok.ensures in
    over_demo c.args.number c.new-script.result c.answer_script.new.source (IsTheAnswer (setting_of (named g.M.Mapper.called g.M.Mapper.image c.args.mappers.items)))
    (outside None 0 (g.K.Sink.held c.args.sink.now) (g.K.Sink.faults c.args.sink.now) (g.F.Shelf.files c.args.shelf.now) (g.F.Shelf.failed c.args.shelf.now) (g.P.PatternShop.refused c.args.shop.now))
    (outside None 0 (g.K.Sink.held c.answer_script.new.sink) (g.K.Sink.faults c.answer_script.new.sink) (g.F.Shelf.files c.answer_script.new.shelf) (g.F.Shelf.failed c.answer_script.new.shelf) (g.P.PatternShop.refused c.answer_script.new.shop))
    same (c.answer_script.ensures.one done)
