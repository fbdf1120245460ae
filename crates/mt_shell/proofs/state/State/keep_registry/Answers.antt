use Rattle.mt_shell.specs.Holding.{grammar_of}
use Rattle.mt_segment.specs.Mappers.{named}
use Rattle.mt_shell.proofs.Dropping.{named_left}
use Rattle.mt_shell.proofs.Registering.{set, set_not, registry_changed, serves_registry, names_there}
use Rattle.mt_shell.proofs.state.State.keep_registry.Goals as goal

pub returns-in_default-clause-means : goal.returns-in_default-clause-means
returns-in_default-clause-means g c = set_not c.args.self.now.held c.args.registry

pub returns-clause-means : goal.returns-clause-means
returns-clause-means g c = rw c.hold_none.ensures (set c.args.self.now.held _ c.args.registry c.in-Ok.line c.in-Ok.ensures
    (registry_changed c.args.self.now c.self.inside.accepted (grammar_of c.self.inside.rules) c.self.inside.corpus c.new.result c.args.registry c.self.view_is c.new.ensures))

pub returns-clause-serves : goal.returns-clause-serves
returns-clause-serves g c =
    rw c.hold_none.ensures (serves_registry g.setting (named g.M.Mapper.called g.M.Mapper.image c.args.mappers.now.items) (named g.M.Mapper.called g.M.Mapper.image c.keep_named.new.mappers.items) c.args.self.now c.args.registry c.new.result c.new.ensures
    c.requires.1.1.1.1.1.1.1 c.requires.1.1.1.1.1.1.0 (names_there g.M.Mapper.called g.M.Mapper.image c.keep_named.new.mappers.items c.args.registry (c.keep_named.ensures.there c.requires.1.1.1.1.1.0)) c.keep_named.ensures.images
    (named_left g.M.Mapper.called g.M.Mapper.image c.args.registry c.args.mappers.now.items c.keep_named.new.mappers.items c.keep_named.ensures.kept))
