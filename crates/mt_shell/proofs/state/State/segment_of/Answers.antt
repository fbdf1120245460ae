use Rattle.std.proofs.Common.{◌∙◌, ap}
use Rattle.mt_shell.specs.Serves.{Kept}
use Rattle.mt_shell.proofs.Adding.{segment_found}
use Rattle.mt_shell.proofs.state.State.segment_of.Goals as goal

pub returns : goal.returns
returns g c = segment_found c.registry.result.now c.args.self.now.held.registry c.args.name.now c.args.bytes.now c.read_tables.result (c.registry.ensures.registry ∙ ap (λ (k : Kept). k.held.registry) c.self.view_is) c.read_tables.ensures
