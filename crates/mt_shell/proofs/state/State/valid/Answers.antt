use Rattle.std.proofs.Common.{subst}
use Rattle.mt_session_spec.specs.World.{ValidHeld}
use Rattle.mt_shell.specs.Serves.{Kept}
use Rattle.mt_shell.proofs.state.State.valid.Goals as goal

pub returns : goal.returns
returns g c = subst (λ (k : Kept). ValidHeld k.held) c.self.view_is c.self.invariant.held
