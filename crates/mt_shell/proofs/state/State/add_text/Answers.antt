use Rattle.std.proofs.Common.{rules}
use Rattle.std.proofs.Common.{refl, subst}
use Rattle.mt_session_spec.specs.World.{ValidHeld}
use Rattle.mt_shell.specs.Serves.{Kept}
use Rattle.mt_shell.proofs.Adding.{text_taken, text_read}
use Rattle.mt_shell.proofs.Meanings.{not_true}
use Rattle.mt_shell.proofs.state.State.add_text.Goals as goal

pub returns-then-holds-clause-means : goal.returns-then-holds-clause-means
returns-then-holds-clause-means g c = text_taken g.setting c.args.self.now.held c.args.name.now c.args.body.now c.refused.result (c.if-holds.ensures.0 refl) (rw c.as_str.ensures at c.refused.ensures)

pub returns-clause-means : goal.returns-clause-means
returns-clause-means g c =
    text_read (record { one_text = c.one_text.ensures; no_fault = c.no_text_with_fault.ensures }) g.setting c.args.self.now.held c.read_text.new.self.held c.args.name.now c.args.body.now c.read_text.result
    (subst (λ (k : Kept). ValidHeld k.held) c.self.view_is c.self.invariant.held).registry (λ h. not_true (c.if-holds.ensures.1 h)) c.read_text.ensures.means

pub read_text-requires : goal.read_text-requires
read_text-requires g c = λ κs h. (h.0, (h.1.0, (h.1.1.0, (h.1.1.1, (c.requires.1.1.1.1.0, (c.requires.1.1.1.1.1.0, search rules))))))
