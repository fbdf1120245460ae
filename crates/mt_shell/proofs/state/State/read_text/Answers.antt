use denote.Param.Send.{param_sync, arg_sync, given_sync}
use Rattle.std.proofs.Common.{ℕ, List, sym, subst}
use Rattle.mt_session_spec.specs.World.{Holds}
use Rattle.mt_shell.proofs.Adding.{segment_is, sound, unread}
use Rattle.mt_shell.proofs.state.State.read_text.Goals as goal

pub keep_read-requires-sync-R : goal.keep_read-requires-sync-R
keep_read-requires-sync-R g c = λ κs h.
    let s = segment_is c.args.self.now.held.registry c.args.name.now c.args.bytes.now c.in-Ok-Some.field-0 c.in-Ok-Some.segment c.in-Ok-Some.field-0-is c.in-Ok-Some.ensures in (
      h.0,
      (
        h.1.0,
        (
          h.1.1,
          (
            param_sync 2 _ (arg_sync _ _ g.row.R (given_sync 3 g.row.R c.requires.1.1.1.1.1.0)),
            ((c.args.name.now, c.args.bytes.now, c.requires.1.1.1.1.1.1.1.0, s), c.requires.1.1.1.1.1.1.1.1.taken),
          ),
        ),
      ),
    )

pub keep_text-requires : goal.keep_text-requires
keep_text-requires g c = λ κs h.
    let free = subst (λ (n : List ℕ). Holds c.args.self.now.held n → ⊥) (sym c.in-Ok.ensures.text.named) c.requires.1.1.1.1.1.1.1.0 in
    (h.0, (h.1.0, (h.1.1.0, (h.1.1.1, (c.requires.1.1.1.1.0, (c.requires.1.1.1.1.1.0, (free, (c.in-Ok.ensures.valid, c.requires.1.1.1.1.1.1.1.1))))))))

pub returns-in-Ok-clause-means : goal.returns-in-Ok-clause-means
returns-in-Ok-clause-means g c =
    sound g.setting c.args.self.now.held c.keep_text.new.self.held c.args.name.now c.args.bytes.now c.in-Ok.text c.keep_text.result c.in-Ok.ensures.text c.keep_text.ensures.means

pub returns-in-Err-clause-means : goal.returns-in-Err-clause-means
returns-in-Err-clause-means g c = unread g.setting c.args.self.now.held c.args.name.now c.args.bytes.now
