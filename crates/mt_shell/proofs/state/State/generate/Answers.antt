use denote.Param.Send.{param_sync, arg_sync, given_sync}
use Rattle.std.proofs.Common.{rules}
use Rattle.std.proofs.Common.{refl, subst}
use Rattle.mt_session_spec.specs.World.{ValidHeld}
use Rattle.mt_shell.specs.Serves.{Kept}
use Rattle.mt_shell.proofs.Generating.{generate_kept, generate_taken, generate_starved, generate_read, valid_there}
use Rattle.mt_shell.proofs.Meanings.{not_true}
use Rattle.mt_shell.proofs.state.State.generate.Goals as goal

pub returns-then-holds-clause-means : goal.returns-then-holds-clause-means
returns-then-holds-clause-means g c = generate_taken g.setting c.args.self.now.held c.args.name.now c.args.seed c.args.tokens c.refused.result (c.if-holds.ensures.0 refl) (rw c.as_str.ensures at c.refused.ensures)

pub keep_generated-requires-sync-R : goal.keep_generated-requires-sync-R
keep_generated-requires-sync-R g c = λ κs h.
    let (standard, few) = c.if-needs_no_vertical.ensures refl in
    (h.0, (h.1.0, (h.1.1, (param_sync 2 _ (arg_sync _ _ g.row.R (given_sync 3 g.row.R c.requires.1.1.1.1.1.0)), (λ held. not_true (c.if-holds.ensures.1 held), (standard, (valid_there c.valid_texts.ensures c.args.self.now.held.registry c.args.name.now c.args.seed c.args.tokens standard c.requires.1.1.1.1.1.1.0 few, c.requires.1.1.1.1.1.1.1.taken)))))))

pub returns-then-needs_no_vertical-clause-means : goal.returns-then-needs_no_vertical-clause-means
returns-then-needs_no_vertical-clause-means g c =
    let (standard, few) = c.if-needs_no_vertical.ensures refl in
    generate_kept (record { one_text = c.one_text.ensures; no_fault = c.no_text_with_fault.ensures }) c.reads_back.ensures g.setting c.args.self.now.held c.keep_generated.new.self.held c.args.name.now c.args.seed c.args.tokens
    c.keep_generated.result (subst (λ (k : Kept). ValidHeld k.held) c.self.view_is c.self.invariant.held).registry (λ h. not_true (c.if-holds.ensures.1 h)) standard c.requires.1.1.1.1.1.1.0 few c.keep_generated.ensures.means

pub returns-in_default-clause-means : goal.returns-in_default-clause-means
returns-in_default-clause-means g c = generate_starved g.setting c.args.self.now.held c.args.name.now c.args.seed c.args.tokens

pub returns-clause-means : goal.returns-clause-means
returns-clause-means g c =
    generate_read (record { one_text = c.one_text.ensures; no_fault = c.no_text_with_fault.ensures }) g.setting c.args.self.now.held c.read_text.new.self.held c.args.name.now c.args.seed c.args.tokens c.as_slice.result.now c.read_text.result
    (subst (λ (k : Kept). ValidHeld k.held) c.self.view_is c.self.invariant.held).registry (λ h. not_true (c.if-holds.ensures.1 h)) (rw c.as_slice.ensures (rw c.as_str-2.ensures at c.in-Ok.ensures)) c.read_text.ensures.means

pub read_text-requires : goal.read_text-requires
read_text-requires g c = λ κs h. (h.0, (h.1.0, (h.1.1.0, (h.1.1.1, (c.requires.1.1.1.1.0, (c.requires.1.1.1.1.1.0, search rules))))))
