use Rattle.std.specs.Prelude.{string_bytes}
use Rattle.mt_base.proofs.Blocks.{pieces-push, AreEnds-push}
use Rattle.mt_base.proofs.strings.Strings.push.Goals as goal

pub invariant_of-self-in-Ok : goal.invariant_of-self-in-Ok
invariant_of-self-in-Ok c = rw (c.in-Ok.ensures.bytes, c.in_ok-push.ensures.items, c.in_ok-end.ensures, c.as_str.ensures.value) (AreEnds-push (string_bytes c.self.inside.block) c.args.text.now 0 c.self.inside.ends.items c.utf8.text c.self.invariant)

pub returns-in-Ok-clause-ok : goal.returns-in-Ok-clause-ok
returns-in-Ok-clause-ok c = rw (c.in-Ok.ensures.bytes, c.in_ok-push.ensures.items, c.in_ok-end.ensures, c.as_str.ensures.value, ← c.self.view_is) (pieces-push (string_bytes c.self.inside.block) c.args.text.now 0 c.self.inside.ends.items c.self.invariant)
