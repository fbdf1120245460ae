use Rattle.std.proofs.Common.{◌∙◌, ap, Err}
use Rattle.mt_shell.specs.Serves.{Kept}
use Rattle.mt_shell.proofs.Adding.{faulty, unread}
use Rattle.mt_shell.proofs.state.State.text_of.Goals as goal

pub returns-in_default-clause-reply : goal.returns-in_default-clause-reply
returns-in_default-clause-reply g c = λ setting. unread setting c.args.self.now.held c.args.name.now c.args.bytes.now

pub returns-in-Ok-read_text-clause-text : goal.returns-in-Ok-read_text-clause-text
returns-in-Ok-read_text-clause-text g c = rw (c.in-Ok.ensures, c.registry.ensures.registry, ap (λ (k : Kept). k.held.registry) c.self.view_is) at c.in-Ok-read_text.ensures.ok

pub returns-in-Ok-read_text-clause-valid : goal.returns-in-Ok-read_text-clause-valid
returns-in-Ok-read_text-clause-valid g c = rw (c.registry.ensures.registry, ap (λ (k : Kept). k.held.registry) c.self.view_is) at c.in-Ok-read_text.ensures.valid

pub returns-in-Err-Bad-clause-reply : goal.returns-in-Err-Bad-clause-reply
returns-in-Err-Bad-clause-reply g c = λ setting. faulty setting c.args.self.now.held c.args.name.now c.args.bytes.now c.in-Err-Bad.line.line _ c.refused.result
    (rw (c.registry.ensures.registry, ap (λ (k : Kept). k.held.registry) c.self.view_is) at (c.read_text.ensures.bad c.in-Err-Bad.line (c.in-Err-Bad.is ∙ ap Err c.in-Err-Bad.field-0-is))) c.refused.ensures

pub returns-in-Err-NoMemory-clause-reply : goal.returns-in-Err-NoMemory-clause-reply
returns-in-Err-NoMemory-clause-reply g c = λ setting. unread setting c.args.self.now.held c.args.name.now c.args.bytes.now
