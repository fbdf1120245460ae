use Rattle.mt_registry.proofs.RegistryLines.{noted, passed}
use Rattle.mt_registry.proofs.lines.Reader.judge.Goals as goal

pub returns-then-is_refused-clause-refused : goal.returns-then-is_refused-clause-refused
returns-then-is_refused-clause-refused c = noted _ c.args.self.now.refused c.in-None.is (c.is_refused.ensures.0 c.if-is_refused.true)

pub returns-else-is_refused-clause-refused : goal.returns-else-is_refused-clause-refused
returns-else-is_refused-clause-refused c = passed _ c.args.self.now.refused c.in-None.is (λ bad. let said = c.is_refused.ensures.1 bad in let not_so = c.if-is_refused.false in cc)
