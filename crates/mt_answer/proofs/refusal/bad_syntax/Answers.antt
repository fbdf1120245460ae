use Rattle.std.proofs.Common.{rules, append_assoc}
use Rattle.mt_answer.proofs.refusal.bad_syntax.Goals as goal

pub returns : goal.returns
returns c = let h = c.in_ok-format.ensures in search (rules, append_assoc)
