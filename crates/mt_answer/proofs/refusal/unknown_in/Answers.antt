use Rattle.std.proofs.Common.{rules, append_assoc}
use Rattle.mt_answer.proofs.refusal.unknown_in.Goals as goal

pub returns : goal.returns
returns c = let h = c.in_ok-format.ensures in search (rules, append_assoc)
