use Rattle.std.proofs.Common.{rules, option_copied}
use Rattle.mt_answer.proofs.asking.answer.Goals as goal

pub returns-in-Freq : goal.returns-in-Freq
returns-in-Freq g c = let h = c.freq.ensures (option_copied c.args.counts) in search rules

pub returns-in-Colloc : goal.returns-in-Colloc
returns-in-Colloc g c = let h = c.colloc.ensures (option_copied c.args.counts) in search rules
