use Rattle.mt_shell.proofs.Scripts.{the_law}
use Rattle.mt_shell.proofs.laws.ends_are_answers.Goals as goal

pub returns : goal.returns
returns c = the_law c.items_are_said.ensures c.replies_are_answers.ensures
