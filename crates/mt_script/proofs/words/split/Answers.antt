use Rattle.mt_script.proofs.Forms.{split_result}
use Rattle.mt_script.proofs.words.split.Goals as goal

pub returns : goal.returns
returns c = split_result c.args.words.now c.split_once.result c.split_once.ensures.cases
