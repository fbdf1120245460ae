use Rattle.mt_instances.proofs.Lines.{go_on}
use Rattle.mt_instances.proofs.laws.lines_go_on.Goals as goal

pub returns : goal.returns
returns c = λ images registry text lines relation query rows old new. go_on images registry text lines relation query rows old new
