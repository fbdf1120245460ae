use Rattle.mt_script.proofs.LineForms.{one_header}
use Rattle.mt_script.proofs.laws.one_header.Goals as goal

pub returns : goal.returns
returns c = one_header
