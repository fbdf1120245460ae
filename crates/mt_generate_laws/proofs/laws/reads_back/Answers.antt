use Rattle.mt_generate_laws.proofs.ReadBack.{read_back}
use Rattle.mt_generate_laws.proofs.laws.reads_back.Goals as goal

pub returns : goal.returns
returns c = read_back
