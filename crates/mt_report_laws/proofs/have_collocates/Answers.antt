use Rattle.mt_report_laws.proofs.Reported.{collocates_there}
use Rattle.mt_report_laws.proofs.have_collocates.Goals as goal

pub returns : goal.returns
returns c = collocates_there
