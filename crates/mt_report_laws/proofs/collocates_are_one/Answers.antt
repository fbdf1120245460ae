use Rattle.mt_report_laws.proofs.Reported.{collocates_one}
use Rattle.mt_report_laws.proofs.collocates_are_one.Goals as goal

pub returns : goal.returns
returns c = collocates_one
