use Rattle.mt_report_laws.proofs.Reported.{frequencies_one}
use Rattle.mt_report_laws.proofs.frequencies_are_one.Goals as goal

pub returns : goal.returns
returns c = frequencies_one
