use Rattle.mt_report_laws.proofs.Reported.{frequencies_there}
use Rattle.mt_report_laws.proofs.have_frequencies.Goals as goal

pub returns : goal.returns
returns c = frequencies_there
