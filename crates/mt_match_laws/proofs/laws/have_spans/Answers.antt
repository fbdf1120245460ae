use Rattle.mt_match_laws.proofs.Keeping.{spans_listed}
use Rattle.mt_match_laws.proofs.laws.have_spans.Goals as goal

pub returns : goal.returns
returns c = spans_listed
