use Rattle.mt_prepare.proofs.Views.{seen_for}
use Rattle.mt_prepare.proofs.view.views_are_seen.Goals as goal

pub returns : goal.returns
returns c = seen_for
