use Rattle.std.proofs.Common.{ℕ, List, subst}
use Rattle.std.specs.List.{All, Contains}
use Rattle.mt_prepare.proofs.judges.Values.finish.Goals as goal

pub returns : goal.returns
returns c = subst (λ (values : List (List ℕ)). All (Contains c.in_ok-finish.field-0.0) values) c.self.view_is c.in_ok-finish.ensures.lexicon.all
