use Rattle.std.proofs.Common.{ℕ, List, subst}
use Rattle.mt_pattern.specs.Plain.{AcceptsJust}
use Rattle.mt_prepare.proofs.tests_resolved.by_number.Goals as goal

pub numbered-requires-clause-just : goal.numbered-requires-clause-just
numbered-requires-clause-just g c = subst (λ (lexicon : List (List ℕ)). AcceptsJust c.args.pattern.now lexicon c.own_number-id.result) c.lexicon.ensures c.own_number-id.ensures
