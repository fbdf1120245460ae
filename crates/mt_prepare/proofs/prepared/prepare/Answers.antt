use Rattle.std.proofs.Common.{refl}
use Rattle.mt_query_spec.specs.Contents.{token_tests}
use Rattle.mt_prepare.proofs.Finding.{found_none}
use Rattle.mt_prepare.proofs.prepared.prepare.Goals as goal

pub returns-in_err-patterns-clause-finds : goal.returns-in_err-patterns-clause-finds
returns-in_err-patterns-clause-finds g c = λ p. found_none c.args.segment.now (token_tests c.args.query.now.head) c.args.steps.now c.args.steps.now refl
