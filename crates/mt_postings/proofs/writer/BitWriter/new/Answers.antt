use Rattle.std.proofs.Common.{ap, ◌∙◌, ◌++◌}
use Rattle.mt_store_spec.specs.Codes.{bits}
use Rattle.mt_postings.proofs.Digits.{digits-none}
use Rattle.mt_postings.proofs.writer.BitWriter.new.Goals as goal

pub returns : goal.returns
returns c = ap (λ x. bits x ++ _) c.new.ensures.items ∙ digits-none 0
