use Rattle.std.proofs.Common.{ap, codes, ◌∙◌}
use Rattle.clap.specs.Words.{found_of, first_of}
use Rattle.mt_words.proofs.Values.{first_is}
use Rattle.mt_words.proofs.given_by.Goals as goal

pub returns-in-Ok-clause-workers : goal.returns-in-Ok-clause-workers
returns-in-Ok-clause-workers c =
    c.get_str.ensures ∙ first_is (found_of c.in-Ok.matches) (codes "workers") ∙ ap (first_of (codes "workers")) c.in-Ok.ensures.values

pub returns-in-Ok-clause-demo : goal.returns-in-Ok-clause-demo
returns-in-Ok-clause-demo c =
    c.get_str-in-Ok.ensures ∙ first_is (found_of c.in-Ok.matches) (codes "demo") ∙ ap (first_of (codes "demo")) c.in-Ok.ensures.values
