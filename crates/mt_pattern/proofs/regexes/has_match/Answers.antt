use Rattle.std.proofs.Common.{◌∙◌, ap, is_some, arith}
use Rattle.regex.specs.Patterns.{find_str}
use Rattle.mt_pattern.proofs.Reading.{agrees}
use Rattle.mt_pattern.proofs.regexes.has_match.Goals as goal

pub returns-clause-found : goal.returns-clause-found
returns-clause-found c = λ built config read same.
    c.is_match.ensures.found ∙ ap (λ re. is_some (find_str re c.args.value.now 0)) same ∙ agrees built c.args.value.now config read (λ k. omega (arith, c.type_inv.value k))
