use Rattle.std.proofs.Common.{◌∙◌, ap}
use Rattle.mt_pattern_spec.specs.Patterns.{finds}
use Rattle.mt_pattern.proofs.regexes.RegexShopPatternShop.accepts.Goals as goal

pub returns-clause-found : goal.returns-clause-found
returns-clause-found c =
    c.has_match.ensures.found c.pattern.inside.regex c.pattern.invariant.0 c.pattern.invariant.1 c.in_ok-matcher.ensures.pattern
    ∙ ap (λ t. finds t c.args.value.now) c.pattern.view_is
