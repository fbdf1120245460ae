use Rattle.std.proofs.Common.{subst}
use Rattle.mt_pattern_spec.specs.Patterns.{IsPattern}
use Rattle.mt_pattern.proofs.Reading.{is_pattern, refused, built}
use Rattle.mt_pattern.proofs.regexes.RegexShopPatternShop.build.Goals as goal

pub returns-in-Ok-clause-pattern : goal.returns-in-Ok-clause-pattern
returns-in-Ok-clause-pattern c =
    let e = c.in-Ok.ensures in
    subst IsPattern e.source (is_pattern c.in-Ok.regex e.config e.read)

pub returns-in-Err-CompiledTooBig-clause-too_big : goal.returns-in-Err-CompiledTooBig-clause-too_big
returns-in-Err-CompiledTooBig-clause-too_big c = λ _. built c.args.text.now (rw c.in-Err-CompiledTooBig.field-0-is at c.in-Err-CompiledTooBig.ensures.kind)

pub returns-in-Err-Syntax-clause-syntax : goal.returns-in-Err-Syntax-clause-syntax
returns-in-Err-Syntax-clause-syntax c = λ _ some.
    let e = c.in-Err-Syntax in
    refused c.args.text.now e.field-0-0.kind (e.ensures.by_grammar e.field-0-0 e.field-0-is) (rw e.field-0-is at e.ensures.kind) some
