use Rattle.std.proofs.Common.{arith}
use Rattle.mt_grammar.proofs.Cuts.{cut_first}
use Rattle.mt_grammar.proofs.line.line_of.Goals as goal

pub range_from-requires : goal.range_from-requires
range_from-requires c =
    let h = c.in-Some-eq61-default.ensures in
    λ _. cut_first _ _ _ _ c.utf8.bare c.as_bytes.ensures.value h.cases.0 (let e = c.in-Some-eq61-default.field-0-0-test in omega (arith, e))
