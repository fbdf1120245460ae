use Rattle.std.proofs.Common.{sym, ◌∙◌, ap, arith, false}
use Rattle.std.proofs.lemmas.Str.{IsCharBoundary-before_ascii}
use Rattle.mt_query_spec.specs.Tokens as spec
use Rattle.mt_cql.proofs.Strings.{string_ends}
use Rattle.mt_cql.proofs.lexer.string_at.Goals as goal

pub range-requires-clause-end_boundary : goal.range-requires-clause-end_boundary
range-requires-clause-end_boundary c =
    let e = string_ends false c.args.rest.now c.in-Some.n (ap (spec.string_length false) (sym c.as_bytes.ensures.value) ∙ sym c.in-Some.ensures) in
    IsCharBoundary-before_ascii c.args.rest.now c.in-Some.n e.within (omega (arith, e.quote))
