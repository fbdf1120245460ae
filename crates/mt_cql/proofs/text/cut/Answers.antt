use Rattle.std.proofs.Common.{◌∙◌, ap, arith}
use Rattle.std.specs.List.{prefix_len}
use Rattle.std.proofs.lemmas.Str.{IsCharBoundary-after_ascii, IsCharBoundary-before_ascii}
use Rattle.mt_cql.specs.Texts.{is_plain}
use Rattle.mt_cql.proofs.Unescaping.{slash_at}
use Rattle.mt_cql.proofs.text.cut.Goals as goal

pub range-requires-clause-end_boundary : goal.range-requires-clause-end_boundary
range-requires-clause-end_boundary c =
    let s = slash_at c.args.rest.now c.plain_length-n.result (c.plain_length-n.ensures ∙ ap (prefix_len is_plain) c.as_bytes.ensures.value) c.if-n-rest.false in
    IsCharBoundary-before_ascii c.args.rest.now c.plain_length-n.result s.within (omega (arith, s.slash))

pub range_from-requires : goal.range_from-requires
range_from-requires c = λ h.
    let s = slash_at c.args.rest.now c.plain_length-n.result (c.plain_length-n.ensures ∙ ap (prefix_len is_plain) c.as_bytes.ensures.value) c.if-n-rest.false in
    IsCharBoundary-after_ascii c.args.rest.now c.plain_length-n.result c.utf8.rest s.within (omega (arith, s.slash))
