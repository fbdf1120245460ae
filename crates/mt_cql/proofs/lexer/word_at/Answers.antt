use Rattle.std.proofs.Common.{◌∙◌, ap, drop}
use Rattle.std.specs.List.{prefix_len}
use Rattle.std.proofs.lemmas.Str.{IsCharBoundary-after_ascii}
use Rattle.mt_text_spec.specs.Words.{is_identifier_byte}
use Rattle.mt_cql.proofs.Words.{word_last}
use Rattle.mt_cql.proofs.lexer.word_at.Goals as goal

pub range-requires-clause-end_boundary : goal.range-requires-clause-end_boundary
range-requires-clause-end_boundary c =
    let e = word_last c.args.text.now c.identifier_len-n.result (c.identifier_len-n.ensures.count ∙ ap (prefix_len is_identifier_byte) (c.behind.ensures ∙ ap (drop 1) c.as_bytes.ensures.value)) c.requires.some c.requires.start in
    IsCharBoundary-after_ascii c.args.text.now c.identifier_len-n.result c.utf8.text e.within e.ascii
