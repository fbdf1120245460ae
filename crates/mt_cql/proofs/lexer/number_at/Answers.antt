use Rattle.std.proofs.Common.{◌∙◌, ap}
use Rattle.std.specs.List.{prefix_len}
use Rattle.std.specs.Char.{is_ascii_digit}
use Rattle.mt_cql.proofs.Words.{number_digits}
use Rattle.mt_cql.proofs.lexer.number_at.Goals as goal

pub decimal-value-requires-clause-each : goal.decimal-value-requires-clause-each
decimal-value-requires-clause-each c =
    number_digits c.args.bytes.now c.digits_length-n.result (c.digits_length-n.ensures ∙ ap (prefix_len is_ascii_digit) c.behind.ensures) c.requires.some c.requires.digit
