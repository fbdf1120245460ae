use Rattle.std.proofs.Common.{◌≡◌, ◌≤◌, ◌+◌, ◌^◌, drop}
use Rattle.mt_query_spec.specs.Tokens as spec
use Rattle.mt_cql.proofs.lexer.decimal.Given as goal

abbrev pub invariant-loop-digit : goal.invariant-loop-digit
invariant-loop-digit l = (spec.decimal_value l.value (drop l.digit-index l.digits) ≡ spec.decimal_value 0 l.digits) × (l.value + 1 ≤ 10 ^ l.digit-index)
