use Rattle.std.proofs.Common.{◌≡◌, drop, false}
use Rattle.mt_query_spec.specs.Tokens as spec
use Rattle.mt_cql.proofs.Strings.{counted}
use Rattle.mt_cql.proofs.lexer.string_length.Given as goal

abbrev pub invariant-loop-i : goal.invariant-loop-i
invariant-loop-i l = counted l.i (spec.string_length l.taken (drop l.i l.bytes)) ≡ spec.string_length false l.bytes
