use Rattle.mt_query_spec.specs.Tokens as spec
use Rattle.std.proofs.Common.{false}
use Rattle.mt_cql.proofs.Strings.{taken_step, goes_on}
use Rattle.mt_cql.proofs.lexer.string_length.Goals as goal
use Rattle.mt_cql.proofs.lexer.string_length.Goals.{then-taken, else-taken+else-b-eq34}

pub loop-i-preserved : goal.loop-i-preserved
loop-i-preserved c = elim c.if-taken.branch [
  | then-taken w ↦ taken_step c.args.bytes.now c.loop-i.i (spec.string_length false c.args.bytes.now) c.loop-i.taken c.if-taken.taken c.loop-i-test.true w.if-taken.true w.taken-is c.loop-i.invariant
  | else-taken+else-b-eq34 w ↦ goes_on c.args.bytes.now c.loop-i.i (spec.string_length false c.args.bytes.now) c.loop-i.taken c.if-taken.taken c.loop-i-test.true w.if-taken.false w.if-b-eq34.false w.taken-is c.loop-i.invariant
]
