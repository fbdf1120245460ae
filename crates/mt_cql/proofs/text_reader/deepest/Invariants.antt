use Rattle.std.proofs.Common.{◌≡◌, ◌≤◌, false, drop}
use Rattle.mt_query_spec.specs.Tokens.{nesting_from}
use Rattle.mt_cql.specs.TextSeen.{nesting_seen}
use Rattle.mt_cql.proofs.text_reader.deepest.Given as goal

abbrev pub invariant-loop-b : goal.invariant-loop-b
invariant-loop-b l =
    (nesting_from (nesting_seen l.nesting) (drop l.b-index l.bytes) ≡ nesting_from (record { opened = 0; most = 0; in_string = false; taken = false }) l.bytes)
    × (l.nesting.opened ≤ l.b-index)
