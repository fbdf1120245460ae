use Rattle.std.proofs.Common.{◌≡◌, ap, arith}
use Rattle.mt_grammar.specs.Seen.{kind_seen}
use Rattle.mt_rules.specs.Names.{name_count}
use Rattle.mt_rules.proofs.Counting.{one_more}
use Rattle.mt_rules.proofs.rules.relations_in.Goals as goal

pub loop-relation-preserved : goal.loop-relation-preserved
loop-relation-preserved c =
    let more = one_more c.as_slice-relation-items.result.now c.loop-relation.relation-index c.relation-item.result c.loop-relation-test.true c.relation-item.is in
    let kind : name_count (kind_seen c.kind.result) ≡ name_count c.relation-item.result.kind = ap name_count c.kind.ensures in
    record {
      counted = omega (arith, more, kind, c.name_count-count.ensures.count, c.loop-relation.invariant.counted);
      few = omega (arith, c.name_count-count.ensures.few, c.loop-relation.invariant.few);
    }
