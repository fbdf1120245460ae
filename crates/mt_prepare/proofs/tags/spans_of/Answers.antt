use Rattle.std.proofs.Common.{length}
use Rattle.std.specs.Ordering.{eq_by_cmp}
use Rattle.std.proofs.lemmas.List.Filters.{dedup_is}
use Rattle.mt_text_spec.specs.Orders.{span_cmp}
use Rattle.mt_prepare.specs.Judges.{IsFoundBelow}
use Rattle.mt_prepare.proofs.Found.{lists_found}
use Rattle.mt_prepare.proofs.tags.spans_of.Goals as goal

pub returns-clause-spans : goal.returns-clause-spans
returns-clause-spans g c =
    rw c.from_vec.ensures
    (lists_found (IsFoundBelow c.args.segment.now c.args.kind c.args.judge.now (length c.args.segment.now.texts)) c.in_ok-spans.spans.items c.sort_unstable.new.self.items c.keep_distinct.new.spans.items
    c.in_ok-spans.ensures.found c.sort_unstable.ensures.permutation c.sort_unstable.ensures.sorted (dedup_is (eq_by_cmp span_cmp) c.sort_unstable.new.self.items c.keep_distinct.new.spans.items c.keep_distinct.ensures))
