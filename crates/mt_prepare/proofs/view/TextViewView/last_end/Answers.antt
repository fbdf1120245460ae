use Rattle.std.proofs.Common.{arith}
use Rattle.mt_cql.specs.Shape.{shape}
use Rattle.mt_prepare.specs.Viewed.{tag_at}
use Rattle.mt_prepare.proofs.Spans.{in_order}
use Rattle.mt_prepare.proofs.Views.{spans_at}
use Rattle.mt_prepare.proofs.LastEnds.{none_ends_behind}
use Rattle.mt_prepare.proofs.view.TextViewView.last_end.Goals as goal

pub last_end-requires-clause-sorted : goal.last_end-requires-clause-sorted
last_end-requires-clause-sorted c =
    let i = c.self.inside in
    in_order c.as_slice-spans.result.now (spans_at i.segment.now i.text i.first i.tokens (shape i.expr.now) i.tests.now i.spans.now i.rows.now c.self.invariant c.args.tag c.index-self-tag-2.result c.as_slice-spans.result.now (omega arith) c.as_slice-spans.ensures).ascending

pub returns : goal.returns
returns c =
    let i = c.self.inside in
    let list = c.as_slice-spans.result.now in
    rw (← c.self.view_is)
    (none_ends_behind c.instances_lie_in_texts.ensures i.segment.now c.self.invariant.valid i.text c.self.invariant.there (tag_at i.segment.now (shape i.expr.now) c.args.tag) list c.args.at c.last_end.result
    (spans_at i.segment.now i.text i.first i.tokens (shape i.expr.now) i.tests.now i.spans.now i.rows.now c.self.invariant c.args.tag c.index-self-tag-2.result list (omega arith) c.as_slice-spans.ensures) c.last_end.ensures)
