use Rattle.std.proofs.Common.{arith}
use Rattle.mt_cql.specs.Shape.{shape}
use Rattle.mt_prepare.proofs.Spans.{in_order}
use Rattle.mt_prepare.proofs.Views.{spans_at, some_longer, only_longer}
use Rattle.mt_prepare.proofs.view.TextViewView.whole_end.Goals as goal

pub longer_end-requires-clause-sorted : goal.longer_end-requires-clause-sorted
longer_end-requires-clause-sorted c =
    let i = c.self.inside in
    in_order c.as_slice-spans.result.now (spans_at i.segment.now i.text i.first i.tokens (shape i.expr.now) i.tests.now i.spans.now i.rows.now c.self.invariant c.args.tag c.index-self-tag-2.result c.as_slice-spans.result.now (omega arith) c.as_slice-spans.ensures).ascending

pub returns-clause-some : goal.returns-clause-some
returns-clause-some c =
    let i = c.self.inside in
    let list = c.as_slice-spans.result.now in
    rw (← c.self.view_is)
    (some_longer i.segment.now i.text i.first i.tokens (shape i.expr.now) i.tests.now i.spans.now i.rows.now c.self.invariant c.instances_lie_in_texts.ensures c.args.tag list c.args.at c.longer_end.result (spans_at i.segment.now i.text i.first i.tokens (shape i.expr.now) i.tests.now i.spans.now i.rows.now c.self.invariant c.args.tag c.index-self-tag-2.result list (omega arith) c.as_slice-spans.ensures) c.longer_end.ensures.some)

pub returns-clause-only : goal.returns-clause-only
returns-clause-only c =
    let i = c.self.inside in
    let list = c.as_slice-spans.result.now in
    rw (← c.self.view_is)
    (only_longer i.segment.now i.text i.first i.tokens (shape i.expr.now) i.tests.now i.spans.now i.rows.now c.self.invariant c.instances_lie_in_texts.ensures c.args.tag list c.args.at c.longer_end.result (spans_at i.segment.now i.text i.first i.tokens (shape i.expr.now) i.tests.now i.spans.now i.rows.now c.self.invariant c.args.tag c.index-self-tag-2.result list (omega arith) c.as_slice-spans.ensures) c.longer_end.ensures.some
    c.longer_end.ensures.none)
