use Rattle.mt_cql.specs.Shape.{shape}
use Rattle.mt_prepare.proofs.Views.{holds_stand, begins_stand, ends_stand, empty_stand}
use Rattle.mt_prepare.proofs.view.TextViewView.word.Goals as goal

pub returns-in-Holds : goal.returns-in-Holds
returns-in-Holds c =
    let i = c.self.inside in
    rw (c.in-Holds.is, ← c.self.view_is) (holds_stand i.segment.now i.text i.first i.tokens (shape i.expr.now) i.tests.now i.spans.now i.rows.now c.self.invariant c.in-Holds.test c.args.at c.test_word.result c.test_word.ensures.some c.test_word.ensures.none)

pub returns-in-Begins : goal.returns-in-Begins
returns-in-Begins c =
    let i = c.self.inside in
    rw (c.in-Begins.is, ← c.self.view_is) (begins_stand i.segment.now i.text i.first i.tokens (shape i.expr.now) i.tests.now i.spans.now i.rows.now c.self.invariant c.instances_lie_in_texts.ensures c.in-Begins.tag c.args.at c.begins_word.result c.begins_word.ensures.some c.begins_word.ensures.none)

pub returns-in-Ends : goal.returns-in-Ends
returns-in-Ends c =
    let i = c.self.inside in
    rw (c.in-Ends.is, ← c.self.view_is) (ends_stand i.segment.now i.text i.first i.tokens (shape i.expr.now) i.tests.now i.spans.now i.rows.now c.self.invariant c.instances_lie_in_texts.ensures c.in-Ends.tag c.args.at c.ends_word.result c.ends_word.ensures.some c.ends_word.ensures.none)

pub returns-in-Empty : goal.returns-in-Empty
returns-in-Empty c =
    let i = c.self.inside in
    rw (c.in-Empty.is, ← c.self.view_is) (empty_stand i.segment.now i.text i.first i.tokens (shape i.expr.now) i.tests.now i.spans.now i.rows.now c.self.invariant c.instances_lie_in_texts.ensures c.in-Empty.tag c.args.at c.empty_word.result c.empty_word.ensures.some c.empty_word.ensures.none)
