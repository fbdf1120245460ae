use Rattle.mt_cql.specs.Shape.{shape}
use Rattle.mt_prepare.proofs.Views.{few, goes_on}
use Rattle.mt_prepare.proofs.view.TextViewView.tokens.Goals as goal

pub returns-clause-few : goal.returns-clause-few
returns-clause-few c = let i = c.self.inside in few i.segment.now i.text i.first i.tokens (shape i.expr.now) i.tests.now i.spans.now i.rows.now c.self.invariant

pub returns-clause-inside : goal.returns-clause-inside
returns-clause-inside c = let i = c.self.inside in rw (← c.self.view_is) (goes_on i.segment.now i.text i.first i.tokens (shape i.expr.now) i.tests.now i.spans.now i.rows.now c.self.invariant c.instances_lie_in_texts.ensures)
