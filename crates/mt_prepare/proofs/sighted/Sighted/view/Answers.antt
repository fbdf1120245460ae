use Rattle.mt_cql.specs.Shape.{shape}
use Rattle.mt_prepare.proofs.Sights.{shows}
use Rattle.mt_prepare.proofs.sighted.Sighted.view.Goals as goal

pub new-requires-clause-shows : goal.new-requires-clause-shows
new-requires-clause-shows c = λ valid. rw (c.deref.ensures.value, c.as_slice.ensures, c.deref-2.ensures.value) (shows c.args.segment.now (shape c.args.expr.now) c.args.ready.now c.requires.ready c.args.self.now c.args.text valid c.requires.text c.requires.entered)
