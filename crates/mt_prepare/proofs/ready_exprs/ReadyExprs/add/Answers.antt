use Rattle.std.proofs.Common.{◌∙◌, List, refl, subst, sym}
use Rattle.std.specs.List.{AllZip}
use Rattle.mt_query_spec.specs.Contents.{token_tests}
use Rattle.mt_cql.specs.Shape.{shape}
use Rattle.mt_prepare.specs.Prepared.{IsReady}
use Rattle.mt_prepare.specs.declared.prepared.PreparedExpr.{PreparedExpr}
use Rattle.mt_prepare.proofs.Finding.{found_none}
use Rattle.mt_prepare.proofs.Readying.{one_added}
use Rattle.mt_prepare.proofs.ready_exprs.ReadyExprs.add.Goals as goal

pub returns-in_err-make_room-clause-finds : goal.returns-in_err-make_room-clause-finds
returns-in_err-make_room-clause-finds g c = λ equals. found_none c.args.segment.now (token_tests (shape c.args.expr.now)) c.args.steps.now c.args.steps.now refl

pub returns-clause-ready : goal.returns-clause-ready
returns-clause-ready g c = λ before ready.
    one_added c.args.segment.now (shape c.args.expr.now) c.make_room.new.exprs.items c.self.inside.count c.make_ready.new.ready c.in_ok-make_room.ensures.room c.in_ok-make_ready.ensures.ready before
    (subst (λ (exprs : List PreparedExpr). AllZip (IsReady c.args.segment.now) before exprs) (sym (c.make_room.ensures.kept ∙ c.self.view_is)) ready)
