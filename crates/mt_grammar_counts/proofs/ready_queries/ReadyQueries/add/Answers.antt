use Rattle.std.proofs.Common.{◌∙◌, List, subst, sym}
use Rattle.std.specs.List.{AllZip}
use Rattle.mt_prepare.specs.Prepared.{IsPrepared}
use Rattle.mt_prepare.specs.declared.prepared.Prepared.{Prepared}
use Rattle.mt_grammar_counts.proofs.Parts.{one_put}
use Rattle.mt_grammar_counts.proofs.ready_queries.ReadyQueries.add.Goals as goal

pub returns-clause-prepared : goal.returns-clause-prepared
returns-clause-prepared g c = λ before ready.
    one_put (IsPrepared c.args.segment.now) before c.args.query.now c.make_room.new.queries.items c.self.inside.count c.prepare_again.new.prepared c.in_ok-make_room.ensures.room c.in_ok-prepare_again.ensures.prepared
    (subst (λ (queries : List Prepared). AllZip (IsPrepared c.args.segment.now) before queries) (sym (c.make_room.ensures.kept ∙ c.self.view_is)) ready)
