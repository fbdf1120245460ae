use Rattle.std.proofs.Common.{[], ◌∷◌, ◌++◌, take, refl, sym, ◌∙◌, ap}
use Rattle.std.specs.List.{filter}
use Rattle.mt_segment_spec.specs.Tables.{is_of_kind}
use Rattle.mt_segment.proofs.Instances.{some_before, span_kept, span_passed}
use Rattle.mt_vertical_tables.proofs.outline.add_kind.Goals as goal
use Rattle.mt_vertical_tables.proofs.outline.add_kind.Goals.{then-kind+in_ok-copy+in_ok-push, else-kind}

pub push-requires : goal.push-requires
push-requires c = rw c.loop-span.invariant (some_before c.args.all.now (filter (is_of_kind c.args.kind) (take c.loop-span.span-index c.args.structs.now)))

pub loop-span-preserved : goal.loop-span-preserved
loop-span-preserved c =
    elim c.if-kind.branch [
      | then-kind+in_ok-copy+in_ok-push w ↦
          w.all-is ∙ w.in_ok-push.ensures.ok c.args.all.now (filter (is_of_kind c.args.kind) (take c.loop-span.span-index c.args.structs.now)) c.loop-span.invariant
          ∙ ap (λ spans. c.args.all.now ++ spans ∷ [])
          (span_kept c.args.kind c.args.structs.now c.args.structs.now refl c.loop-span.span-index c.loop-span-test.true c.span-item.result c.span-item.is w.in_ok-copy.field-0 w.in_ok-copy.ensures
          (sym c.kind.ensures ∙ w.if-kind.true))
      | else-kind w ↦
          w.all-is ∙ c.loop-span.invariant
          ∙ ap (λ spans. c.args.all.now ++ spans ∷ [])
          (span_passed c.args.kind c.args.structs.now c.args.structs.now refl c.loop-span.span-index c.loop-span-test.true c.span-item.result c.span-item.is (λ same. w.if-kind.false (c.kind.ensures ∙ same)))
    ]
