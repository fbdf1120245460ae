use Rattle.std.proofs.Common.{refl, subst}
use Rattle.std.specs.List.{All}
use Rattle.std.proofs.lemmas.List.Elements.{All-more}
use Rattle.std.proofs.lemmas.List.{take_all}
use Rattle.mt_eval.specs.Spans.{HasRow}
use Rattle.mt_eval.proofs.spans.all_have_rows.Goals as goal

pub loop-span-preserved : goal.loop-span-preserved
loop-span-preserved c =
    let Has = HasRow c.args.texts.now in
    record {
      have = All-more Has c.args.spans.now c.loop-span.span-index c.span-item.result c.loop-span-test.true c.loop-span.invariant.have (subst Has c.span-item.is (c.has_next_row.ensures.row.0 c.if-not-has_next_row.false));
      last_is = c.has_next_row.ensures.last;
    }

pub returns : goal.returns
returns c = ((λ e. subst (All (HasRow c.args.texts.now)) (take_all c.loop-span.span-index c.args.spans.now c.loop-span-test.false) c.loop-span.invariant.have), (λ all. refl))
