use Rattle.std.proofs.Common.{subst}
use Rattle.std.proofs.lemmas.Result.{IfOk-weaker}
use Rattle.mt_segment.specs.Parts.{AreInverted}
use Rattle.mt_inverting.specs.Blocks.{AreListsOf, Column}
use Rattle.mt_inverting.proofs.Runs.{inverted}
use Rattle.mt_inverting.proofs.lists.postings_by_runs.Goals as goal

pub returns : goal.returns
returns g c =
    IfOk-weaker c.lists_beside.result _ (λ lists. AreInverted c.args.column.now c.args.count lists)
    (λ lists told. inverted c.args.column.now c.args.count lists (subst (λ (v : Column). AreListsOf v.numbers 0 c.args.count lists) c.in_ok-blocks.ensures told)) c.lists_beside.ensures
