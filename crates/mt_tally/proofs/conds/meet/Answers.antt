use Rattle.std.proofs.Common.{sym, ◌∙◌}
use Rattle.std.proofs.lemmas.Result.{on_ok_weaker}
use Rattle.mt_tally.proofs.MetBegins.{all_of_none}
use Rattle.mt_tally.proofs.conds.meet.Goals as goal

pub returns-then-is_empty-clause-met : goal.returns-then-is_empty-clause-met
returns-then-is_empty-clause-met g c = λ text is.
    on_ok_weaker c.copy_from.result (λ same. all_of_none c.args.segment.now c.args.conds.now c.args.entry.now text c.copy_from.new.self (sym c.is_empty.ensures ∙ c.if-is_empty.true) same) c.copy_from.ensures
