use Rattle.std.proofs.Common.{sym, ◌∙◌}
use Rattle.mt_search.proofs.Places.{as_they_are}
use Rattle.mt_search.proofs.placing.add_placed.Goals as goal

pub returns-then-are_from_zero : goal.returns-then-are_from_zero
returns-then-are_from_zero c =
    c.into_rows.ensures
    ∙ as_they_are c.args.live.now c.args.rows.now c.args.more c.args.before c.if-before-eq0.true (sym c.is_empty.ensures ∙ c.if-is_empty.true) (c.are_from_zero.ensures c.if-are_from_zero.true) c.requires.listed
