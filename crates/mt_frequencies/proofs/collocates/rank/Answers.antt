-- Collocates of some spans are in a total order.
use Rattle.std.proofs.Common.{rules}
use Rattle.std.specs.Ordering.{is_lt}
use Rattle.std.proofs.lemmas.Fn.{always_returns_same}
use Rattle.std.proofs.lemmas.List.Sorted.{ranks_by}
use Rattle.mt_report_spec.specs.Counts.{Collocate, collocate_cmp}
use Rattle.mt_report_laws.specs.Orders.{collocate_total}
use Rattle.mt_frequencies.proofs.collocates.rank.Goals as goal

pub returns-clause-sorted : goal.returns-clause-sorted
returns-clause-sorted c = λ some.
    c.sort_unstable_by.ensures.sorted (λ a b. is_lt (collocate_cmp c.args.spans a b)) (ranks_by (collocate_total c.args.spans some) (λ (x : Collocate). x)) (always_returns_same _ _ _ (λ a r g h. (search rules, search rules)))
