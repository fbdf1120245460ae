use Rattle.mt_vertical_tables.proofs.Packing.{none_known}
use Rattle.mt_vertical_tables.proofs.known.no_entries.Goals as goal

pub returns : goal.returns
returns c = λ seen. none_known c.args.count seen c.in_ok-known.known.items (c.in_ok-known.ensures.items_if_clones_equal (λ y e. e))
