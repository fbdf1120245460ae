use Rattle.mt_vertical_tables.proofs.BothNumbered.{two_few}
use Rattle.mt_vertical_tables.proofs.numbered.merged.Goals as goal

pub finish-requires : goal.finish-requires
finish-requires c = two_few c.is_shortest.ensures c.in_ok-merger.merger c.add.new.self c.add-2.new.self c.args.first.now c.args.second.now c.in_ok-merger.ensures c.in_ok-add.ensures.ok c.in_ok-add-2.ensures.ok c.requires
