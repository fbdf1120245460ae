use Rattle.mt_store_spec.specs.Positions.{moved}
use Rattle.mt_postings.proofs.Moves.{part_in_range}
use Rattle.mt_postings.proofs.postings.Postings.append_moved.Goals as goal

pub moved_positions-requires : goal.moved_positions-requires
moved_positions-requires c = part_in_range c.args.self.now (moved c.args.from c.args.to c.args.place c.args.part.now) c.requires
