use Rattle.mt_postings.proofs.Lengths.{measures_none}
use Rattle.mt_postings.proofs.postings.code_bits.Goals as goal

pub loop-position-init : goal.loop-position-init
loop-position-init c = measures_none c.args.positions.now c.requires
