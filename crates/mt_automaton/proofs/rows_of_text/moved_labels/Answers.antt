use Rattle.std.proofs.Common.{refl, arith}
use Rattle.mt_automaton.proofs.MovedRows.{none_moved, one_moved, fits_at, all_moved}
use Rattle.mt_automaton.proofs.rows_of_text.moved_labels.Goals as goal

pub loop-i-init : goal.loop-i-init
loop-i-init c = none_moved c.args.base c.args.labels.now _ refl

pub moved_place-requires : goal.moved_place-requires
moved_place-requires c = fits_at c.args.base c.loop-i.i c.args.labels.now (omega (arith, c.told-labels, c.loop-i-test.true)) c.requires

pub loop-i-preserved : goal.loop-i-preserved
loop-i-preserved c = one_moved c.args.base c.args.labels.now c.loop-i.places c.loop-i.i c.moved_place.result c.loop-i-test.true c.moved_place.ensures c.loop-i.invariant

pub returns : goal.returns
returns c = all_moved c.args.base c.args.labels.now c.loop-i.places c.loop-i.i c.told-labels c.loop-i-test.false c.loop-i.invariant
