use Rattle.mt_prepare.proofs.test_rows.numbers_row.Goals as goal

pub returns-in_ok-row-in-None-clause-known : goal.returns-in_ok-row-in-None-clause-known
returns-in_ok-row-in-None-clause-known g c = c.keep.ensures.known c.args.segment.now c.requires.known c.in_ok-row-in-None.ensures.row
