-- Each line stands behind the others.
use Rattle.std.proofs.Common.{◌++◌, length, map, take}
use Rattle.std.specs.List.{flat_map}
use Rattle.mt_text_spec.specs.Lines.{closed}
use Rattle.mt_report_spec.specs.Counts.{number_line}
use Rattle.mt_reports.proofs.Joined.{grown, kept, on_err}
use Rattle.mt_frequencies.proofs.Rows.{lines_more}
use Rattle.mt_frequencies.proofs.lines.put_all.Goals as goal

pub returns-in_err-put-clause-err : goal.returns-in_err-put-clause-err
returns-in_err-put-clause-err g c =
    on_err c.from_residual-in_err-put.result
    (kept c.args.out.now c.loop-one.out c.put.new.out (grown c.args.out.now (closed (number_line (length c.args.all.now)) ++ flat_map closed (map g.L.Listed.line (take c.loop-one.one-index c.args.all.now))) c.loop-one.out c.loop-one.invariant) c.in_err-put.ensures.err)

pub loop-one-preserved : goal.loop-one-preserved
loop-one-preserved g c =
    lines_more g.L.Listed.line c.args.all.now c.loop-one.one-index c.one-item.result (closed (number_line (length c.args.all.now))) c.args.out.now c.loop-one.out c.put.new.out c.loop-one-test.true c.one-item.is c.loop-one.invariant
    c.in_ok-put.ensures.ok
