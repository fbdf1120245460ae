use Rattle.std.proofs.Common.{rules, ◌≡◌, ◌+◌, ◌-◌, length, Err, IsErrOf, arith}
use Rattle.std.proofs.lemmas.Option.{slice_get-get_or}
use Rattle.mt_cql.specs.Shape.{shape}
use Rattle.mt_rows.specs.declared.error.EvalError.{EvalError}
use Rattle.mt_rows.specs.declared.error.EvalError.TheVariants.{TooManyRows}
use Rattle.mt_eval_spec.specs.RowsIn.{PassesRoom}
use Rattle.mt_eval.proofs.Exprs.{valid_at}
use Rattle.mt_eval.proofs.Found.{all_texts, none_yet, next, within_room, too_many}
use Rattle.mt_eval.proofs.finding.rows_by_scan.Goals as goal

pub loop-text-init : goal.loop-text-init
loop-text-init g c = record {
  rows = rw c.requires.none (none_yet c.args.asked.now.segment.now (shape c.args.sequence.now.expr.now) c.args.asked.now.texts.now);
  within = rw c.requires.none (omega arith);
  rises = omega arith;
}

pub returns-in_err-scan_text-clause-too_many : goal.returns-in_err-scan_text-clause-too_many
returns-in_err-scan_text-clause-too_many g c =
    let T = c.args.asked.now.segment.now in
    let X = c.args.asked.now.texts.now in
    let E = shape c.args.sequence.now.expr.now in
    let i = c.loop-text.text-index in
    let query = c.requires.query in
    let valid = valid_at T c.args.asked.now.query.now query c.requires.valid.0 E c.requires.valid.1 c.requires.valid.2 in
    let within = c.loop-text.invariant.within in
    let count = c.len.ensures in
    let left : length c.loop-text.out + (c.args.room - c.len.result) ≡ c.args.room = omega (arith, within, count) in
    let k : IsErrOf {E = EvalError} (Err c.in_err-scan_text.field-0.0) TooManyRows → PassesRoom T X E c.args.room =
    λ h. too_many T E c.have_rows_in.ensures c.no_more_than_all.ensures query.registry query.under valid X i _ (c.args.room - c.len.result) c.args.room c.loop-text.out c.requires.texts
    (slice_get-get_or X i _ c.loop-text-test.true) left c.loop-text.invariant.rows (c.in_err-scan_text.ensures.more h) in
    search (rules, k)

pub loop-text-preserved : goal.loop-text-preserved
loop-text-preserved g c =
    let T = c.args.asked.now.segment.now in
    let X = c.args.asked.now.texts.now in
    let E = shape c.args.sequence.now.expr.now in
    let i = c.loop-text.text-index in
    let h = c.loop-text.invariant in
    let within = h.within in
    let count = c.len.ensures in
    let left : length c.loop-text.out + (c.args.room - c.len.result) ≡ c.args.room = omega (arith, within, count) in
    record {
      rows = next T E X i _ (c.args.room - c.len.result) c.loop-text.out c.scan_text.new.out c.requires.texts (slice_get-get_or X i _ c.loop-text-test.true) h.rows c.in_ok-scan_text.ensures.ok;
      within = within_room T E (c.args.room - c.len.result) c.args.room c.loop-text.out c.scan_text.new.out _ left c.in_ok-scan_text.ensures.ok;
      rises = omega (arith, h.rises, c.in_ok-scan_text.ensures.rises);
    }

pub returns-clause-rows : goal.returns-clause-rows
returns-clause-rows g c = all_texts c.args.asked.now.segment.now (shape c.args.sequence.now.expr.now) c.args.asked.now.texts.now c.loop-text.text-index c.loop-text.out c.loop-text-test.false c.loop-text.invariant.rows
