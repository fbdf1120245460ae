use Rattle.std.proofs.Common.{rules, ◌≡◌, ◌+◌, ◌-◌, length, Err, IsErrOf, arith}
use Rattle.std.proofs.lemmas.Option.{slice_get-get_or}
use Rattle.mt_cql.specs.Shape.{shape}
use Rattle.mt_rows.specs.declared.error.EvalError.{EvalError}
use Rattle.mt_rows.specs.declared.error.EvalError.TheVariants.{TooManyRows}
use Rattle.mt_eval_spec.specs.RowsIn.{PassesRoom}
use Rattle.mt_eval.proofs.Exprs.{valid_at}
use Rattle.mt_eval.proofs.Found.{none_yet, next, within_room, too_many}
use Rattle.mt_eval.proofs.finding.rows_in_texts.Goals as goal

pub loop-text-init : goal.loop-text-init
loop-text-init c = (rw c.requires.none (none_yet c.args.asked.now.segment.now (shape c.args.expr.now) c.args.asked.now.texts.now), rw c.requires.none (omega arith), c.requires.sighted)

pub returns-in_err-add_text-clause-too_many : goal.returns-in_err-add_text-clause-too_many
returns-in_err-add_text-clause-too_many c =
    let T = c.args.asked.now.segment.now in
    let X = c.args.asked.now.texts.now in
    let E = shape c.args.expr.now in
    let i = c.loop-text.text-index in
    let query = c.requires.query in
    let valid = valid_at T c.args.asked.now.query.now query c.requires.valid.0 E c.requires.valid.1 c.requires.valid.2 in
    let within = c.loop-text.invariant.1 in
    let count = c.len.ensures in
    let left : length c.loop-text.out + (c.args.room - c.len.result) ≡ c.args.room = omega (arith, within, count) in
    let k : IsErrOf {E = EvalError} (Err c.in_err-add_text.field-0.0) TooManyRows → PassesRoom T X E c.args.room =
    λ h. too_many T E c.have_rows_in.ensures c.no_more_than_all.ensures query.registry query.under valid X i _ (c.args.room - c.len.result) c.args.room c.loop-text.out c.requires.texts
    (slice_get-get_or X i _ c.loop-text-test.true) left c.loop-text.invariant.0 (c.in_err-add_text.ensures.more h) in
    search (rules, k)

pub loop-text-preserved : goal.loop-text-preserved
loop-text-preserved c =
    let T = c.args.asked.now.segment.now in
    let X = c.args.asked.now.texts.now in
    let E = shape c.args.expr.now in
    let i = c.loop-text.text-index in
    let within = c.loop-text.invariant.1 in
    let count = c.len.ensures in
    let left : length c.loop-text.out + (c.args.room - c.len.result) ≡ c.args.room = omega (arith, within, count) in (
      next T E X i _ (c.args.room - c.len.result) c.loop-text.out c.add_text.new.out c.requires.texts (slice_get-get_or X i _ c.loop-text-test.true) c.loop-text.invariant.0 c.in_ok-add_text.ensures.ok,
      within_room T E (c.args.room - c.len.result) c.args.room c.loop-text.out c.add_text.new.out _ left c.in_ok-add_text.ensures.ok,
      c.in_ok-add_text.ensures.sighted,
    )
