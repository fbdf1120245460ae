use Rattle.std.proofs.Common.{rules, ◌≤◌, ◌-◌, Err, IsErrOf, take, arith}
use Rattle.std.proofs.lemmas.Option.{slice_get-get_or}
use Rattle.mt_rows.specs.declared.error.EvalError.{EvalError}
use Rattle.mt_rows.specs.declared.error.EvalError.TheVariants.{TooManyRows}
use Rattle.mt_eval_spec.specs.RowsIn.{IsRowIn}
use Rattle.mt_tally.specs.Counts.{HasMore}
use Rattle.mt_totals.proofs.Tallied.{few_spans, no_tally, next_tally, too_many}
use Rattle.mt_totals.proofs.shaped.texts_tally.Goals as goal

pub loop-text-init : goal.loop-text-init
loop-text-init g c = record { tally = no_tally c.args.segment.now c.args.query.now c.args.texts.now; within = omega arith; sighted = c.requires.sighted; rises = omega arith }

pub overflow_add-spans : goal.overflow_add-spans
overflow_add-spans g c =
    let T = c.args.segment.now in
    let Q = c.args.query.now in
    let now = few_spans T _ Q c.in-Some.tally.rows c.in-Some.tally.spans (rw c.in-Some.is at c.in_ok-found.ensures.tally) in
    let before = few_spans T (take c.loop-text.text-index c.args.texts.now) Q c.loop-text.rows c.loop-text.spans c.loop-text.invariant.tally in
    let room : c.in-Some.tally.rows ≤ c.args.room - c.loop-text.rows = rw c.in-Some.is at c.in_ok-found.ensures.within in
    omega (arith, now, before, room, c.loop-text.invariant.within, c.ranges.room.fits)

pub loop-text-preserved : goal.loop-text-preserved
loop-text-preserved g c =
    let X = c.args.texts.now in
    let i = c.loop-text.text-index in
    let room : c.in-Some.tally.rows ≤ c.args.room - c.loop-text.rows = rw c.in-Some.is at c.in_ok-found.ensures.within in
    record {
      tally = next_tally c.args.segment.now c.args.query.now X i _ c.requires.texts.ascending (slice_get-get_or X i _ c.loop-text-test.true) c.loop-text.rows c.loop-text.spans c.in-Some.tally.rows c.in-Some.tally.spans c.loop-text.invariant.tally
          (rw c.in-Some.is at c.in_ok-found.ensures.tally);
      within = omega (arith, room, c.loop-text.invariant.within);
      sighted = c.in_ok-found.ensures.sighted;
      rises = omega (arith, c.loop-text.invariant.rises, c.in_ok-found.ensures.rises);
    }

pub returns-in_err-found-clause-too_many : goal.returns-in_err-found-clause-too_many
returns-in_err-found-clause-too_many g c =
    let T = c.args.segment.now in
    let Q = c.args.query.now in
    let X = c.args.texts.now in
    let i = c.loop-text.text-index in
    let k : IsErrOf {E = EvalError} (Err c.in_err-found.field-0.0) TooManyRows → HasMore (IsRowIn T X Q.head) c.args.room =
    λ h. too_many T Q X i _ c.requires.texts.ascending (slice_get-get_or X i _ c.loop-text-test.true) c.loop-text.rows c.loop-text.spans (c.args.room - c.loop-text.rows) c.args.room (omega (arith, c.loop-text.invariant.within)) c.loop-text.invariant.tally
    (c.in_err-found.ensures.too_many h) in
    search (rules, k)
