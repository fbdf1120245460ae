use Rattle.std.proofs.Common.{rules, ◌≡◌, ◌-◌, [], ◌∷◌, Err, IsErrOf, arith}
use Rattle.mt_rows.specs.declared.error.EvalError.{EvalError}
use Rattle.mt_rows.specs.declared.error.EvalError.TheVariants.{TooManyRows}
use Rattle.mt_eval_spec.specs.RowsIn.{IsRowIn}
use Rattle.mt_tally.specs.Counts.{HasMore}
use Rattle.mt_totals.proofs.Tallied.{alone, listed_tally, more_listed, room_passed, room_left}
use Rattle.mt_totals.proofs.tallies.listed_tally.Goals as goal

pub overflow_sub-result : goal.overflow_sub-result
overflow_sub-result g c =
    let whole : c.push.new.self ≡ c.args.room ∷ [] = alone c.args.room c.new-rooms.result c.push.new.self c.new-rooms.ensures c.in_ok-push.ensures.ok in
    let left = room_left c.args.segment.now c.args.live.now c.args.query.now c.requires.filters c.args.room c.push.new.self whole c.eval.new.rooms c.get-left.result.now c.in_ok-rows.ensures.rooms c.get-left.ensures in
    let within = left.within in
    omega (arith, within)

pub returns-clause-tally : goal.returns-clause-tally
returns-clause-tally g c =
    let T = c.args.segment.now in
    let live = c.args.live.now in
    let Q = c.args.query.now in
    let whole : c.push.new.self ≡ c.args.room ∷ [] = alone c.args.room c.new-rooms.result c.push.new.self c.new-rooms.ensures c.in_ok-push.ensures.ok in
    let left = room_left T live Q c.requires.filters c.args.room c.push.new.self whole c.eval.new.rooms c.get-left.result.now c.in_ok-rows.ensures.rooms c.get-left.ensures in
    let within = left.within in
    listed_tally T live Q c.requires.filters left.rows c.in_ok-rows.rows (c.args.room - c.get-left.result.now) c.span_count.result left.are (omega (arith, within)) c.in_ok-rows.ensures.kept c.span_count.ensures

pub returns-in_err-rows-clause-too_many : goal.returns-in_err-rows-clause-too_many
returns-in_err-rows-clause-too_many g c =
    let T = c.args.segment.now in
    let live = c.args.live.now in
    let Q = c.args.query.now in
    let whole : c.push.new.self ≡ c.args.room ∷ [] = alone c.args.room c.new-rooms.result c.push.new.self c.new-rooms.ensures c.in_ok-push.ensures.ok in
    let k : IsErrOf {E = EvalError} (Err c.in_err-rows.field-0.0) TooManyRows → HasMore (IsRowIn T live Q.head) c.args.room =
    λ h. more_listed T live Q c.args.room (room_passed T live Q c.requires.filters c.args.room c.push.new.self whole (c.in_err-rows.ensures.too_many h)) in
    search (rules, k)
