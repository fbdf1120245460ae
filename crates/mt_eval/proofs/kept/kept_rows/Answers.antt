use Rattle.std.proofs.Common.{rules, arith, ℕ, ◌∷◌, [], Err, IsErrOf}
use Rattle.std.specs.List.{Contains}
use Rattle.mt_rows.specs.declared.error.EvalError.{EvalError}
use Rattle.mt_rows.specs.declared.error.EvalError.TheVariants.{TooManyRows}
use Rattle.mt_eval_spec.specs.RowsIn.{operands, heads, PassesAllIn, SomePasses}
use Rattle.mt_eval.proofs.Rooms.{one_leaves, later_passes}
use Rattle.mt_eval.proofs.Queries.{conds_for, rows_stand, kept_are}
use Rattle.mt_eval.proofs.kept.kept_rows.Goals as goal

pub returns-in_err-let_pass-clause-too_many : goal.returns-in_err-let_pass-clause-too_many
returns-in_err-let_pass-clause-too_many g c =
    let T = c.args.asked.now.segment.now in
    let X = c.args.asked.now.texts.now in
    let Q = c.args.asked.now.query.now in
    let k : IsErrOf {T = ℕ} {E = EvalError} (Err c.in_err-let_pass.field-0.0) TooManyRows → SomePasses T X (heads Q) 0 c.args.rooms.now =
    λ h. later_passes T X (Q.head ∷ []) (operands Q.filters) 0 c.args.rooms.now c.take_rows.new.rooms c.take_rows.new.rooms
    (one_leaves T X Q.head 0 c.in_ok-rows.rows c.args.rooms.now c.take_rows.new.rooms c.in_ok-rows.ensures.rows c.in_ok-rows.ensures.rooms) ((rw c.filters.ensures at c.in_err-let_pass.ensures.too_many) h) in
    search (rules, k)

pub keep_met-requires-clause-rows : goal.keep_met-requires-clause-rows
keep_met-requires-clause-rows g c =
    let T = c.args.asked.now.segment.now in
    let X = c.args.asked.now.texts.now in
    let Q = c.args.asked.now.query.now in
    rows_stand c.labels_are_inside.ensures T X Q.head c.let_pass.new.rows (λ row. Contains c.in_ok-rows.rows row × PassesAllIn T X Q.filters row.span) c.requires.texts
    (λ row h. c.in_ok-rows.ensures.rows.only row h.0) (rw c.filters.ensures at c.in_ok-let_pass.ensures.rows)

pub keep_met-requires-clause-conds : goal.keep_met-requires-clause-conds
keep_met-requires-clause-conds g c = rw (c.as_slice-conds.ensures, c.conds.ensures) (conds_for c.args.asked.now.segment.now c.args.asked.now.query.now c.requires.query)

pub returns-clause-kept : goal.returns-clause-kept
returns-clause-kept g c =
    let T = c.args.asked.now.segment.now in
    let X = c.args.asked.now.texts.now in
    let Q = c.args.asked.now.query.now in
    kept_are T X Q c.in_ok-rows.rows c.let_pass.new.rows c.keep_met.new.rows c.in_ok-rows.ensures.rows (rw c.filters.ensures at c.in_ok-let_pass.ensures.rows)
    (rw (c.as_slice-conds.ensures, c.conds.ensures) at c.in_ok-keep_met.ensures.met)

pub returns-in_err-rows-clause-steps : goal.returns-in_err-rows-clause-steps
returns-in_err-rows-clause-steps g c = λ plain. (rw c.head.ensures at c.in_err-rows.ensures.steps) plain.head

pub returns-in_err-let_pass-clause-steps : goal.returns-in_err-let_pass-clause-steps
returns-in_err-let_pass-clause-steps g c = λ plain test places there are.
    let few = (rw c.head.ensures at c.in_ok-rows.ensures.steps) plain.head test places there are in
    let passed = (rw c.filters.ensures at c.in_err-let_pass.ensures.steps) plain.filters in
    omega (arith, few, passed)

pub returns-in_err-keep_met-clause-steps : goal.returns-in_err-keep_met-clause-steps
returns-in_err-keep_met-clause-steps g c = λ plain test places there are.
    let few = (rw c.head.ensures at c.in_ok-rows.ensures.steps) plain.head test places there are in
    let passed = (rw c.filters.ensures at c.in_ok-let_pass.ensures.steps) plain.filters in
    let met = (rw (c.as_slice-conds.ensures, c.conds.ensures) at c.in_err-keep_met.ensures.none) plain.conds in
    omega (arith, few, passed, met)

pub returns-clause-steps : goal.returns-clause-steps
returns-clause-steps g c = λ plain test places there are.
    let few = (rw c.head.ensures at c.in_ok-rows.ensures.steps) plain.head test places there are in
    let passed = (rw c.filters.ensures at c.in_ok-let_pass.ensures.steps) plain.filters in
    let met = (rw (c.as_slice-conds.ensures, c.conds.ensures) at c.in_ok-keep_met.ensures.none) plain.conds in
    omega (arith, few, passed, met)
