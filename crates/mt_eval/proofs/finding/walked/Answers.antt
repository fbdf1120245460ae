use Rattle.std.proofs.Common.{rules, ◌≡◌, ◌+◌, ◌-◌, List, length, get_or, take, Err, IsErrOf, sym, subst, ap, arith}
use Rattle.std.proofs.lemmas.Option.{slice_get-get_or}
use Rattle.mt_text_spec.specs.Texts.{Row}
use Rattle.mt_cql.specs.Shape.{shape}
use Rattle.mt_segment_spec.specs.Tables.{first_place}
use Rattle.mt_rows.specs.declared.error.EvalError.{EvalError}
use Rattle.mt_rows.specs.declared.error.EvalError.TheVariants.{TooManyRows}
use Rattle.mt_eval_spec.specs.RowsIn.{PassesRoom, RowsIn}
use Rattle.mt_eval.proofs.Exprs.{valid_at}
use Rattle.mt_eval.proofs.Found.{all_texts, none_yet, next, within_room, too_many}
use Rattle.mt_eval.proofs.Sought.{text_behind}
use Rattle.mt_eval.proofs.finding.walked.Goals as goal

pub loop-text-init : goal.loop-text-init
loop-text-init g c =
    let T = c.args.asked.now.segment.now in
    let X = c.args.asked.now.texts.now in
    let E = shape c.args.sequence.now.expr.now in
    record {
      rows = subst (λ (rows : List Row). RowsIn T (take 0 X) E rows) (sym c.requires.none) (none_yet T E X);
      within = let e = ap length c.requires.none in omega (arith, e);
      bound = 0;
      left = c.requires.left;
      low = λ k l h. omega arith;
      rises = omega arith;
      due_is = λ ones. omega arith;
    }

pub add_rows-requires-clause-left : goal.add_rows-requires-clause-left
add_rows-requires-clause-left g c =
    let h = c.loop-text.invariant in
    (h.bound, h.low c.loop-text.text-index (omega arith) c.loop-text-test.true, h.left)

pub returns-in_err-add_rows-clause-too_many : goal.returns-in_err-add_rows-clause-too_many
returns-in_err-add_rows-clause-too_many g c =
    let T = c.args.asked.now.segment.now in
    let X = c.args.asked.now.texts.now in
    let E = shape c.args.sequence.now.expr.now in
    let i = c.loop-text.text-index in
    let query = c.requires.query in
    let valid = valid_at T c.args.asked.now.query.now query c.requires.valid.0 E c.requires.valid.1 c.requires.valid.2 in
    let within = c.loop-text.invariant.within in
    let count = c.len.ensures in
    let left : length c.loop-text.out + (c.args.room - c.len.result) ≡ c.args.room = omega (arith, within, count) in
    let k : IsErrOf {E = EvalError} (Err c.in_err-add_rows.field-0.0) TooManyRows → PassesRoom T X E c.args.room =
    λ h. too_many T E c.have_rows_in.ensures c.no_more_than_all.ensures query.registry query.under valid X i _ (c.args.room - c.len.result) c.args.room c.loop-text.out c.requires.texts
    (slice_get-get_or X i _ c.loop-text-test.true) left c.loop-text.invariant.rows (c.in_err-add_rows.ensures.more h) in
    search (rules, k)

pub returns-in_err-add_rows-clause-ones : goal.returns-in_err-add_rows-clause-ones
returns-in_err-add_rows-clause-ones g c = λ ones. omega (arith, c.loop-text.invariant.due_is ones, c.in_err-add_rows.ensures.ones ones)

pub loop-text-preserved : goal.loop-text-preserved
loop-text-preserved g c =
    let T = c.args.asked.now.segment.now in
    let X = c.args.asked.now.texts.now in
    let E = shape c.args.sequence.now.expr.now in
    let i = c.loop-text.text-index in
    let h = c.loop-text.invariant in
    let within = h.within in
    let count = c.len.ensures in
    let left : length c.loop-text.out + (c.args.room - c.len.result) ≡ c.args.room = omega (arith, within, count) in
    record {
      rows = next T E X i _ (c.args.room - c.len.result) c.loop-text.out c.add_rows.new.out c.requires.texts (slice_get-get_or X i _ c.loop-text-test.true) h.rows c.in_ok-add_rows.ensures.ok;
      within = within_room T E (c.args.room - c.len.result) c.args.room c.loop-text.out c.add_rows.new.out _ left c.in_ok-add_rows.ensures.ok;
      bound = first_place T (get_or X i 0 + 1);
      left = c.in_ok-add_rows.ensures.left;
      low = λ k l m. text_behind T X i k (get_or X i 0) (get_or X k 0) c.requires.texts (c.requires.texts.ascending i k 0 (omega (arith, l)) m);
      rises = omega (arith, h.rises, c.in_ok-add_rows.ensures.rises);
      due_is = λ ones. omega (arith, h.due_is ones, c.in_ok-add_rows.ensures.due ones);
    }

pub returns-clause-rows : goal.returns-clause-rows
returns-clause-rows g c = all_texts c.args.asked.now.segment.now (shape c.args.sequence.now.expr.now) c.args.asked.now.texts.now c.loop-text.text-index c.loop-text.out c.loop-text-test.false c.loop-text.invariant.rows

pub returns-clause-ones : goal.returns-clause-ones
returns-clause-ones g c = λ ones. omega (arith, c.loop-text.invariant.due_is ones)
