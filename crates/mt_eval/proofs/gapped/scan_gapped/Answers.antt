use Rattle.std.proofs.Common.{rules, ◌≡◌, ◌+◌, ◌-◌, ◌++◌, [], List, Err, IsErrOf, length, sym, ap, ◌∙◌, arith}
use Rattle.std.proofs.lemmas.List.{append-nil, append_assoc, length-append}
use Rattle.mt_cql.specs.Shape.{shape}
use Rattle.mt_rows.specs.declared.error.EvalError.{EvalError}
use Rattle.mt_rows.specs.declared.error.EvalError.TheVariants.{TooManyRows}
use Rattle.mt_automaton.specs.RowsFrom.{HasLonger, IsRowOfText}
use Rattle.mt_eval_spec.specs.Told.{told}
use Rattle.mt_eval.proofs.GapRows.{all_begins, longer_from, next_begin, none_begun}
use Rattle.mt_eval.proofs.Rowed.{next_first}
use Rattle.mt_eval.proofs.gapped.scan_gapped.Goals as goal

pub loop-begin-init : goal.loop-begin-init
loop-begin-init g c =
    record {
      rows = [];
      are = none_begun c.args.segment.now (shape c.args.gapped.now.expr.now) c.args.text;
      appended = sym (append-nil c.args.out.now);
      within = omega arith;
      rises = omega arith;
    }

pub returns-in_err-add_from-clause-more : goal.returns-in_err-add_from-clause-more
returns-in_err-add_from-clause-more g c =
    let T = c.args.segment.now in
    let E = shape c.args.gapped.now.expr.now in
    let h = c.loop-begin.invariant in
    let long : length c.loop-begin.out ≡ length c.args.out.now + length h.rows = ap length h.appended ∙ length-append c.args.out.now h.rows in
    let left = c.args.room - (c.len.result - c.len-before_all.result) in
    let k : IsErrOf {E = EvalError} (Err c.in_err-add_from.field-0.0) TooManyRows → HasLonger (IsRowOfText (told T c.args.text) E c.args.text) c.args.room =
    λ e. longer_from T E c.args.text c.loop-begin.begin left c.args.room h.rows h.are (c.in_err-add_from.ensures.more e) (omega (arith, long, c.len.ensures, c.len-before_all.ensures)) in
    search (rules, k)

pub loop-begin-preserved : goal.loop-begin-preserved
loop-begin-preserved g c =
    let h = c.loop-begin.invariant in
    let r = c.in_ok-add_from.ensures.ok in
    let long : length c.loop-begin.out ≡ length c.args.out.now + length h.rows = ap length h.appended ∙ length-append c.args.out.now h.rows in
    let both = length-append h.rows r.rows in
    record {
      rows = h.rows ++ r.rows;
      are = next_begin c.args.segment.now (shape c.args.gapped.now.expr.now) c.args.text c.loop-begin.begin h.rows r.rows h.are r.are;
      appended = r.appended ∙ ap (λ (rows : List _). rows ++ r.rows) h.appended ∙ append_assoc c.args.out.now h.rows r.rows;
      within = omega (arith, r.within, h.within, both, long, c.len.ensures, c.len-before_all.ensures);
      rises = omega (arith, h.rises, c.in_ok-add_from.ensures.rises);
    }

pub returns-clause-ok : goal.returns-clause-ok
returns-clause-ok g c =
    let T = c.args.segment.now in
    let h = c.loop-begin.invariant in
    let b = c.text_bounds-first.ensures in
    let next = next_first T c.args.text c.requires.text in
    record {
      rows = h.rows;
      are = all_begins T (shape c.args.gapped.now.expr.now) c.args.text c.loop-begin.begin h.rows (omega (arith, next, b.begin, b.end, c.loop-begin-test.false)) h.are;
      within = h.within;
      appended = h.appended;
    }
