use Rattle.std.proofs.Common.{rules, ◌≡◌, ℕ, ◌+◌, ◌++◌, [], List, Err, IsErrOf, length, sym, subst, ap, ◌∙◌, arith}
use Rattle.std.proofs.lemmas.List.{append-nil, append_assoc, length-append}
use Rattle.mt_text_spec.specs.Orders.{row_cmp}
use Rattle.mt_match_spec.specs.Rows.{ListsAll}
use Rattle.mt_segment_spec.specs.Tables.{first_place}
use Rattle.mt_cql.specs.Shape.{shape}
use Rattle.mt_rows.specs.declared.error.EvalError.{EvalError}
use Rattle.mt_rows.specs.declared.error.EvalError.TheVariants.{TooManyRows}
use Rattle.mt_automaton.specs.RowsFrom.{HasLonger, IsRowOfText}
use Rattle.mt_eval_spec.specs.Told.{told}
use Rattle.mt_eval.specs.Sequences.{IsRowBelow}
use Rattle.mt_eval.proofs.Rowed.{all_rows, longer, next_place, none_yet}
use Rattle.mt_eval.proofs.scan.scan_tokens.Goals as goal

pub loop-place-init : goal.loop-place-init
loop-place-init g c =
    let T = c.args.segment.now in
    let E = shape c.args.sequence.now.expr.now in
    let by = c.args.sequence.now.by in
    let none : ListsAll row_cmp (λ row. IsRowBelow T E c.args.text by (first_place T c.args.text) row) [] =
    none_yet T E c.args.sequence.now.tests.now c.args.text c.requires.tests c.requires.text by c.requires.by in
    record {
      low = omega arith;
      rows = [];
      are = subst (λ (bound : ℕ). ListsAll row_cmp (λ row. IsRowBelow T E c.args.text by bound row) []) (sym c.text_bounds-first.ensures.begin) none;
      appended = sym (append-nil c.args.out.now);
      within = omega arith;
      rises = omega arith;
    }

pub returns-in_err-look_at-clause-more : goal.returns-in_err-look_at-clause-more
returns-in_err-look_at-clause-more g c =
    let T = c.args.segment.now in
    let E = shape c.args.sequence.now.expr.now in
    let tests = c.args.sequence.now.tests.now in
    let by = c.args.sequence.now.by in
    let h = c.loop-place.invariant in
    let place = c.loop-place.place in
    let long : length c.loop-place.out ≡ length c.args.out.now + length h.rows = ap length h.appended ∙ length-append c.args.out.now h.rows in
    let k : IsErrOf {E = EvalError} (Err c.in_err-look_at.field-0.0) TooManyRows → HasLonger (IsRowOfText (told T c.args.text) E c.args.text) c.args.room =
    λ e. let m = c.in_err-look_at.ensures.more e in
    longer T E tests c.args.text c.requires.tests c.requires.text by c.requires.by place place c.args.room h.rows m.1 (omega arith) h.are m.2
    (omega (arith, m.0, long, c.len.ensures, c.len-before_all.ensures)) in
    search (rules, k)

pub loop-place-preserved : goal.loop-place-preserved
loop-place-preserved g c =
    let T = c.args.segment.now in
    let E = shape c.args.sequence.now.expr.now in
    let tests = c.args.sequence.now.tests.now in
    let by = c.args.sequence.now.by in
    let h = c.loop-place.invariant in
    let place = c.loop-place.place in
    let r = c.in_ok-look_at.ensures.ok in
    let long : length c.loop-place.out ≡ length c.args.out.now + length h.rows = ap length h.appended ∙ length-append c.args.out.now h.rows in
    let both = length-append h.rows r.rows in
    record {
      low = omega (arith, h.low);
      rows = h.rows ++ r.rows;
      are = next_place T E tests c.args.text c.requires.tests c.requires.text by c.requires.by place place h.rows r.rows (omega arith) (λ p low early inside says. absurd (omega (arith, low, early))) h.are r.are;
      appended = r.appended ∙ ap (λ (rows : List _). rows ++ r.rows) h.appended ∙ append_assoc c.args.out.now h.rows r.rows;
      within = omega (arith, r.within, h.within, both, long, c.len.ensures, c.len-before_all.ensures);
      rises = omega (arith, h.rises, c.in_ok-look_at.ensures.rises);
    }

pub returns-clause-ok : goal.returns-clause-ok
returns-clause-ok g c =
    let T = c.args.segment.now in
    let E = shape c.args.sequence.now.expr.now in
    let tests = c.args.sequence.now.tests.now in
    let h = c.loop-place.invariant in
    let b = c.text_bounds-first.ensures in
    record {
      rows = h.rows;
      are = all_rows T E tests c.args.text c.requires.tests c.requires.text c.args.sequence.now.by c.requires.by c.loop-place.place h.rows
          (λ p low early inside says. absurd (omega (arith, low, early, b.end, c.loop-place-test.false))) h.are;
      within = h.within;
      appended = h.appended;
    }
