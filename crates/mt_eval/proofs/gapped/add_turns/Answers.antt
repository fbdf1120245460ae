use Rattle.std.proofs.Common.{rules, ◌≡◌, ◌+◌, ◌++◌, [], List, Err, IsErrOf, length, sym, ap, ◌∙◌, arith}
use Rattle.std.proofs.lemmas.List.{append-nil, append_assoc, length-append}
use Rattle.mt_cql.specs.Shape.{shape}
use Rattle.mt_rows.specs.declared.error.EvalError.{EvalError}
use Rattle.mt_rows.specs.declared.error.EvalError.TheVariants.{TooManyRows}
use Rattle.mt_automaton.specs.RowsFrom.{HasLonger, IsRowFrom}
use Rattle.mt_eval_spec.specs.Told.{told}
use Rattle.mt_eval.proofs.GapRows.{all_over, longer_over, next_over, none_short}
use Rattle.mt_eval.proofs.gapped.add_turns.Goals as goal

pub loop-turns-init : goal.loop-turns-init
loop-turns-init g c =
    let q = c.args.gapped.now in
    record {
      rows = [];
      are = none_short c.args.segment.now (shape q.expr.now) q.before.now q.gap.now q.after.now q.least q.most c.args.text c.requires.tests c.requires.text c.args.begin;
      appended = sym (append-nil c.args.out.now);
      within = omega arith;
      rises = omega arith;
    }

pub add_over-requires-clause-gap : goal.add_over-requires-clause-gap
add_over-requires-clause-gap g c =
    let met = c.requires.reach.met in
    let inside = met.inside in
    record { inside = omega (arith, inside, c.loop-turns-test.true); say = λ n l. met.say n (omega (arith, l, c.loop-turns-test.true)) }

pub returns-in_err-add_over-clause-more : goal.returns-in_err-add_over-clause-more
returns-in_err-add_over-clause-more g c =
    let T = c.args.segment.now in
    let q = c.args.gapped.now in
    let E = shape q.expr.now in
    let h = c.loop-turns.invariant in
    let long : length c.loop-turns.out ≡ length c.args.out.now + length h.rows = ap length h.appended ∙ length-append c.args.out.now h.rows in
    let k : IsErrOf {E = EvalError} (Err c.in_err-add_over.field-0.0) TooManyRows → HasLonger (IsRowFrom (told T c.args.text) E c.args.text c.args.begin) c.args.room =
    λ e. let m = c.in_err-add_over.ensures.more e in
    longer_over T E q.before.now q.gap.now q.after.now q.least q.most c.args.text c.requires.tests c.requires.text c.args.begin c.loop-turns.turns 0 c.args.room h.rows m.1 h.are m.2 (omega arith)
    (omega (arith, m.0, long, c.len.ensures, c.len-before_all.ensures)) in
    search (rules, k)

pub loop-turns-preserved : goal.loop-turns-preserved
loop-turns-preserved g c =
    let q = c.args.gapped.now in
    let h = c.loop-turns.invariant in
    let r = c.in_ok-add_over.ensures.ok in
    let long : length c.loop-turns.out ≡ length c.args.out.now + length h.rows = ap length h.appended ∙ length-append c.args.out.now h.rows in
    let both = length-append h.rows r.rows in
    record {
      rows = h.rows ++ r.rows;
      are = next_over c.args.segment.now (shape q.expr.now) q.before.now q.gap.now q.after.now q.least q.most c.args.text c.requires.tests c.requires.text c.args.begin c.loop-turns.turns h.rows r.rows h.are r.are;
      appended = r.appended ∙ ap (λ (rows : List _). rows ++ r.rows) h.appended ∙ append_assoc c.args.out.now h.rows r.rows;
      within = omega (arith, r.within, h.within, both, long, c.len.ensures, c.len-before_all.ensures);
      rises = omega (arith, h.rises, c.in_ok-add_over.ensures.rises);
    }

pub returns-clause-ok : goal.returns-clause-ok
returns-clause-ok g c =
    let q = c.args.gapped.now in
    let h = c.loop-turns.invariant in
    record {
      rows = h.rows;
      are = all_over c.args.segment.now (shape q.expr.now) q.before.now q.gap.now q.after.now q.least q.most c.args.text c.requires.tests c.requires.text c.args.begin c.args.reach c.loop-turns.turns h.rows c.requires.reach c.loop-turns-test.false h.are;
      within = h.within;
      appended = h.appended;
    }
